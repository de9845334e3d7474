use Rattle.std.proofs.Common.{◌≡◌, ◌∙◌, true, arith, rules}
use Rattle.exact_num.specs.Leading.{is_ended}
use Rattle.exact_num.specs.Parsing.{is_whole}
use Rattle.exact_num.proofs.LeadingNumbers.{whole_leads}
use Rattle.exact_num.proofs.ShortDigits.{size_small}
use Rattle.exact_num.proofs.leading_reading.short_unsigned.Goals as goal

pub returns-else-not-is_ended : goal.returns-else-not-is_ended
returns-else-not-is_ended c =
    let read = c.short_digits-size.ensures in
    let small = size_small c.short_digits-size.result.0 _ read.small in
    let whole : is_whole c.short_digits-size.result.1.now ≡ true = search rules in
    let ended : is_ended c.short_digits-size.result.2.now ≡ true = search rules in
    rw (c.of_size.ensures, read.text)
    (whole_leads c.args.minus c.short_digits-size.result.1.now c.short_digits-size.result.2.now c.from.result read.all whole ended (c.from.ensures ∙ read.value) (omega (arith, c.from.ensures)))
