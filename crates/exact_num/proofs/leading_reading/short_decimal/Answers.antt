use Rattle.std.proofs.Common.{◌≡◌, ◌∙◌, ap, ℕ, ◌<◌, length, true, arith, rules}
use Rattle.exact_num.specs.Leading.{is_ended}
use Rattle.exact_num.specs.Spelling.{digits_value}
use Rattle.exact_num.proofs.LeadingNumbers.{decimal_leads}
use Rattle.exact_num.proofs.ShortDigits.{size_small}
use Rattle.exact_num.proofs.leading_reading.short_decimal.Goals as goal

pub returns : goal.returns
returns c =
    let read = c.short_digits-size.ensures in
    let small = size_small c.short_digits-size.result.0 _ read.small in
    let some : 0 < length c.short_digits-size.result.1.now = search rules in
    let ended : is_ended c.short_digits-size.result.2.now ≡ true = search rules in
    rw (c.of_size.ensures, read.text)
    (decimal_leads c.args.minus c.args.whole.now c.short_digits-size.result.1.now c.short_digits-size.result.2.now c.from.result c.requires.all c.requires.whole read.all some ended (c.from.ensures ∙ read.value ∙ ap (λ (n : ℕ). digits_value n c.short_digits-size.result.1.now) c.requires.value) (omega (arith, c.from.ensures)) (omega (arith, read.most)))
