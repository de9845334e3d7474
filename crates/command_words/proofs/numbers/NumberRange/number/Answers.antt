use Rattle.std.proofs.Common.{rules, ◌<◌, ◌^◌}
use Rattle.command_words.proofs.Parsed.{above_all}
use Rattle.command_words.proofs.numbers.NumberRange.number.Goals as goal

pub returns-in_default-clause-found : goal.returns-in_default-clause-found
returns-in_default-clause-found c =
    let small : c.args.self.most < 2 ^ 32 = search rules in
    above_all c.args.self c.args.text.now c.in_default.field-0 (search rules) small (rw c.in_default.is at c.parse.ensures.value.0)
