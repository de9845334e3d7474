use Rattle.std.proofs.Common.{arith}
use Rattle.json_strings.proofs.Turns.{unit_turn}
use Rattle.json_strings.proofs.content.Content.unit.Goals as goal

pub returns-in_ok-add_unit-in-Some-clause-told : goal.returns-in_ok-add_unit-in-Some-clause-told
returns-in_ok-add_unit-in-Some-clause-told c =
    let read = c.in-Some.ensures.value in
    unit_turn _ _ c.args.text.now c.in-Some.unit _ c.in-len4-up.len_at_least read.0 read.1 c.in_ok-add_unit-in-Some.ensures (omega arith)
