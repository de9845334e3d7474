use Rattle.std.proofs.Common.{arith}
use Rattle.json_strings.proofs.Turns.{short_turn}
use Rattle.json_strings.proofs.content.Content.escape.Goals as goal

pub returns-in_ok-add_bytes-in-Some-clause-told : goal.returns-in_ok-add_bytes-in-Some-clause-told
returns-in_ok-add_bytes-in-Some-clause-told c =
    let read = c.in-Some.ensures in
    short_turn _ _ c.args.text.now c.in-Some.byte _ c.in-len1-up.len_at_least read.0 read.1 c.in_ok-add_bytes-in-Some.ensures (omega arith)
