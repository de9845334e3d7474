use Rattle.std.proofs.Common.{arith}
use Rattle.json_strings.proofs.Turns.{run_turn}
use Rattle.json_strings.proofs.content.Content.run.Goals as goal

pub returns-clause-told : goal.returns-clause-told
returns-clause-told c =
    let len = c.plain_len-len in
    run_turn _ _ len.result c.args.text.now c.split_at.result.0.now _ (omega arith) len.ensures.within len.ensures.plain c.split_at.ensures.front c.split_at.ensures.back c.in_ok-add_bytes.ensures
