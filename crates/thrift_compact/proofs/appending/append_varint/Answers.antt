use Rattle.std.proofs.Common.{◌∙◌, arith}
use Rattle.vs_bytes.proofs.Growing.{grows_more}
use Rattle.thrift_compact.proofs.Appended.{more_digits}
use Rattle.thrift_compact.proofs.appending.append_varint.Goals as goal

pub loop-turn-preserved : goal.loop-turn-preserved
loop-turn-preserved c =
    let turn = c.loop-turn.turn in
    let left = c.loop-turn.left in
    let old = c.loop-turn.into.items in
    record {
      all = rw c.in_ok-push-2.ensures.items (more_digits turn left old (omega (arith, c.loop-turn-test.true)) (omega (arith, c.if-left-lt128.false))) ∙ c.loop-turn.invariant.all;
      grown = rw c.in_ok-push-2.ensures.items (grows_more _ _ _ c.loop-turn.invariant.grown);
    }
