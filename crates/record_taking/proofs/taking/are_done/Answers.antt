use Rattle.std.proofs.Common.{◌∙◌, sym, arith}
use Rattle.record_taking.proofs.ItemTurns.{nil_on}
use Rattle.record_taking.proofs.taking.are_done.Goals as goal

pub loop-leaf-preserved : goal.loop-leaf-preserved
loop-leaf-preserved c = nil_on c.args.lists c.loop-leaf.leaf c.args.to c.args.cursors.now (omega arith) (sym c.goes_on.ensures ∙ c.if-goes_on.false) ∙ c.loop-leaf.invariant
