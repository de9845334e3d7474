use Rattle.std.proofs.Common.{◌∷◌, [], ap, length, length-append, arith}
use Rattle.row_assembler.proofs.Places.{empty_more}
use Rattle.row_assembler.proofs.leaf_places.empty_cursors.Goals as goal

pub loop-leaf-preserved : goal.loop-leaf-preserved
loop-leaf-preserved c = (
  omega (arith, ap length c.in_ok-push.ensures.items, length-append c.loop-leaf.cursors.items (c.new.result ∷ []), c.loop-leaf.invariant.0),
  empty_more c.loop-leaf.cursors.items c.push.new.self.items c.new.result c.in_ok-push.ensures.items c.new.ensures c.loop-leaf.invariant.1,
)
