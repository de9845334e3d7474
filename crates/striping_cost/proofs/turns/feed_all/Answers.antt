use Rattle.striping_cost.proofs.turns.feed_all.Goals as goal
use Rattle.striping_cost.proofs.turns.feed_all.Goals.{then-read-leaf+then-leaf-len+in_ok-feed, else-read-leaf}

pub loop-leaf-preserved : goal.loop-leaf-preserved
loop-leaf-preserved c = elim c.if-read-leaf.branch [
  | then-read-leaf+then-leaf-len+in_ok-feed w ↦ rw w.assembler-is (w.feed.ensures.column _ _ _ c.loop-leaf.invariant)
  | else-read-leaf w ↦ rw w.assembler-is c.loop-leaf.invariant
]
