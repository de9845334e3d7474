use Rattle.std.proofs.Common.{◌≡◌, length}
use Rattle.striping_cost.proofs.turns.mask_of.Given as goal

abbrev pub invariant-loop-leaf : goal.invariant-loop-leaf
invariant-loop-leaf l = length l.mask ≡ l.leaf
