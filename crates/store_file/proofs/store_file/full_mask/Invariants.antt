use Rattle.std.proofs.Common.{◌≡◌, true, replicate}
use Rattle.store_file.proofs.store_file.full_mask.Given as goal

abbrev pub invariant-loop-leaf : goal.invariant-loop-leaf
invariant-loop-leaf l = l.mask ≡ replicate l._leaf true
