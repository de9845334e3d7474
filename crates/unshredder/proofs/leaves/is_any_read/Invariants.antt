use Rattle.std.proofs.Common.{◌≡◌, ◌-◌}
use Rattle.shred_schema.specs.Ranges.{reads, is_any_read}
use Rattle.unshredder.proofs.leaves.is_any_read.Given as goal

abbrev pub invariant-loop-leaf : goal.invariant-loop-leaf
invariant-loop-leaf l = is_any_read (reads l.mask) l.leaf (l.leaf-end - l.leaf) ≡ is_any_read (reads l.mask) l.first l.count
