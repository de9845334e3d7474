use Rattle.std.proofs.Common.{◌≡◌, ◌-◌}
use Rattle.shred_schema.specs.Ranges.{every}
use Rattle.record_assembly.specs.Reading.{are_null}
use Rattle.column_assembly.specs.Leaves.{heads, Passed}
use Rattle.column_assembly.proofs.leaf_range.take_nulls.Given as goal

abbrev pub invariant-loop-leaf : goal.invariant-loop-leaf
invariant-loop-leaf l = Passed l.fn.cursors l.cursors l.from (l.leaf - l.from) l.lists × (are_null every l.leaf (l.to - l.leaf) l.rep l.def (heads l.lists l.fn.cursors) ≡ are_null every l.from (l.to - l.from) l.rep l.def (heads l.lists l.fn.cursors))
