use Rattle.std.proofs.Common.{◌≡◌, ◌-◌}
use Rattle.shred_schema.specs.Ranges.{every}
use Rattle.record_assembly.specs.Reading.{are_nil}
use Rattle.record_taking.specs.Parts.{rests}
use Rattle.record_taking.proofs.taking.are_done.Given as goal

abbrev pub invariant-loop-leaf : goal.invariant-loop-leaf
invariant-loop-leaf l = are_nil every l.leaf (l.to - l.leaf) (rests l.lists l.cursors) ≡ are_nil every l.from (l.to - l.from) (rests l.lists l.cursors)
