use Rattle.std.proofs.Common.{◌≤◌, [], length, get_or}
use Rattle.shred_schema.specs.Views.{group_of}
use Rattle.row_assembler.specs.Assembly.{IsFor}
use Rattle.group_reading.specs.Filling.{Filled}
use Rattle.group_reading.proofs.leaf_filling.fill_leaf.Given as goal

abbrev pub invariant-loop-alloc : goal.invariant-loop-alloc
invariant-loop-alloc l = record {
  column : IsFor l.assembler l.column.optional (group_of l.column.node) l.mask;
  filled : Filled l.initial.assembler l.initial.chunks l.assembler l.chunks;
  some : 1 ≤ l.most;
}

abbrev pub decreases-loop-alloc : goal.decreases-loop-alloc
decreases-loop-alloc l = length (get_or l.chunks l.leaf [])
