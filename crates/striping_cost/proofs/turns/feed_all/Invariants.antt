use Rattle.shred_schema.specs.Views.{group_of}
use Rattle.row_assembler.specs.Assembly.{IsFor}
use Rattle.striping_cost.proofs.turns.feed_all.Given as goal

abbrev pub invariant-loop-leaf : goal.invariant-loop-leaf
invariant-loop-leaf l = IsFor l.assembler l.column.optional (group_of l.column.node) l.mask
