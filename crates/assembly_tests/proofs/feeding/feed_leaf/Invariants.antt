use Rattle.shred_schema.specs.Views.{group_of}
use Rattle.row_assembler.specs.Assembly.{IsFor}
use Rattle.assembly_tests.proofs.feeding.feed_leaf.Given as goal

abbrev pub invariant-loop-entry : goal.invariant-loop-entry
invariant-loop-entry l = IsFor l.assembler l.column.optional (group_of l.column.node) l.mask
