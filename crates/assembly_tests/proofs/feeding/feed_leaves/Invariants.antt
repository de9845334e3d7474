use Rattle.std.specs.Str.{IsUtf8}
use Rattle.shred_schema.specs.Views.{group_of}
use Rattle.row_assembler.specs.Assembly.{IsFor}
use Rattle.assembly_tests.proofs.feeding.feed_leaves.Given as goal

abbrev pub invariant-loop-leaf : goal.invariant-loop-leaf
invariant-loop-leaf l = record {
  column : IsFor l.assembler l.column.optional (group_of l.column.node) l.mask;
  text : IsUtf8 l.left;
}
