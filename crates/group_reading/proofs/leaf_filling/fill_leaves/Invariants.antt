use Rattle.std.proofs.Common.{◌≡◌, ◌<◌, ℕ, [], true, get_or}
use Rattle.shred_schema.specs.Ranges.{reads}
use Rattle.shred_schema.specs.Views.{group_of}
use Rattle.row_assembler.specs.Assembly.{IsFor}
use Rattle.group_reading.specs.Filling.{Filled}
use Rattle.group_reading.proofs.leaf_filling.fill_leaves.Given as goal

abbrev pub invariant-loop-leaf : goal.invariant-loop-leaf
invariant-loop-leaf l = record {
  column : IsFor l.assembler l.column.optional (group_of l.column.node) l.mask;
  filled : Filled l.initial.assembler l.initial.chunks l.assembler l.chunks;
  spent : l.all ≡ true → (k : ℕ) → k < l.leaf → reads l.mask k ≡ true → get_or l.chunks k [] ≡ [];
}
