use Rattle.std.proofs.Common.{◌≡◌, ◌-◌, length}
use Rattle.shred_schema.specs.Ranges.{reads, none_read}
use Rattle.row_assembler.proofs.leaf_places.reads_any.Given as goal

abbrev pub invariant-loop-leaf : goal.invariant-loop-leaf
invariant-loop-leaf l = none_read (reads l.mask) l.leaf (length l.mask - l.leaf) ≡ none_read (reads l.mask) 0 (length l.mask)
