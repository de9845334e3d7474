use Rattle.std.proofs.Common.{◌≡◌, ℕ, ◌<◌, [], true, length, get_or}
use Rattle.shred_schema.specs.Ranges.{reads}
use Rattle.group_reading.specs.ChunkEntries.{has_rows}
use Rattle.store_read.specs.FileGroups.{rows_in}
use Rattle.store_read.proofs.GroupWalks.{GroupWalk}
use Rattle.store_read.proofs.group_chunks.read_leaves.Given as goal

abbrev pub invariant-loop-j : goal.invariant-loop-j
invariant-loop-j g l = record {
  walk : GroupWalk (g.S.Shelf.seen l.initial.shelf) (g.S.Shelf.seen l.shelf) l.name (reads l.mask) l.end l.column l.group (length l.mask) l.j l.leaves;
  count : length l.leaves ≡ l.j;
  rows : (k : ℕ) → k < l.j → reads l.mask k ≡ true → has_rows (rows_in l.group) (get_or l.leaves k []) ≡ true;
}
