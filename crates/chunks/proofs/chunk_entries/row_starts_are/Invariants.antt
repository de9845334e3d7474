use Rattle.std.proofs.Common.{◌≡◌, ◌+◌, drop}
use Rattle.chunks.specs.Pieces.{all_of}
use Rattle.chunks.specs.RowStarts.{row_starts}
use Rattle.chunks.proofs.chunk_entries.row_starts_are.Given as goal

-- the rows that are still asked for, beside those that begin in the pages that are left
abbrev pub invariant-loop-k : goal.invariant-loop-k
invariant-loop-k l = row_starts (all_of (drop l.from l.pages)) + l.left ≡ l.rows + row_starts (all_of (drop l.k l.pages))
