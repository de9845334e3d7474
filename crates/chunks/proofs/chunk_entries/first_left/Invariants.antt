use Rattle.std.proofs.Common.{◌≡◌, drop}
use Rattle.chunks.specs.Pieces.{all_of}
use Rattle.chunks.proofs.chunk_entries.first_left.Given as goal

abbrev pub invariant-loop-k : goal.invariant-loop-k
invariant-loop-k l = all_of (drop l.k l.pages) ≡ all_of (drop l.from l.pages)
