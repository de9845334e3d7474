use Rattle.std.proofs.Common.{◌≡◌, ◌≤◌, ◌++◌, length}
use Rattle.chunks.proofs.chunk_entries.ChunkEntries.take.Given as goal

-- what was taken, and what is left
abbrev pub invariant-loop-self : goal.invariant-loop-self
invariant-loop-self l = record {
  taken : l.found.items ++ l.self ≡ l.fn.self;
  most : length l.found.items ≤ l.most;
}

abbrev pub decreases-loop-self : goal.decreases-loop-self
decreases-loop-self l = length l.self
