use Rattle.std.proofs.Common.{◌≡◌, ◌-◌, ◌≤◌, ◌++◌, length, drop}
use Rattle.chunks.specs.PageCuts.{chunk_written}
use Rattle.chunks.proofs.chunk_writing.write_chunk.Given as goal

abbrev pub invariant-loop-at : goal.invariant-loop-at
invariant-loop-at l = record {
  written : l.bytes.items ++ chunk_written l.leaf l.page_bytes (drop l.at l.entries) ≡ chunk_written l.leaf l.page_bytes l.entries;
  inside : l.at ≤ length l.entries;
}

abbrev pub decreases-loop-at : goal.decreases-loop-at
decreases-loop-at l = length l.entries - l.at
