use Rattle.std.proofs.Common.{◌≡◌, ℕ, ◌+◌, ◌*◌, ◌^◌, ◌≤◌, [], ◌++◌, get_or, drop}
use Rattle.group_writing.specs.GroupChunks.{chunks_from, metas_from, chunks_size}
use Rattle.group_writing.proofs.group_chunks.put_chunks.Given as goal

abbrev pub invariant-loop-j : goal.invariant-loop-j
invariant-loop-j l = record {
  chunks : l.group.chunks ++ chunks_from l.page_bytes (λ k. get_or l.fn.entries k []) l.j (drop l.j l.leaves) ≡ chunks_from l.page_bytes (λ k. get_or l.fn.entries k []) 0 l.leaves;
  metas : l.group.metas ++ metas_from l.page_bytes (λ k. get_or l.fn.entries k []) l.j (l.place + l.group.size) (drop l.j l.leaves) (drop l.j l.paths) ≡ metas_from l.page_bytes (λ k. get_or l.fn.entries k []) 0 l.place l.leaves l.paths;
  size : l.group.size ≡ chunks_size l.group.chunks;
  small : l.group.size ≤ l.j * 2 ^ 30;
  left : (k : ℕ) → l.j ≤ k → get_or l.entries k [] ≡ get_or l.fn.entries k [];
}
