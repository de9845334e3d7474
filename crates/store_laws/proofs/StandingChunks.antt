-- The chunks of a group stand in their file where their structs say.
use Rattle.std.proofs.Common.{◌≡◌, ◌∙◌, refl, sym, ap, subst, ℕ, zero, suc, ◌+◌, ◌<◌, ◌≤◌, List, [], ◌∷◌, ◌++◌, length, take, get_or, Option, Some, arith}
use Rattle.std.specs.Prelude.{slice_get}
use Rattle.std.specs.List.{concat}
use Rattle.std.proofs.Math.Seq.{drop-append_seam, take-append_seam}
use Rattle.std.proofs.lemmas.List.{append_assoc, length-append}
use Rattle.vs_bytes.specs.Numbers.{part}
use Rattle.vs_bytes.specs.declared.leaf_columns.Entry.{Entry}
use Rattle.vs_bytes.specs.declared.leaf_columns.Leaf.{Leaf}
use Rattle.chunks.specs.PageCuts.{chunk_written}
use Rattle.thrift_structs.specs.declared.column_chunks.ChunkMeta.{ChunkMeta}
use Rattle.group_writing.specs.GroupChunks.{Path, chunk_meta, chunks_from, metas_from}

-- the chunk of a leaf's entries stands between two places
pub record Stands (file : List ℕ) (low high : ℕ) (leaf : Leaf) (chunk : List ℕ) (es : List Entry) (meta : Option ChunkMeta) : Type 0 where
  pub path : Path
  pub at : ℕ
  pub is : meta ≡ Some (chunk_meta leaf path at (length chunk) es)
  pub after : low ≤ at
  pub before : at + length chunk ≤ high
  pub bytes : part file at (length chunk) ≡ chunk

part_between : (front chunk rest : List ℕ) → part (front ++ (chunk ++ rest)) (length front) (length chunk) ≡ chunk
part_between front chunk rest = ap (take (length chunk)) (drop-append_seam front (chunk ++ rest)) ∙ take-append_seam chunk rest

wider : (file : List ℕ) (low high first last : ℕ) (leaf : Leaf) (chunk : List ℕ) (es : List Entry) (meta : Option ChunkMeta) → Stands file low high leaf chunk es meta → first ≤ low → high ≤ last → Stands file first last leaf chunk es meta
wider file low high first last leaf chunk es meta s before after = record {
  path = s.path;
  at = s.at;
  is = s.is;
  after = omega (arith, s.after, before);
  before = omega (arith, s.before, after);
  bytes = s.bytes;
}

module _ (page_bytes : ℕ) (es : ℕ → List Entry) (file back : List ℕ) (other : Leaf) where
  pub chunk_stands : (leaves : List Leaf) (paths : List Path) (j place i k : ℕ) (front : List ℕ) → file ≡ front ++ (concat (chunks_from page_bytes es j leaves) ++ back) → place ≡ length front → k ≡ j + i → i < length leaves → length paths ≡ length leaves
      → Stands file place (place + length (concat (chunks_from page_bytes es j leaves))) (get_or leaves i other) (chunk_written (get_or leaves i other) page_bytes (es k)) (es k) (slice_get (metas_from page_bytes es j place leaves paths) i)
  unfolding chunks_from metas_from
  chunk_stands [] paths j place i k front is at number inside same = absurd (omega (arith, inside))
  chunk_stands (leaf ∷ leaves) [] j place i k front is at number inside same = absurd (omega (arith, same))
  chunk_stands (leaf ∷ leaves) (path ∷ paths) j place zero k front is at number inside same =
      let here : j ≡ k = omega (arith, number) in
      let chunk : List ℕ = chunk_written leaf page_bytes (es j) in
      let later : List ℕ = concat (chunks_from page_bytes es (j + 1) leaves) in
      let whole : file ≡ front ++ (chunk ++ (later ++ back)) = is ∙ ap (λ xs. front ++ xs) (append_assoc chunk later back) in
      let cut : part file place (length chunk) ≡ chunk = ap (λ xs. part xs place (length chunk)) whole ∙ (ap (λ n. part (front ++ (chunk ++ (later ++ back))) n (length chunk)) at ∙ part_between front chunk (later ++ back)) in
      subst (λ (n : ℕ). Stands file place (place + length (chunk ++ later)) leaf (chunk_written leaf page_bytes (es n)) (es n) (Some (chunk_meta leaf path place (length chunk) (es j)))) here
      (record { path = path; at = place; is = refl; after = omega arith; before = omega (arith, length-append chunk later); bytes = cut })
  chunk_stands (leaf ∷ leaves) (path ∷ paths) j place (suc i) k front is at number inside same =
      let chunk : List ℕ = chunk_written leaf page_bytes (es j) in
      let later : List ℕ = concat (chunks_from page_bytes es (j + 1) leaves) in
      let whole : file ≡ (front ++ chunk) ++ (later ++ back) = is ∙ (ap (λ xs. front ++ xs) (append_assoc chunk later back) ∙ sym (append_assoc front chunk (later ++ back))) in
      let next : place + length chunk ≡ length (front ++ chunk) = omega (arith, at, length-append front chunk) in
      wider file (place + length chunk) (place + length chunk + length later) place (place + length (chunk ++ later)) (get_or leaves i other) (chunk_written (get_or leaves i other) page_bytes (es k)) (es k) _
      (chunk_stands leaves paths (j + 1) (place + length chunk) i k (front ++ chunk) whole next (omega (arith, number)) (omega (arith, inside)) (omega (arith, same)))
      (omega arith) (omega (arith, length-append chunk later))
