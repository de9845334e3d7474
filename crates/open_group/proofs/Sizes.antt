-- The structs of a group that is written have bytes, and its chunks are short.
use Rattle.std.proofs.Common.{◌≡◌, ℕ, suc, ◌+◌, ◌*◌, ◌^◌, ◌<◌, ◌≤◌, true, List, [], ◌∷◌, length, get_or, ap, subst, refl, arith}
use Rattle.std.specs.List.{AllByRecursion}
use Rattle.std.proofs.lemmas.List.Sums.{sum_by-cons, count_by-le-length}
use Rattle.std.proofs.lemmas.List.Elements.{All-from_recursion}
use Rattle.std.specs.Prelude.{is_none}
use Rattle.vs_bytes.specs.declared.leaf_columns.Entry.{Entry}
use Rattle.vs_bytes.specs.declared.leaf_columns.Leaf.{Leaf}
use Rattle.chunks.specs.PageCuts.{chunk_written}
use Rattle.thrift_structs.specs.Listed.{ListFits}
use Rattle.thrift_structs.specs.ChunkWriting.{ChunkFits}
use Rattle.shred_schema.specs.Groups.{Group}
use Rattle.shred_schema.specs.Lawful.{IsWellFormed}
use Rattle.shred_schema.specs.Leaves.{column_leaves}
use Rattle.shred_schema.specs.Recs.{RowRec}
use Rattle.shred_schema.proofs.NodeFacts.{column_leaf_count}
use Rattle.level_striping.specs.Entries.{stripes}
use Rattle.level_striping.specs.Sizes.{RowsAreWithin}
use Rattle.striping_laws.specs.Rows.{AreWritten, max_texts_len, min_page_bytes}
use Rattle.striping_laws.proofs.WrittenChunks.{rows_few, chunk_short}
use Rattle.group_writing.specs.GroupChunks.{Path, chunks_size, chunks_from, metas_from, chunks_written, chunk_metas}
use Rattle.open_group.specs.OpenGroups.{IsShortPath}

each_fits : (page : ℕ) (es : ℕ → List Entry) (j place : ℕ) (ls : List Leaf) (ps : List Path) → ((k : ℕ) → length (es k) < 2 ^ 63) → AllByRecursion IsShortPath ps
    → AllByRecursion ChunkFits (metas_from page es j place ls ps)
unfolding metas_from
each_fits page es j place [] ps few short = tt
each_fits page es j place (l ∷ ls) [] few short = tt
each_fits page es j place (l ∷ ls) (p ∷ ps) few short = (
  record { encodings = omega arith; path_in_schema = short.0; statistics = omega (arith, few j, count_by-le-length (λ (e : Entry). is_none e.value) (es j)) },
  each_fits page es (j + 1) (place + length (chunk_written l page (es j))) ls ps few short.1,
)

metas_count : (page : ℕ) (es : ℕ → List Entry) (j place : ℕ) (ls : List Leaf) (ps : List Path) → length ps ≡ length ls → length (metas_from page es j place ls ps) ≡ length ls
unfolding metas_from
metas_count page es j place [] ps same = refl
metas_count page es j place (l ∷ ls) [] same = absurd (omega arith)
metas_count page es j place (l ∷ ls) (p ∷ ps) same =
    ap suc (metas_count page es (j + 1) (place + length (chunk_written l page (es j))) ls ps (omega arith))

chunks_small : (page : ℕ) (es : ℕ → List Entry) (j : ℕ) (ls : List Leaf)
    → ((k : ℕ) (other : Leaf) → k < length ls → length (chunk_written (get_or ls k other) page (es (j + k))) < 2 ^ 30) → chunks_size (chunks_from page es j ls) ≤ 2 ^ 30 * length ls
unfolding chunks_from
chunks_small page es j [] short = omega arith
chunks_small page es j (l ∷ ls) short =
    let first : length (chunk_written l page (es j)) < 2 ^ 30 = subst (λ (i : ℕ). length (chunk_written l page (es i)) < 2 ^ 30) (omega arith) (short 0 l (omega arith)) in
    let rest : chunks_size (chunks_from page es (j + 1) ls) ≤ 2 ^ 30 * length ls =
    chunks_small page es (j + 1) ls (λ k other below. subst (λ (i : ℕ). length (chunk_written (get_or ls k other) page (es i)) < 2 ^ 30) (omega arith) (short (suc k) other (omega arith))) in
    omega (arith, first, rest, sum_by-cons {X = List ℕ} length (chunk_written l page (es j)) (chunks_from page es (j + 1) ls))

-- the structs of a group's chunks
pub metas_fit : (n : Group) (paths : List Path) (page place total : ℕ) (rows : List RowRec) → IsWellFormed n → AreWritten true n total rows → total ≤ max_texts_len
    → length paths ≡ length (column_leaves true n) → AllByRecursion IsShortPath paths → ListFits ChunkFits (chunk_metas page true n paths place rows)
unfolding chunk_metas
metas_fit n paths page place total rows well written few same short = record {
  size = omega (arith, metas_count page (stripes true n rows) 0 place (column_leaves true n) paths same, column_leaf_count true n, well.few);
  each = All-from_recursion ChunkFits _ (each_fits page (stripes true n rows) 0 place (column_leaves true n) paths (λ k. omega (arith, rows_few true n total rows k written)) short);
}

-- the chunks have fewer than 2^30 bytes each
pub group_sized : (n : Group) (paths : List Path) (page place total : ℕ) (rows : List RowRec) → AreWritten true n total rows → total ≤ max_texts_len → min_page_bytes ≤ page
    → length paths ≡ length (column_leaves true n) → chunks_size (chunks_written page true n rows) ≤ 2 ^ 30 * length (chunk_metas page true n paths place rows)
unfolding chunks_written chunk_metas
group_sized n paths page place total rows written few least same =
    let small : chunks_size (chunks_from page (stripes true n rows) 0 (column_leaves true n)) ≤ 2 ^ 30 * length (column_leaves true n) =
    chunks_small page (stripes true n rows) 0 (column_leaves true n)
    (λ k other below. subst (λ (i : ℕ). length (chunk_written (get_or (column_leaves true n) k other) page (stripes true n rows i)) < 2 ^ 30) (omega arith) (chunk_short true n total rows k page other written few least below)) in
    omega (arith, small, metas_count page (stripes true n rows) 0 place (column_leaves true n) paths same)

-- there are no more rows than their texts, with 1 more for each
pub rows_within : (n : Group) (total : ℕ) (rows : List RowRec) → RowsAreWithin n total rows → length rows ≤ total
rows_within n total [] within = omega arith
rows_within n total (row ∷ rows) within = omega (arith, within.2, rows_within n within.1 rows within.4)
