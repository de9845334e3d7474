-- The entries of a group's rows can be written.
use Rattle.std.proofs.Common.{◌≡◌, ◌∙◌, sym, ap, subst, ℕ, ◌<◌, ◌≤◌, Bool, List, [], length, get_or, arith}
use Rattle.vs_bytes.specs.declared.leaf_columns.Entry.{Entry}
use Rattle.vs_bytes.specs.declared.leaf_columns.Leaf.{Leaf}
use Rattle.shred_schema.specs.Groups.{Group}
use Rattle.shred_schema.specs.Leaves.{column_leaves}
use Rattle.shred_schema.specs.Recs.{RowRec}
use Rattle.level_striping.specs.Entries.{stripes}
use Rattle.striping_laws.specs.Rows.{min_page_bytes}
use Rattle.striping_laws.proofs.LeafEntries.{leaf_entries}
use Rattle.striping_laws.proofs.WrittenChunks.{rows_light, chunk_short}
use Rattle.group_writing.specs.FitsChunk.{FitsChunk}
use Rattle.group_writing.specs.GroupChunks.{Path, chunks_from, metas_from, chunks_written, chunk_metas}
use Rattle.group_writing.proofs.Chunks.{chunks_same, metas_same}
use Rattle.group_writing.specs.GroupRows.{IsGroup}

pub group_fits : (optional : Bool) (n : Group) (rows : List RowRec) (page_bytes : ℕ) (leaves : List Leaf) (entries : List (List Entry)) → IsGroup optional n rows → min_page_bytes ≤ page_bytes → leaves ≡ column_leaves optional n → ((j : ℕ) → get_or entries j [] ≡ stripes optional n rows j) →
    (j : ℕ) (other : Leaf) → j < length leaves → FitsChunk (get_or leaves j other) page_bytes (get_or entries j [])
group_fits optional n rows page_bytes leaves entries group least all own j other inside =
    subst (λ (xs : List Entry). FitsChunk (get_or leaves j other) page_bytes xs) (sym (own j))
    (subst (λ (ls : List Leaf). FitsChunk (get_or ls j other) page_bytes (stripes optional n rows j)) (sym all) fits)
  where
    there : j < length (column_leaves optional n)
    there = omega (arith, inside, ap (length {A = Leaf}) all)

    fits : FitsChunk (get_or (column_leaves optional n) j other) page_bytes (stripes optional n rows j)
    fits = record {
      of = leaf_entries optional n rows j other group.written.of group.written.fit there;
      light = omega (arith, rows_light optional n group.total rows j other group.written there, group.few);
      short = chunk_short optional n group.total rows j page_bytes other group.written group.few least there;
    }

-- the chunks of the leaves' entries are those of the rows

pub chunks_are : (page_bytes : ℕ) (optional : Bool) (n : Group) (rows : List RowRec) (leaves : List Leaf) (entries : List (List Entry)) → leaves ≡ column_leaves optional n → ((j : ℕ) → get_or entries j [] ≡ stripes optional n rows j) →
    chunks_from page_bytes (λ j. get_or entries j []) 0 leaves ≡ chunks_written page_bytes optional n rows
unfolding chunks_written
chunks_are page_bytes optional n rows leaves entries all own =
    chunks_same page_bytes (λ j. get_or entries j []) (stripes optional n rows) 0 leaves own ∙ ap (chunks_from page_bytes (stripes optional n rows) 0) all

pub metas_are : (page_bytes : ℕ) (optional : Bool) (n : Group) (paths : List Path) (place : ℕ) (rows : List RowRec) (leaves : List Leaf) (entries : List (List Entry)) → leaves ≡ column_leaves optional n → ((j : ℕ) → get_or entries j [] ≡ stripes optional n rows j) →
    metas_from page_bytes (λ j. get_or entries j []) 0 place leaves paths ≡ chunk_metas page_bytes optional n paths place rows
unfolding chunk_metas
metas_are page_bytes optional n paths place rows leaves entries all own =
    metas_same page_bytes (λ j. get_or entries j []) (stripes optional n rows) 0 place leaves paths own
    ∙ ap (λ (ls : List Leaf). metas_from page_bytes (stripes optional n rows) 0 place ls paths) all
