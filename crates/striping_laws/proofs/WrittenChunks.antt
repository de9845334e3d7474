-- The entries of rows that can be written, and their chunks.
use Rattle.std.proofs.Common.{ℕ, ◌*◌, ◌^◌, ◌<◌, ◌≤◌, Bool, List, length, get_or, arith}
use Rattle.vs_bytes.specs.declared.leaf_columns.Leaf.{Leaf}
use Rattle.pages.specs.Written.{weights}
use Rattle.chunks.specs.PageCuts.{chunk_written}
use Rattle.shred_schema.specs.Groups.{Group}
use Rattle.shred_schema.specs.Leaves.{column_leaves}
use Rattle.shred_schema.specs.Recs.{RowRec}
use Rattle.level_striping.specs.Entries.{stripes}
use Rattle.level_striping.proofs.EntrySizes.{few_rows}
use Rattle.striping_laws.specs.Rows.{AreWritten, max_texts_len, min_page_bytes}
use Rattle.striping_laws.proofs.ChunkSizes.{chunk_most}
use Rattle.striping_laws.proofs.EntryWeights.{leaf_weights}
use Rattle.striping_laws.proofs.LeafEntries.{leaf_entries}

pub rows_few : (optional : Bool) (n : Group) (total : ℕ) (rows : List RowRec) (j : ℕ) → AreWritten optional n total rows → length (stripes optional n rows j) ≤ total
rows_few optional n total rows j all = (few_rows optional n total rows j all.within).few

pub rows_light : (optional : Bool) (n : Group) (total : ℕ) (rows : List RowRec) (j : ℕ) (other : Leaf) → AreWritten optional n total rows → j < length (column_leaves optional n) → weights (get_or (column_leaves optional n) j other).phys (stripes optional n rows j) ≤ 20 * total
rows_light optional n total rows j other all inside =
    omega (arith, leaf_weights optional n j other (stripes optional n rows j) inside (leaf_entries optional n rows j other all.of all.fit inside), (few_rows optional n total rows j all.within).light)

pub chunk_short : (optional : Bool) (n : Group) (total : ℕ) (rows : List RowRec) (j page_bytes : ℕ) (other : Leaf) → AreWritten optional n total rows → total ≤ max_texts_len → min_page_bytes ≤ page_bytes → j < length (column_leaves optional n) →
    length (chunk_written (get_or (column_leaves optional n) j other) page_bytes (stripes optional n rows j)) < 2 ^ 30
chunk_short optional n total rows j page_bytes other all most least inside =
    omega (arith, most, chunk_most (get_or (column_leaves optional n) j other) page_bytes least (stripes optional n rows j), rows_light optional n total rows j other all inside)
