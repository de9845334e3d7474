-- The chunks that are written for rows, read.
use Rattle.std.specs.Prelude.{ℕ, Bool, List, length, slice_index_or, Result}
use Rattle.vs_bytes.specs.declared.leaf_columns.Entry.{Entry}
use Rattle.vs_bytes.specs.declared.leaf_columns.Leaf.{Leaf}
use Rattle.vs_bytes.specs.declared.rule.Rule.{Rule}
use Rattle.chunks.specs.PageCuts.{chunk_written}
use Rattle.shred_schema.specs.Groups.{Group}
use Rattle.shred_schema.specs.Leaves.{column_leaves}
use Rattle.shred_schema.specs.Recs.{RowRec}
use Rattle.level_striping.specs.Entries.{stripes}
use Rattle.group_reading.specs.ChunkEntries.{chunk_entries}

-- the entries of the chunk of leaf j; `other` stands in for a leaf that isn't there
abbrev pub written_chunk_entries : Bool → Group → ℕ → List RowRec → Leaf → ℕ → Result (List Entry) Rule
written_chunk_entries optional n page_bytes rows other j =
    chunk_entries (slice_index_or (column_leaves optional n) j other) (length (stripes optional n rows j)) (length rows)
    (chunk_written (slice_index_or (column_leaves optional n) j other) page_bytes (stripes optional n rows j))
