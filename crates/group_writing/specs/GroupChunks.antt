-- A row group that is written: a chunk for each leaf column, in the order of the leaves, and the structs of these chunks
-- (parquet.thrift, ColumnChunk, ColumnMetaData). What the format leaves to the writer is chosen here: pages are in PLAIN,
-- levels in RLE, nothing is compressed, and statistics have the null count.
use Rattle.std.specs.Prelude.{ℕ, ◌+◌, Bool, ℤ, pos, List, [], ◌∷◌, length, None, Some}
use Rattle.std.specs.List.{sum_by}
use Rattle.vs_bytes.specs.declared.leaf_columns.Entry.{Entry}
use Rattle.vs_bytes.specs.declared.leaf_columns.Leaf.{Leaf}
use Rattle.vs_bytes.specs.declared.leaf_columns.Phys.{Phys}
use Rattle.vs_bytes.specs.declared.leaf_columns.Phys.TheVariants as phys
use Rattle.chunks.specs.PageCuts.{chunk_written}
use Rattle.thrift_structs.specs.declared.column_chunks.ColumnMeta.{ColumnMeta}
use Rattle.thrift_structs.specs.declared.column_chunks.ChunkMeta.{ChunkMeta}
use Rattle.group_stats.specs.Accurate.{stats_of}
use Rattle.shred_schema.specs.Groups.{Group}
use Rattle.shred_schema.specs.Leaves.{column_leaves}
use Rattle.shred_schema.specs.Recs.{RowRec}
use Rattle.level_striping.specs.Entries.{stripes}

-- The struct of a chunk.

-- a physical type in parquet.thrift's Type, where INT96 stands for those that aren't written
abbrev pub type_number : Phys → ℤ
type_number phys.Boolean = pos 0
type_number phys.Int32 = pos 1
type_number phys.Int64 = pos 2
type_number phys.Float = pos 4
type_number phys.Double = pos 5
type_number phys.ByteArray = pos 6
type_number (phys.Fixed size) = pos 7
type_number phys.Other = pos 3

-- the encodings PLAIN and RLE
abbrev pub encodings_written : List ℤ
encodings_written = pos 0 ∷ pos 3 ∷ []

-- a schema path: the names from the column down to the leaf
abbrev pub Path : Type 0
Path = List (List ℕ)

-- of `size` bytes from `place` on, with these entries
abbrev pub column_meta : Leaf → Path → ℕ → ℕ → List Entry → ColumnMeta
column_meta leaf path place size entries = record {
  kind = type_number leaf.phys;
  encodings = encodings_written;
  path_in_schema = path;
  codec = pos 0;
  num_values = pos (length entries);
  total_uncompressed_size = pos size;
  total_compressed_size = pos size;
  data_page_offset = pos place;
  dictionary_page_offset = None;
  statistics = Some (stats_of entries);
}

abbrev pub chunk_meta : Leaf → Path → ℕ → ℕ → List Entry → ChunkMeta
chunk_meta leaf path place size entries =
    record { file_path = None; file_offset = pos 0; meta_data = Some (column_meta leaf path place size entries) }

-- The chunks of leaf columns, where the leaf at the front is leaf j of the column, and leaf j has the entries `es j`.

unfoldable pub chunks_from : ℕ → (ℕ → List Entry) → ℕ → List Leaf → List (List ℕ)
chunks_from page_bytes es j [] = []
chunks_from page_bytes es j (leaf ∷ leaves) =
    chunk_written leaf page_bytes (es j) ∷ chunks_from page_bytes es (j + 1) leaves

-- the first chunk begins at `place`, and each of the others where the one before it ends
unfoldable pub metas_from : ℕ → (ℕ → List Entry) → ℕ → ℕ → List Leaf → List Path → List ChunkMeta
metas_from page_bytes es j place (leaf ∷ leaves) (path ∷ paths) =
    chunk_meta leaf path place (length (chunk_written leaf page_bytes (es j))) (es j) ∷ metas_from page_bytes es (j + 1) (place + length (chunk_written leaf page_bytes (es j))) leaves paths
metas_from page_bytes es j place leaves paths = []

-- how many bytes chunks have together
abbrev pub chunks_size : List (List ℕ) → ℕ
chunks_size chunks = sum_by length chunks

-- The row group of rows of a column.

unfoldable pub chunks_written : ℕ → Bool → Group → List RowRec → List (List ℕ)
chunks_written page_bytes optional n rows = chunks_from page_bytes (stripes optional n rows) 0 (column_leaves optional n)

unfoldable pub chunk_metas : ℕ → Bool → Group → List Path → ℕ → List RowRec → List ChunkMeta
chunk_metas page_bytes optional n paths place rows =
    metas_from page_bytes (stripes optional n rows) 0 place (column_leaves optional n) paths
