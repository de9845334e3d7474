-- The fields of a column chunk's structs that are written, and the structs that can be written.
use Rattle.std.specs.Prelude.{ℕ, ◌^◌, ◌<◌, ℤ, pos, List, length, IfSome}
use Rattle.std.specs.List.{All}
use Rattle.thrift_compact.specs.Trees.{Value, Fields, i32_value, i64_value, binary_value, struct_value, no_fields, with_field}
use Rattle.thrift_compact.specs.Coded.{zigzag, maybe}
use Rattle.thrift_compact.specs.PageWriting.{IsCount, IsI32}
use Rattle.thrift_structs.specs.Listed.{list_tree}
use Rattle.thrift_structs.specs.declared.column_chunks.Stats.{Stats}
use Rattle.thrift_structs.specs.declared.column_chunks.ColumnMeta.{ColumnMeta}
use Rattle.thrift_structs.specs.declared.column_chunks.ChunkMeta.{ChunkMeta}

-- The fields, by their ids.

-- a count as an i64
abbrev pub count_value : ℕ → Value
count_value n = i64_value (pos n)

unfoldable pub stats_fields : Stats → Fields
stats_fields s =
    maybe (pos 3) count_value s.nulls (
    maybe (pos 5) binary_value s.greatest (
    maybe (pos 6) binary_value s.least no_fields))

abbrev pub stats_tree : Stats → Value
stats_tree s = struct_value (stats_fields s)

unfoldable pub column_fields : ColumnMeta → Fields
column_fields m =
    with_field (pos 1) (i32_value m.kind) (
    with_field (pos 2) (list_tree 5 i32_value m.encodings) (
    with_field (pos 3) (list_tree 8 binary_value m.path_in_schema) (
    with_field (pos 4) (i32_value m.codec) (
    with_field (pos 5) (i64_value m.num_values) (
    with_field (pos 6) (i64_value m.total_uncompressed_size) (
    with_field (pos 7) (i64_value m.total_compressed_size) (
    with_field (pos 9) (i64_value m.data_page_offset) (
    maybe (pos 11) i64_value m.dictionary_page_offset (
    maybe (pos 12) stats_tree m.statistics no_fields)))))))))

abbrev pub column_tree : ColumnMeta → Value
column_tree m = struct_value (column_fields m)

unfoldable pub chunk_fields : ChunkMeta → Fields
chunk_fields m =
    maybe (pos 1) binary_value m.file_path (
    with_field (pos 2) (i64_value m.file_offset) (
    maybe (pos 3) column_tree m.meta_data no_fields))

-- What has bytes.

-- an i64 can hold the count
abbrev pub IsI64Count : ℕ → Type 0
IsI64Count n = n < 2 ^ 63

abbrev pub StatsFits : Stats → Type 0
StatsFits s = IfSome s.nulls IsI64Count

-- the header of a list can say the size
pub record ColumnFits (m : ColumnMeta) : Type 0 where
  pub encodings : length m.encodings < 2 ^ 32
  pub path_in_schema : length m.path_in_schema < 2 ^ 32
  pub statistics : IfSome m.statistics StatsFits

abbrev pub ChunkFits : ChunkMeta → Type 0
ChunkFits m = IfSome m.meta_data ColumnFits

-- What reads back: no count, size or offset is negative, each number is in the range of its type, and bytes and lists
-- are shorter than 2^32.

-- a count, size or offset
abbrev pub IsI64Size : ℤ → Type 0
IsI64Size z = IsCount z × (zigzag z < 2 ^ 64)

abbrev pub IsShort : List ℕ → Type 0
IsShort bytes = length bytes < 2 ^ 32

pub record StatsReadBack (s : Stats) : Type 0 where
  pub nulls : IfSome s.nulls IsI64Count
  pub least : IfSome s.least IsShort
  pub greatest : IfSome s.greatest IsShort

pub record ColumnReadsBack (m : ColumnMeta) : Type 0 where
  pub kind : IsI32 m.kind
  pub encodings : length m.encodings < 2 ^ 32
  pub encoding : All IsI32 m.encodings
  pub path_in_schema : length m.path_in_schema < 2 ^ 32
  pub name : All IsShort m.path_in_schema
  pub codec : IsI32 m.codec
  pub num_values : IsI64Size m.num_values
  pub total_uncompressed_size : IsI64Size m.total_uncompressed_size
  pub total_compressed_size : IsI64Size m.total_compressed_size
  pub data_page_offset : IsI64Size m.data_page_offset
  pub dictionary_page_offset : IfSome m.dictionary_page_offset IsI64Size
  pub statistics : IfSome m.statistics StatsReadBack

pub record ChunkReadsBack (m : ChunkMeta) : Type 0 where
  pub file_path : IfSome m.file_path IsShort
  pub file_offset : IsI64Size m.file_offset
  pub meta_data : IfSome m.meta_data ColumnReadsBack
