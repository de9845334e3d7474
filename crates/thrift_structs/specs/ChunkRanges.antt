-- The bytes of a column chunk in its file (parquet.thrift, ColumnChunk, ColumnMetaData): the place of the first, and how
-- many there are; or the first rule that is violated. The rules are tried in the order in which they stand here.
-- Numbers below 0, which the reader of these structs refuses, count as 0.
use Rattle.std.specs.Prelude.{ℕ, ◌+◌, ◌≤◌, ℤ, pos, negsuc, nat_lt, nat_le, int_lt, Bool, not, ◌&&◌, ◌||◌, is_some, if◌then◌else◌, Option, None, Some, Result, Ok, Err}
use Rattle.std.specs.Ordering.{int_eq}
use Rattle.vs_bytes.specs.declared.leaf_columns.Leaf.{Leaf}
use Rattle.vs_bytes.specs.declared.leaf_columns.Phys.{Phys}
use Rattle.vs_bytes.specs.declared.leaf_columns.Phys.TheVariants as phys
use Rattle.vs_bytes.specs.declared.leaf_columns.PrimKind.{PrimKind}
use Rattle.vs_bytes.specs.declared.leaf_columns.PrimKind.TheVariants as prim
use Rattle.vs_bytes.specs.declared.rule.Rule.{Rule}
use Rattle.vs_bytes.specs.declared.rule.Rule.TheVariants as rule
use Rattle.thrift_structs.specs.declared.column_chunks.ColumnMeta.{ColumnMeta}
use Rattle.thrift_structs.specs.declared.column_chunks.ChunkMeta.{ChunkMeta}

-- whether a number of parquet.thrift's Type is a physical type. INT96, and the numbers that parquet.thrift doesn't have,
-- count as one
unfoldable pub is_type : Phys → ℤ → Bool
is_type phys.Boolean type = int_eq type (pos 0)
is_type phys.Int32 type = int_eq type (pos 1)
is_type phys.Int64 type = int_eq type (pos 2)
is_type phys.Float type = int_eq type (pos 4)
is_type phys.Double type = int_eq type (pos 5)
is_type phys.ByteArray type = int_eq type (pos 6)
is_type (phys.Fixed size) type = int_eq type (pos 7)
is_type phys.Other type = (int_lt type (pos 0) || int_eq type (pos 3)) || int_lt (pos 7) type

abbrev pub count_of : ℤ → ℕ
count_of (pos n) = n
count_of (negsuc n) = 0

-- a chunk begins with its dictionary page, where that stands before its first data page
abbrev pub begin_with : Option ℤ → ℕ → ℕ
begin_with None data_page = data_page
begin_with (Some dictionary_page) data_page =
    if nat_lt 0 (count_of dictionary_page) && nat_lt (count_of dictionary_page) data_page then count_of dictionary_page
    else data_page

abbrev pub begin_of : ColumnMeta → ℕ
begin_of column = begin_with column.dictionary_page_offset (count_of column.data_page_offset)

abbrev pub size_of : ColumnMeta → ℕ
size_of column = count_of column.total_compressed_size

-- the codec UNCOMPRESSED
abbrev pub uncompressed : ℤ
uncompressed = pos 0

-- how many bytes a chunk may have
abbrev pub max_size : ℕ
max_size = 1073741824

-- how many bytes the magic number at a file's front has
abbrev pub magic_bytes : ℕ
magic_bytes = 4

-- whether so many bytes from a place on stand between the magic number and the footer
unfoldable pub is_inside : ℕ → ℕ → ℕ → Bool
is_inside end begin size = nat_le magic_bytes begin && nat_le (begin + size) end

-- what every range that is given is
pub record IsRange (end : ℕ) (range : ℕ × ℕ) : Type 0 where
  pub small : range.1 ≤ max_size
  pub after_magic : magic_bytes ≤ range.0
  pub before_footer : range.0 + range.1 ≤ end

-- of a chunk whose pages may stand in another file
unfoldable pub pages_range : Bool → ℕ → ColumnMeta → Result (ℕ × ℕ) Rule
pages_range elsewhere end column =
    if not (int_eq column.codec uncompressed) then Err rule.Codec
    else if nat_lt max_size (size_of column) then Err rule.ChunkTooLarge
    else if elsewhere || not (is_inside end (begin_of column) (size_of column)) then Err rule.ChunkRange
    else Ok (begin_of column, size_of column)

-- a kind of values may be refused
abbrev pub unless_refused : {A : Type 0} → PrimKind → Result A Rule → Result A Rule
unless_refused (prim.Refused rule) result = Err rule
unless_refused kind result = result

unfoldable pub column_range : Leaf → Bool → ℕ → ColumnMeta → Result (ℕ × ℕ) Rule
column_range leaf elsewhere end column =
    if not (is_type leaf.phys column.kind) then Err rule.FooterField
    else unless_refused leaf.prim (pages_range elsewhere end column)

abbrev pub with_metadata : (ColumnMeta → Result (ℕ × ℕ) Rule) → Option ColumnMeta → Result (ℕ × ℕ) Rule
with_metadata range None = Err rule.FooterField
with_metadata range (Some column) = range column

-- of a leaf column's chunk in a file whose footer begins at `end`
unfoldable pub chunk_range : ChunkMeta → Leaf → ℕ → Result (ℕ × ℕ) Rule
chunk_range chunk leaf end = with_metadata (column_range leaf (is_some chunk.file_path) end) chunk.meta_data
