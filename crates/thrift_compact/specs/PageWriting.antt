-- The fields of page headers that are written, and the headers that can be written.
use Rattle.std.specs.Prelude.{◌≡◌, ◌^◌, ◌<◌, true, ℤ, pos, ◌≤ℤ◌, IfSome}
use Rattle.thrift_compact.specs.Trees.{Value, Fields, i32_value, struct_value, no_fields, with_field}
use Rattle.thrift_compact.specs.Coded.{zigzag, maybe}
use Rattle.thrift_compact.specs.PageHeaders.{has_inner}
use Rattle.thrift_compact.specs.declared.page_headers.DataHeader.{DataHeader}
use Rattle.thrift_compact.specs.declared.page_headers.DictHeader.{DictHeader}
use Rattle.thrift_compact.specs.declared.page_headers.DataHeaderV2.{DataHeaderV2}
use Rattle.thrift_compact.specs.declared.page_headers.PageHeader.{PageHeader}

unfoldable pub data_fields : DataHeader → Fields
data_fields h =
    with_field (pos 1) (i32_value h.num_values) (
    with_field (pos 2) (i32_value h.encoding) (
    with_field (pos 3) (i32_value h.definition_level_encoding) (
    with_field (pos 4) (i32_value h.repetition_level_encoding) no_fields)))

abbrev pub data_tree : DataHeader → Value
data_tree h = struct_value (data_fields h)

unfoldable pub dict_fields : DictHeader → Fields
dict_fields h =
    with_field (pos 1) (i32_value h.num_values) (
    with_field (pos 2) (i32_value h.encoding) no_fields)

abbrev pub dict_tree : DictHeader → Value
dict_tree h = struct_value (dict_fields h)

unfoldable pub data_v2_fields : DataHeaderV2 → Fields
data_v2_fields h =
    with_field (pos 1) (i32_value h.num_values) (
    with_field (pos 2) (i32_value h.num_nulls) (
    with_field (pos 3) (i32_value h.num_rows) (
    with_field (pos 4) (i32_value h.encoding) (
    with_field (pos 5) (i32_value h.definition_levels_byte_length) (
    with_field (pos 6) (i32_value h.repetition_levels_byte_length) no_fields)))))

abbrev pub data_v2_tree : DataHeaderV2 → Value
data_v2_tree h = struct_value (data_v2_fields h)

unfoldable pub page_fields : PageHeader → Fields
page_fields h =
    with_field (pos 1) (i32_value h.kind) (
    with_field (pos 2) (i32_value h.uncompressed_page_size) (
    with_field (pos 3) (i32_value h.compressed_page_size) (
    maybe (pos 5) data_tree h.data_page_header (
    maybe (pos 7) dict_tree h.dictionary_page_header (
    maybe (pos 8) data_v2_tree h.data_page_header_v2 no_fields)))))

-- a count or size
abbrev pub IsCount : ℤ → Type 0
IsCount z = pos 0 ≤ℤ z

abbrev pub DataHeaderCounts : DataHeader → Type 0
DataHeaderCounts h = IsCount h.num_values

abbrev pub DictHeaderCounts : DictHeader → Type 0
DictHeaderCounts h = IsCount h.num_values

abbrev pub DataHeaderV2Counts : DataHeaderV2 → Type 0
DataHeaderV2Counts h = IsCount h.num_values × IsCount h.num_nulls × IsCount h.num_rows × IsCount h.definition_levels_byte_length × IsCount h.repetition_levels_byte_length

-- the inner header of the page's type is there, and no count or size is negative
pub record IsWritable (h : PageHeader) : Type 0 where
  pub inner : has_inner h ≡ true
  pub uncompressed : IsCount h.uncompressed_page_size
  pub compressed : IsCount h.compressed_page_size
  pub data_page : IfSome h.data_page_header DataHeaderCounts
  pub dictionary_page : IfSome h.dictionary_page_header DictHeaderCounts
  pub data_page_v2 : IfSome h.data_page_header_v2 DataHeaderV2Counts

-- a number of 32 bits
abbrev pub IsI32 : ℤ → Type 0
IsI32 z = zigzag z < 2 ^ 32

abbrev pub DataHeaderI32s : DataHeader → Type 0
DataHeaderI32s h = IsI32 h.num_values × IsI32 h.encoding × IsI32 h.definition_level_encoding × IsI32 h.repetition_level_encoding

abbrev pub DictHeaderI32s : DictHeader → Type 0
DictHeaderI32s h = IsI32 h.num_values × IsI32 h.encoding

abbrev pub DataHeaderV2I32s : DataHeaderV2 → Type 0
DataHeaderV2I32s h = IsI32 h.num_values × IsI32 h.num_nulls × IsI32 h.num_rows × IsI32 h.encoding × IsI32 h.definition_levels_byte_length × IsI32 h.repetition_levels_byte_length

pub record HasI32s (h : PageHeader) : Type 0 where
  pub kind : IsI32 h.kind
  pub uncompressed : IsI32 h.uncompressed_page_size
  pub compressed : IsI32 h.compressed_page_size
  pub data_page : IfSome h.data_page_header DataHeaderI32s
  pub dictionary_page : IfSome h.dictionary_page_header DictHeaderI32s
  pub data_page_v2 : IfSome h.data_page_header_v2 DataHeaderV2I32s
