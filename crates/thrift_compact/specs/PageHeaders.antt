-- Page headers (parquet.thrift, PageHeader, DataPageHeader, DictionaryPageHeader, DataPageHeaderV2).
use Rattle.std.specs.Prelude.{ℕ, ◌-◌, Bool, true, if◌then◌else◌, List, length, ℤ, pos, Option, Some, None, is_some, Result, Ok, Err}
use Rattle.std.specs.Ordering.{int_eq}
use Rattle.vs_bytes.specs.Outcome.{◌>>=◌}
use Rattle.vs_bytes.specs.declared.rule.Rule as rules
use Rattle.vs_bytes.specs.declared.rule.Rule.TheVariants as rule
use Rattle.thrift_compact.specs.Numbers.{mapped}
use Rattle.thrift_compact.specs.Trees.{Value, Fields, Shapes, i32s, structs, unknown, known, struct_at, known_at}
use Rattle.thrift_compact.specs.Slots.{◌>>?◌, put_at, required, optional, counted, i32_in, struct_in, read_by}
use Rattle.thrift_compact.specs.declared.slots.Slot.TheVariants.{Missing}
use Rattle.thrift_compact.specs.declared.page_headers.DataHeader.{DataHeader}
use Rattle.thrift_compact.specs.declared.page_headers.DataSlots.{DataSlots}
use Rattle.thrift_compact.specs.declared.page_headers.DictHeader.{DictHeader}
use Rattle.thrift_compact.specs.declared.page_headers.DictSlots.{DictSlots}
use Rattle.thrift_compact.specs.declared.page_headers.DataHeaderV2.{DataHeaderV2}
use Rattle.thrift_compact.specs.declared.page_headers.DataV2Slots.{DataV2Slots}
use Rattle.thrift_compact.specs.declared.page_headers.PageHeader.{PageHeader}
use Rattle.thrift_compact.specs.declared.page_headers.PageSlots.{PageSlots}

-- DataPageHeader

unfoldable pub data_shapes : Shapes
data_shapes = known 1 i32s (known 2 i32s (known 3 i32s (known 4 i32s unknown)))

abbrev pub data_start : DataSlots
data_start = record { num_values = Missing; encoding = Missing; definition_level_encoding = Missing; repetition_level_encoding = Missing }

unfoldable pub data_put : DataSlots → ℤ → Value → DataSlots
data_put d id v = record {
  num_values = put_at 1 i32_in id v d.num_values;
  encoding = put_at 2 i32_in id v d.encoding;
  definition_level_encoding = put_at 3 i32_in id v d.definition_level_encoding;
  repetition_level_encoding = put_at 4 i32_in id v d.repetition_level_encoding;
}

unfoldable pub data_finish : DataSlots → Option DataHeader
data_finish d =
    counted d.num_values >>? λ j.
    required d.encoding >>? λ k.
    required d.definition_level_encoding >>? λ m.
    required d.repetition_level_encoding >>? λ n.
    Some (record { num_values = j; encoding = k; definition_level_encoding = m; repetition_level_encoding = n })

abbrev pub data_of : Fields → Option DataHeader
data_of = read_by data_put data_start data_finish

-- DictionaryPageHeader

unfoldable pub dict_shapes : Shapes
dict_shapes = known 1 i32s (known 2 i32s unknown)

abbrev pub dict_start : DictSlots
dict_start = record { num_values = Missing; encoding = Missing }

unfoldable pub dict_put : DictSlots → ℤ → Value → DictSlots
dict_put d id v = record {
  num_values = put_at 1 i32_in id v d.num_values;
  encoding = put_at 2 i32_in id v d.encoding;
}

unfoldable pub dict_finish : DictSlots → Option DictHeader
dict_finish d =
    counted d.num_values >>? λ j.
    required d.encoding >>? λ k.
    Some (record { num_values = j; encoding = k })

abbrev pub dict_of : Fields → Option DictHeader
dict_of = read_by dict_put dict_start dict_finish

-- DataPageHeaderV2

unfoldable pub data_v2_shapes : Shapes
data_v2_shapes = known 1 i32s (known 2 i32s (known 3 i32s (known 4 i32s (known 5 i32s (known 6 i32s unknown)))))

abbrev pub data_v2_start : DataV2Slots
data_v2_start = record { num_values = Missing; num_nulls = Missing; num_rows = Missing; encoding = Missing; definition_levels_byte_length = Missing; repetition_levels_byte_length = Missing }

unfoldable pub data_v2_put : DataV2Slots → ℤ → Value → DataV2Slots
data_v2_put d id v = record {
  num_values = put_at 1 i32_in id v d.num_values;
  num_nulls = put_at 2 i32_in id v d.num_nulls;
  num_rows = put_at 3 i32_in id v d.num_rows;
  encoding = put_at 4 i32_in id v d.encoding;
  definition_levels_byte_length = put_at 5 i32_in id v d.definition_levels_byte_length;
  repetition_levels_byte_length = put_at 6 i32_in id v d.repetition_levels_byte_length;
}

unfoldable pub data_v2_finish : DataV2Slots → Option DataHeaderV2
data_v2_finish d =
    counted d.num_values >>? λ j.
    counted d.num_nulls >>? λ k.
    counted d.num_rows >>? λ m.
    required d.encoding >>? λ n.
    counted d.definition_levels_byte_length >>? λ p.
    counted d.repetition_levels_byte_length >>? λ q.
    Some (record { num_values = j; num_nulls = k; num_rows = m; encoding = n; definition_levels_byte_length = p; repetition_levels_byte_length = q })

abbrev pub data_v2_of : Fields → Option DataHeaderV2
data_v2_of = read_by data_v2_put data_v2_start data_v2_finish

-- PageHeader

-- the types of pages that have an inner header
abbrev pub data_page : ℤ
data_page = pos 0

abbrev pub dictionary_page : ℤ
dictionary_page = pos 2

abbrev pub data_page_v2 : ℤ
data_page_v2 = pos 3

unfoldable pub page_shapes : Shapes
page_shapes = known 1 i32s (known 2 i32s (known 3 i32s (known 5 (structs data_shapes) (known 7 (structs dict_shapes) (known 8 (structs data_v2_shapes) unknown)))))

abbrev pub page_start : PageSlots
page_start = record { kind = Missing; uncompressed_page_size = Missing; compressed_page_size = Missing; data_page_header = Missing; dictionary_page_header = Missing; data_page_header_v2 = Missing }

unfoldable pub page_put : PageSlots → ℤ → Value → PageSlots
page_put d id v = record {
  kind = put_at 1 i32_in id v d.kind;
  uncompressed_page_size = put_at 2 i32_in id v d.uncompressed_page_size;
  compressed_page_size = put_at 3 i32_in id v d.compressed_page_size;
  data_page_header = put_at 5 (struct_in data_of) id v d.data_page_header;
  dictionary_page_header = put_at 7 (struct_in dict_of) id v d.dictionary_page_header;
  data_page_header_v2 = put_at 8 (struct_in data_v2_of) id v d.data_page_header_v2;
}

-- the inner header of the page's type is there
abbrev pub has_inner : PageHeader → Bool
has_inner h =
    if int_eq h.kind data_page then is_some h.data_page_header
    else if int_eq h.kind dictionary_page then is_some h.dictionary_page_header
    else if int_eq h.kind data_page_v2 then is_some h.data_page_header_v2
    else true

abbrev pub with_inner : PageHeader → Option PageHeader
with_inner h = if has_inner h then Some h else None

unfoldable pub page_finish : PageSlots → Option PageHeader
page_finish d =
    required d.kind >>? λ j.
    counted d.uncompressed_page_size >>? λ k.
    counted d.compressed_page_size >>? λ m.
    optional d.data_page_header >>? λ n.
    optional d.dictionary_page_header >>? λ p.
    optional d.data_page_header_v2 >>? λ q.
    with_inner (record { kind = j; uncompressed_page_size = k; compressed_page_size = m; data_page_header = n; dictionary_page_header = p; data_page_header_v2 = q })

abbrev pub page_of : Fields → Option PageHeader
page_of = read_by page_put page_start page_finish

-- a header, or the rule that its fields violate
abbrev pub judged : Option PageHeader → Result PageHeader rules.Rule
judged None = Err rule.PageHeader
judged (Some h) = Ok h

-- the page header that bytes begin with, and how many bytes it takes
unfoldable pub page_header : List ℕ → Result (PageHeader × ℕ) rules.Rule
page_header bytes = mapped page_of (struct_at (known_at page_shapes) bytes) >>= λ p. judged p.0 >>= λ h. Ok (h, length bytes - length p.1)
