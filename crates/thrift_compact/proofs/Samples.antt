-- Bytes of the compact protocol worked out by hand.
use Rattle.std.proofs.Common.{◌≡◌, List, ℕ, refl, [], ◌∷◌, pos, negsuc, Some, None, Ok, Err}
use Rattle.vs_bytes.specs.declared.rule.Rule.TheVariants.{Thrift}
use Rattle.thrift_compact.specs.Numbers.{digits, varint, unzigzag, signed}
use Rattle.thrift_compact.specs.Headers.{is_type, field_id, field}
use Rattle.thrift_compact.specs.Skipping.{plain, level, skipped}
use Rattle.thrift_compact.specs.Trees.{fields_at, shaped, known_at, passed_over}
use Rattle.thrift_compact.specs.Coded.{digits_of, varint_bytes, signed_bytes, field_bytes, coded, elements_coded, fields_coded}
use Rattle.thrift_compact.specs.Slots.{filled}
use Rattle.thrift_compact.specs.PageHeaders.{data_shapes, data_put, data_finish, dict_shapes, dict_put, dict_finish, data_v2_shapes, data_v2_put, data_v2_finish, page_shapes, page_put, page_finish, page_header}
use Rattle.thrift_compact.specs.PageWriting.{data_fields, dict_fields, data_v2_fields, page_fields}
use Rattle.thrift_compact.specs.declared.page_headers.PageHeader.{PageHeader}

-- field 1, an i32: delta 1 and type 5
pub field_one : field (pos 0) (0x15 ∷ 0x02 ∷ 0x00 ∷ []) ≡ Ok (Some (pos 1, 5), 0x02 ∷ 0x00 ∷ [])
unfolding is_type field_id field digits varint unzigzag signed
field_one = refl

-- 1 is 2 in zigzag
pub number_one : signed 32 (0x02 ∷ 0x00 ∷ []) ≡ Ok (pos 1, 0x00 ∷ [])
unfolding digits varint unzigzag signed
number_one = refl

pub stop : field (pos 1) (0x00 ∷ []) ≡ Ok (None, [])
unfolding is_type field_id field digits varint unzigzag signed
stop = refl

pub number_missing : signed 32 [] ≡ Err Thrift
unfolding digits varint unzigzag signed
number_missing = refl

-- -1 is 1 in zigzag
pub minus_one : signed 16 (0x01 ∷ []) ≡ Ok (negsuc 0, [])
unfolding digits varint unzigzag signed
minus_one = refl

-- 300 has two groups of seven bits: 44 and 2
pub two_bytes : varint (0xac ∷ 0x02 ∷ 0x07 ∷ []) ≡ Ok (300, 0x07 ∷ [])
unfolding digits varint
two_bytes = refl

-- A data page of one value in PLAIN (0) with levels in RLE (3), whose body has 15 bytes.

abbrev one_value : PageHeader
one_value = record {
  kind = pos 0;
  uncompressed_page_size = pos 15;
  compressed_page_size = pos 15;
  data_page_header = Some (record { num_values = pos 1; encoding = pos 0; definition_level_encoding = pos 3; repetition_level_encoding = pos 3 });
  dictionary_page_header = None;
  data_page_header_v2 = None;
}

-- each field in two bytes: its header, of delta 1 and type i32, and its number in zigzag; the inner header, of delta 2
-- and type struct; the two stops
abbrev one_value_bytes : List ℕ
one_value_bytes = 0x15 ∷ 0x00 ∷ 0x15 ∷ 0x1e ∷ 0x15 ∷ 0x1e ∷ 0x2c ∷ 0x15 ∷ 0x02 ∷ 0x15 ∷ 0x00 ∷ 0x15 ∷ 0x06 ∷ 0x15 ∷ 0x06 ∷ 0x00 ∷ 0x00 ∷ []

pub page_written : fields_coded 0 (page_fields one_value) ≡ one_value_bytes
unfolding digits_of varint_bytes signed_bytes field_bytes coded elements_coded fields_coded data_fields dict_fields data_v2_fields page_fields
page_written = refl

pub page_read : page_header one_value_bytes ≡ Ok (one_value, 17)
unfolding digits varint unzigzag signed is_type field_id field plain level skipped fields_at shaped known_at passed_over filled data_shapes data_put data_finish dict_shapes dict_put dict_finish data_v2_shapes data_v2_put data_v2_finish page_shapes page_put page_finish page_header
page_read = refl
