-- The footer of a file without rows, worked out by hand.
use Rattle.std.proofs.Common.{◌≡◌, refl, List, ℕ, [], ◌∷◌, pos, Some, None, codes, ◌++◌}
use Rattle.thrift_compact.specs.Coded.{digits_of, varint_bytes, signed_bytes, binary_bytes, field_bytes, list_bytes, coded, elements_coded, fields_coded}
use Rattle.thrift_structs.specs.Listed.{elements_of}
use Rattle.schema_elements.specs.ElementWriting.{variant_fields, logical_fields, type_fields, element_fields}
use Rattle.schema_elements.specs.declared.elements.SchemaElement.{SchemaElement}
use Rattle.footer_structs.specs.FooterWriting.{order_fields, group_fields, front_fields, back_fields, file_fields, footer_bytes}
use Rattle.footer_structs.specs.declared.file_metadata.FileMeta.{FileMeta}

-- the root, with one child
abbrev root : SchemaElement
root = record { kind = None; type_length = None; repetition_type = None; name = codes "schema"; num_children = Some (pos 1); converted_type = None; scale = None; precision = None; logical_type = None }

-- an optional group, annotated VARIANT (16) of version 1, with two children
abbrev column : SchemaElement
column = record { kind = None; type_length = None; repetition_type = Some (pos 1); name = codes "doc"; num_children = Some (pos 2); converted_type = None; scale = None; precision = None; logical_type = Some (record { member = pos 16; first = Some (pos 1); second = None }) }

-- a required leaf of BYTE_ARRAY (6)
abbrev leaf : List ℕ → SchemaElement
leaf name = record { kind = Some (pos 6); type_length = None; repetition_type = Some (pos 0); name = name; num_children = None; converted_type = None; scale = None; precision = None; logical_type = None }

abbrev empty_file : FileMeta
empty_file = record {
  version = pos 1;
  schema = root ∷ column ∷ leaf (codes "metadata") ∷ leaf (codes "value") ∷ [];
  num_rows = pos 0;
  row_groups = [];
  created_by = Some (codes "vstore 1");
  column_orders = Some (pos 1 ∷ pos 1 ∷ []);
}

-- field 1, an i32; field 2, a list of four structs; of the first of these field 4, a binary, field 5, an i32, and the stop
abbrev root_bytes : List ℕ
root_bytes = 0x15 ∷ 0x02 ∷ 0x19 ∷ 0x4c ∷ 0x48 ∷ 0x06 ∷ 0x73 ∷ 0x63 ∷ 0x68 ∷ 0x65 ∷ 0x6d ∷ 0x61 ∷ 0x15 ∷ 0x02 ∷ 0x00 ∷ []

-- fields 3, 4 and 5; field 10, a struct: its field 16 in the long form, a struct: its field 1, an i8; three stops
abbrev column_bytes : List ℕ
column_bytes = 0x35 ∷ 0x02 ∷ 0x18 ∷ 0x03 ∷ 0x64 ∷ 0x6f ∷ 0x63 ∷ 0x15 ∷ 0x04 ∷ 0x5c ∷ 0x0c ∷ 0x20 ∷ 0x13 ∷ 0x01 ∷ 0x00 ∷ 0x00 ∷ 0x00 ∷ []

-- fields 1, 3 and 4, and the stop, twice
abbrev leaf_bytes : List ℕ
leaf_bytes = 0x15 ∷ 0x0c ∷ 0x25 ∷ 0x00 ∷ 0x18 ∷ 0x08 ∷ 0x6d ∷ 0x65 ∷ 0x74 ∷ 0x61 ∷ 0x64 ∷ 0x61 ∷ 0x74 ∷ 0x61 ∷ 0x00 ∷ 0x15 ∷ 0x0c ∷ 0x25 ∷ 0x00 ∷ 0x18 ∷ 0x05 ∷ 0x76 ∷ 0x61 ∷ 0x6c ∷ 0x75 ∷ 0x65 ∷ 0x00 ∷ []

-- field 3, an i64; field 4, a list of no structs; field 6, a binary
abbrev group_bytes : List ℕ
group_bytes = 0x16 ∷ 0x00 ∷ 0x19 ∷ 0x0c ∷ 0x28 ∷ 0x08 ∷ 0x76 ∷ 0x73 ∷ 0x74 ∷ 0x6f ∷ 0x72 ∷ 0x65 ∷ 0x20 ∷ 0x31 ∷ []

-- field 7, a list of two structs, each with field 1, a struct without fields; the stop
abbrev order_bytes : List ℕ
order_bytes = 0x19 ∷ 0x2c ∷ 0x1c ∷ 0x00 ∷ 0x00 ∷ 0x1c ∷ 0x00 ∷ 0x00 ∷ 0x00 ∷ []

pub empty_written : footer_bytes empty_file ≡ root_bytes ++ column_bytes ++ leaf_bytes ++ group_bytes ++ order_bytes
unfolding digits_of varint_bytes signed_bytes binary_bytes field_bytes list_bytes coded elements_coded fields_coded elements_of variant_fields logical_fields type_fields element_fields order_fields group_fields front_fields back_fields file_fields
empty_written = refl
