-- The fields of a footer's structs that are written, and the structs that can be written.
use Rattle.std.specs.Prelude.{◌≡◌, true, List, ℕ, ◌^◌, ◌<◌, length, if◌then◌else◌, ℤ, pos, IfSome}
use Rattle.std.specs.List.{All}
use Rattle.std.specs.Ordering.{int_eq}
use Rattle.thrift_compact.specs.Trees.{Value, Fields, i32_value, i64_value, binary_value, struct_value, no_fields, with_field}
use Rattle.thrift_compact.specs.Coded.{maybe, fields_coded}
use Rattle.thrift_structs.specs.Listed.{list_tree, ListFits}
use Rattle.thrift_structs.specs.ChunkWriting.{chunk_fields, ChunkFits, IsI64Size, IsShort, ChunkReadsBack}
use Rattle.schema_elements.specs.ElementWriting.{element_tree, ElementFits, ElementReadsBack}
use Rattle.schema_elements.specs.FieldValues.{IsFlag}
use Rattle.thrift_compact.specs.PageWriting.{IsI32}
use Rattle.footer_structs.specs.ReadFooters.{fields_fit, rows_fit}
use Rattle.thrift_structs.specs.declared.column_chunks.ChunkMeta.{ChunkMeta}
use Rattle.footer_structs.specs.declared.row_groups.GroupMeta.{GroupMeta}
use Rattle.footer_structs.specs.declared.file_metadata.FileMeta.{FileMeta}

-- The fields, by their ids.

unfoldable pub order_fields : ℤ → Fields
order_fields order = if int_eq order (pos 1) then with_field (pos 1) (struct_value no_fields) no_fields else no_fields

abbrev pub order_tree : ℤ → Value
order_tree order = struct_value (order_fields order)

abbrev pub chunk_tree : ChunkMeta → Value
chunk_tree m = struct_value (chunk_fields m)

unfoldable pub group_fields : GroupMeta → Fields
group_fields g =
    with_field (pos 1) (list_tree 12 chunk_tree g.columns) (
    with_field (pos 2) (i64_value g.total_byte_size) (
    with_field (pos 3) (i64_value g.num_rows) no_fields))

abbrev pub group_tree : GroupMeta → Value
group_tree g = struct_value (group_fields g)

-- fields 1 to 3, and those after them
unfoldable pub front_fields : FileMeta → Fields → Fields
front_fields m fs =
    with_field (pos 1) (i32_value m.version) (
    with_field (pos 2) (list_tree 12 element_tree m.schema) (
    with_field (pos 3) (i64_value m.num_rows) fs))

-- fields 6 and 7
unfoldable pub back_fields : FileMeta → Fields
back_fields m =
    maybe (pos 6) binary_value m.created_by (
    maybe (pos 7) (list_tree 12 order_tree) m.column_orders no_fields)

unfoldable pub file_fields : FileMeta → Fields
file_fields m = front_fields m (with_field (pos 4) (list_tree 12 group_tree m.row_groups) (back_fields m))

-- the bytes of a footer
abbrev pub footer_bytes : FileMeta → List ℕ
footer_bytes m = fields_coded 0 (file_fields m)

-- the bytes of a row group in a footer
abbrev pub group_bytes : GroupMeta → List ℕ
group_bytes g = fields_coded 0 (group_fields g)

-- What has bytes: the header of each list can say its size, and each element has bytes.

abbrev pub GroupFits : GroupMeta → Type 0
GroupFits g = ListFits ChunkFits g.columns

pub record FileFits (m : FileMeta) : Type 0 where
  pub schema : ListFits ElementFits m.schema
  pub row_groups : ListFits GroupFits m.row_groups
  pub column_orders : IfSome m.column_orders (ListFits (λ order. Unit {0}))

-- What reads back: the fields go together, the rows add up, no count, size or offset is negative, each number is in the
-- range of its type, and bytes and lists are shorter than 2^32.

pub record GroupReadsBack (g : GroupMeta) : Type 0 where
  pub columns : length g.columns < 2 ^ 32
  pub column : All ChunkReadsBack g.columns
  pub total_byte_size : IsI64Size g.total_byte_size
  pub num_rows : IsI64Size g.num_rows

pub record OrdersReadBack (orders : List ℤ) : Type 0 where
  pub size : length orders < 2 ^ 32
  pub order : All IsFlag orders

pub record FooterReadsBack (m : FileMeta) : Type 0 where
  pub version : IsI32 m.version
  pub schema : length m.schema < 2 ^ 32
  pub element : All ElementReadsBack m.schema
  pub num_rows : IsI64Size m.num_rows
  pub row_groups : length m.row_groups < 2 ^ 32
  pub group : All GroupReadsBack m.row_groups
  pub created_by : IfSome m.created_by IsShort
  pub column_orders : IfSome m.column_orders OrdersReadBack
  pub fields : fields_fit m ≡ true
  pub rows : rows_fit m ≡ true
