-- The structs of a footer (parquet.thrift, ColumnOrder, RowGroup, FileMetaData).
use Rattle.std.specs.Prelude.{List, [], ℤ, Option, Some, None}
use Rattle.thrift_compact.specs.Trees.{Value, Fields, Shapes, i32s, i64s, binaries, lists, structs, unknown, known}
use Rattle.thrift_compact.specs.Slots.{◌>>?◌, put_at, required, optional, counted, i32_in, struct_in, read_by}
use Rattle.thrift_compact.specs.declared.slots.Slot.TheVariants.{Missing}
use Rattle.thrift_structs.specs.Entries.{i64_in, binary_in, list_in}
use Rattle.thrift_structs.specs.ColumnChunks.{chunk_shapes, chunk_of}
use Rattle.schema_elements.specs.Unions.{none_met, member_at}
use Rattle.schema_elements.specs.LogicalTypes.{empty_in, member_of}
use Rattle.schema_elements.specs.SchemaElements.{element_shapes, element_of}
use Rattle.schema_elements.specs.declared.unions.UnionSlots.{UnionSlots}
use Rattle.footer_structs.specs.declared.row_groups.GroupMeta.{GroupMeta}
use Rattle.footer_structs.specs.declared.row_groups.GroupSlots.{GroupSlots}
use Rattle.footer_structs.specs.declared.file_metadata.FileMeta.{FileMeta}
use Rattle.footer_structs.specs.declared.file_metadata.FileSlots.{FileSlots}

-- ColumnOrder: 1 for TYPE_ORDER, an empty struct; 0 for another order

unfoldable pub order_shapes : Shapes
order_shapes = known 1 (structs unknown) unknown

unfoldable pub order_put : UnionSlots → ℤ → Value → UnionSlots
order_put d id v = member_at 1 empty_in id v d d

abbrev pub order_of : Fields → Option ℤ
order_of = read_by order_put none_met member_of

-- the orders of a file's leaves, where they are there
abbrev pub orders_in : Option (List ℤ) → List ℤ
orders_in None = []
orders_in (Some orders) = orders

-- RowGroup

unfoldable pub group_shapes : Shapes
group_shapes = known 1 (lists (structs chunk_shapes)) (known 2 i64s (known 3 i64s unknown))

abbrev pub group_start : GroupSlots
group_start = record { columns = Missing; total_byte_size = Missing; num_rows = Missing }

unfoldable pub group_put : GroupSlots → ℤ → Value → GroupSlots
group_put d id v = record {
  columns = put_at 1 (list_in (struct_in chunk_of)) id v d.columns;
  total_byte_size = put_at 2 i64_in id v d.total_byte_size;
  num_rows = put_at 3 i64_in id v d.num_rows;
}

unfoldable pub group_finish : GroupSlots → Option GroupMeta
group_finish d =
    required d.columns >>? λ j.
    counted d.total_byte_size >>? λ k.
    counted d.num_rows >>? λ m.
    Some (record { columns = j; total_byte_size = k; num_rows = m })

abbrev pub group_of : Fields → Option GroupMeta
group_of = read_by group_put group_start group_finish

-- FileMetaData

unfoldable pub file_shapes : Shapes
file_shapes = known 1 i32s (known 2 (lists (structs element_shapes)) (known 3 i64s (known 4 (lists (structs group_shapes)) (known 6 binaries (known 7 (lists (structs order_shapes)) unknown)))))

abbrev pub file_start : FileSlots
file_start = record { version = Missing; schema = Missing; num_rows = Missing; row_groups = Missing; created_by = Missing; column_orders = Missing }

unfoldable pub file_put : FileSlots → ℤ → Value → FileSlots
file_put d id v = record {
  version = put_at 1 i32_in id v d.version;
  schema = put_at 2 (list_in (struct_in element_of)) id v d.schema;
  num_rows = put_at 3 i64_in id v d.num_rows;
  row_groups = put_at 4 (list_in (struct_in group_of)) id v d.row_groups;
  created_by = put_at 6 binary_in id v d.created_by;
  column_orders = put_at 7 (list_in (struct_in order_of)) id v d.column_orders;
}

unfoldable pub file_finish : FileSlots → Option FileMeta
file_finish d =
    required d.version >>? λ j.
    required d.schema >>? λ k.
    counted d.num_rows >>? λ m.
    required d.row_groups >>? λ n.
    optional d.created_by >>? λ p.
    optional d.column_orders >>? λ q.
    Some (record { version = j; schema = k; num_rows = m; row_groups = n; created_by = p; column_orders = q })

abbrev pub file_of : Fields → Option FileMeta
file_of = read_by file_put file_start file_finish
