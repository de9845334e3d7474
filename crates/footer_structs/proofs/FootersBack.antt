-- Footers that are written read back.
use Rattle.std.proofs.Common.{◌≡◌, ◌∙◌, refl, subst, ℕ, ◌^◌, ◌<◌, List, [], ◌∷◌, ◌++◌, length, ℤ, pos, Option, Some, IfSome, Ok, arith}
use Rattle.std.specs.List.{All}
use Rattle.std.proofs.lemmas.List.Elements.{All-head, All-tail}
use Rattle.thrift_compact.specs.Trees.{Value, Fields, i32_value, i64_value, binary_value, struct_value, no_fields, i32s, i64s, binaries, lists, structs, unknown}
use Rattle.thrift_compact.specs.Coded.{how_many, maybe}
use Rattle.thrift_compact.specs.Fitting.{AllFields, Fits, FitsField}
use Rattle.thrift_compact.specs.Slots.{put, filled, struct_in}
use Rattle.thrift_compact.specs.declared.slots.Slot.{Slot}
use Rattle.thrift_compact.specs.declared.slots.Slot.TheVariants.{Missing, Found}
use Rattle.thrift_compact.proofs.SlotsBack.{not_negative, slot_of, optional_slot, step, maybe_fit}
use Rattle.thrift_structs.specs.Entries.{each_in, list_in}
use Rattle.thrift_structs.specs.Listed.{elements_of, list_tree}
use Rattle.thrift_structs.specs.ColumnChunks.{chunk_shapes, chunk_of}
use Rattle.thrift_structs.specs.ChunkWriting.{IsShort, ChunkReadsBack}
use Rattle.thrift_structs.specs.declared.column_chunks.ChunkMeta.{ChunkMeta}
use Rattle.thrift_structs.proofs.Listed.{size_is}
use Rattle.thrift_structs.proofs.ChunksBack.{struct_back, list_fit, chunk_again, chunk_fit}
use Rattle.schema_elements.specs.FieldValues.{IsFlag}
use Rattle.schema_elements.specs.Unions.{met}
use Rattle.schema_elements.specs.LogicalTypes.{member_finish, member_of}
use Rattle.schema_elements.specs.SchemaElements.{element_shapes, element_of}
use Rattle.schema_elements.specs.ElementWriting.{element_tree, ElementReadsBack}
use Rattle.schema_elements.specs.declared.elements.SchemaElement.{SchemaElement}
use Rattle.schema_elements.proofs.ElementsBack.{in_table, flag_cases, element_again, element_fit}
use Rattle.footer_structs.specs.Footers.{order_shapes, order_put, order_of, group_shapes, group_put, group_finish, group_of, file_shapes, file_start, file_put, file_finish, file_of}
use Rattle.footer_structs.specs.FooterWriting.{order_fields, order_tree, chunk_tree, group_fields, group_tree, front_fields, back_fields, file_fields, footer_bytes, GroupReadsBack, OrdersReadBack, FooterReadsBack}
use Rattle.footer_structs.specs.ReadFooters.{footer}
use Rattle.footer_structs.specs.declared.row_groups.GroupMeta.{GroupMeta}
use Rattle.footer_structs.specs.declared.file_metadata.FileMeta.{FileMeta}
use Rattle.footer_structs.specs.declared.file_metadata.FileSlots.{FileSlots}

-- a list whose items read back reads back
list_back : {A : Type 0} (read : Value → Option A) (tree : A → Value) (P : A → Type 0) → ((x : A) → P x → read (tree x) ≡ Some x) → (xs : List A) → All P xs → each_in read (elements_of tree xs) ≡ Some xs
unfolding each_in elements_of
list_back read tree P h [] a = refl
list_back read tree P h (x ∷ xs) a = rw (h x (All-head P x xs a), list_back read tree P h xs (All-tail P x xs a)) refl

small_list : {A : Type 0} (tree : A → Value) (xs : List A) → length xs < 2 ^ 32 → how_many (elements_of tree xs) < 2 ^ 32
small_list tree xs h = rw (size_is tree xs) h

-- ColumnOrder

order_again : (z : ℤ) → IsFlag z → order_of (order_fields z) ≡ Some z
unfolding filled order_put order_fields met member_of member_finish
order_again z f = flag_cases (λ x. order_of (order_fields x) ≡ Some x) z f refl refl

order_fit : (z : ℤ) → IsFlag z → AllFields (FitsField order_shapes) 0 (order_fields z)
unfolding order_shapes order_fields
order_fit z f = flag_cases (λ x. AllFields (FitsField order_shapes) 0 (order_fields x)) z f tt (
  refl,
  omega arith,
  omega arith,
  in_table order_shapes (pos 1) (structs unknown) (struct_value no_fields) refl tt,
  tt,
)

-- RowGroup

chunks_again : (xs : List ChunkMeta) → All ChunkReadsBack xs → each_in (struct_in chunk_of) (elements_of chunk_tree xs) ≡ Some xs
chunks_again xs a = list_back (struct_in chunk_of) chunk_tree ChunkReadsBack (λ x h. chunk_again x h) xs a

group_again : (g : GroupMeta) → GroupReadsBack g → group_of (group_fields g) ≡ Some g
unfolding filled group_put group_finish group_fields
group_again g f = rw (chunks_again g.columns f.column, not_negative g.total_byte_size f.total_byte_size.0, not_negative g.num_rows f.num_rows.0) refl

group_fit : (g : GroupMeta) → GroupReadsBack g → AllFields (FitsField group_shapes) 0 (group_fields g)
unfolding group_shapes group_fields
group_fit g f = (
  refl,
  omega arith,
  omega arith,
  in_table group_shapes (pos 1) (lists (structs chunk_shapes)) (list_tree 12 chunk_tree g.columns) refl (refl, small_list chunk_tree g.columns f.columns, list_fit (structs chunk_shapes) 12 chunk_tree ChunkReadsBack (λ m h. (refl, chunk_fit m h)) g.columns f.column),
  (
    refl,
    omega arith,
    omega arith,
    in_table group_shapes (pos 2) i64s (i64_value g.total_byte_size) refl f.total_byte_size.1,
    (refl, omega arith, omega arith, in_table group_shapes (pos 3) i64s (i64_value g.num_rows) refl f.num_rows.1, tt),
  ),
)

-- FileMetaData

abbrev file_slots : FileMeta → Slot (List SchemaElement) → Slot (List GroupMeta) → Slot (List ℕ) → Slot (List ℤ) → FileSlots
file_slots m a b c d = record {
  version = Found m.version;
  schema = a;
  num_rows = Found m.num_rows;
  row_groups = b;
  created_by = c;
  column_orders = d;
}

lists_found : (m : FileMeta) (fs : Fields) → FooterReadsBack m → filled file_put (file_slots m (put Missing (each_in (struct_in element_of) (elements_of element_tree m.schema))) (put Missing (each_in (struct_in group_of) (elements_of group_tree m.row_groups))) Missing Missing) fs ≡ filled file_put (file_slots m (Found m.schema) (Found m.row_groups) Missing Missing) fs
lists_found m fs f =
    let schema = list_back (struct_in element_of) element_tree ElementReadsBack (λ x h. element_again x h) m.schema f.element in
    let groups = list_back (struct_in group_of) group_tree GroupReadsBack (λ x h. group_again x h) m.row_groups f.group in
    rw (schema, groups) refl

orders_again : (xs : List ℤ) → OrdersReadBack xs → list_in (struct_in order_of) (list_tree 12 order_tree xs) ≡ Some xs
orders_again xs f = list_back (struct_in order_of) order_tree IsFlag (λ x h. order_again x h) xs f.order

slots_filled : (m : FileMeta) → FooterReadsBack m → filled file_put file_start (file_fields m) ≡ file_slots m (Found m.schema) (Found m.row_groups) (slot_of m.created_by) (slot_of m.column_orders)
unfolding filled file_put file_fields front_fields back_fields
slots_filled m f =
    let f7 : Fields = maybe (pos 7) (list_tree 12 order_tree) m.column_orders no_fields in
    let f6 : Fields = maybe (pos 6) binary_value m.created_by f7 in
    lists_found m f6 f
    ∙ step file_put (λ x. file_slots m (Found m.schema) (Found m.row_groups) x Missing) (pos 6) binary_value m.created_by f7 (λ a e. refl)
    ∙ step file_put (λ x. file_slots m (Found m.schema) (Found m.row_groups) (slot_of m.created_by) x) (pos 7) (list_tree 12 order_tree) m.column_orders no_fields (λ a e. rw (orders_again a (subst (λ (x : Option (List ℤ)). IfSome x OrdersReadBack) e f.column_orders)) refl)

file_again : (m : FileMeta) → FooterReadsBack m → file_of (file_fields m) ≡ Some m
unfolding file_finish
file_again m f = rw (slots_filled m f, not_negative m.num_rows f.num_rows.0, optional_slot m.created_by, optional_slot m.column_orders) refl

file_fit : (m : FileMeta) → FooterReadsBack m → AllFields (FitsField file_shapes) 0 (file_fields m)
unfolding file_shapes file_fields front_fields back_fields
file_fit m f =
    let f7 : Fields = maybe (pos 7) (list_tree 12 order_tree) m.column_orders no_fields in (
      refl,
      omega arith,
      omega arith,
      in_table file_shapes (pos 1) i32s (i32_value m.version) refl f.version,
      (
        refl,
        omega arith,
        omega arith,
        in_table file_shapes (pos 2) (lists (structs element_shapes)) (list_tree 12 element_tree m.schema) refl (refl, small_list element_tree m.schema f.schema, list_fit (structs element_shapes) 12 element_tree ElementReadsBack (λ x h. (refl, element_fit x h)) m.schema f.element),
        (
          refl,
          omega arith,
          omega arith,
          in_table file_shapes (pos 3) i64s (i64_value m.num_rows) refl f.num_rows.1,
          (
            refl,
            omega arith,
            omega arith,
            in_table file_shapes (pos 4) (lists (structs group_shapes)) (list_tree 12 group_tree m.row_groups) refl (refl, small_list group_tree m.row_groups f.row_groups, list_fit (structs group_shapes) 12 group_tree GroupReadsBack (λ x h. (refl, group_fit x h)) m.row_groups f.group),
            maybe_fit (FitsField file_shapes) 4 6 binary_value m.created_by f7 (omega arith) (omega arith) (λ a e. in_table file_shapes (pos 6) binaries (binary_value a) refl (subst (λ (x : Option (List ℕ)). IfSome x IsShort) e f.created_by)) (
                maybe_fit (FitsField file_shapes) 6 7 (list_tree 12 order_tree) m.column_orders no_fields (omega arith) (omega arith) (λ a e. in_table file_shapes (pos 7) (lists (structs order_shapes)) (list_tree 12 order_tree a) refl (orders_fit a (subst (λ (x : Option (List ℤ)). IfSome x OrdersReadBack) e f.column_orders))) tt),
          ),
        ),
      ),
    )
  where
    orders_fit : (xs : List ℤ) → OrdersReadBack xs → Fits (lists (structs order_shapes)) (list_tree 12 order_tree xs)
    orders_fit xs h = (refl, small_list order_tree xs h.size, list_fit (structs order_shapes) 12 order_tree IsFlag (λ x g. (refl, order_fit x g)) xs h.order)

pub footer_reads_back : (m : FileMeta) (rest : List ℕ) → FooterReadsBack m → footer (footer_bytes m ++ rest) ≡ Ok m
unfolding footer
footer_reads_back m rest f = rw (struct_back file_shapes file_of m (file_fields m) rest (file_fit m f) (file_again m f), f.fields, f.rows) refl
