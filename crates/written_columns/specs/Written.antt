-- The schema elements that are written for a column, and the schema path of each leaf (VariantShredding.md; LogicalTypes.md;
-- parquet.thrift, SchemaElement).
use Rattle.std.specs.Prelude.{ℕ, zero, suc, ◌+◌, ◌==◌, min, List, [], ◌∷◌, ◌++◌, map, slice_index_or, Bool, if◌then◌else◌, cond, ℤ, pos, codes, Option, Some, None}
use Rattle.vs_bytes.specs.declared.leaf_columns.Phys.{Phys}
use Rattle.vs_bytes.specs.declared.leaf_columns.Phys.TheVariants as phys
use Rattle.vs_bytes.specs.declared.leaf_columns.PrimKind.{PrimKind}
use Rattle.vs_bytes.specs.declared.leaf_columns.PrimKind.TheVariants as prim
use Rattle.shred_schema.specs.Groups.{Group, group, Kind, free, scalar, object_of, list_of, Groups, no_groups, field, slot_width, width}
use Rattle.shred_schema.specs.Kinds.{type_written, note_written}
use Rattle.shred_schema.specs.declared.kinds.Note.{Note}
use Rattle.shred_schema.specs.declared.kinds.Note.TheVariants as note
use Rattle.shred_schema.specs.declared.nodes.Slot.{Slot}
use Rattle.shred_schema.specs.declared.nodes.Slot.TheVariants.{Absent, Required, Optional}
use Rattle.std.specs.Ordering.{int_eq}
use Rattle.shred_schema.specs.Leaves.{column_leaves}
use Rattle.schema_elements.specs.SchemaTrees.{is_leaf}
use Rattle.file_columns.specs.Columns.{ColumnView}
use Rattle.file_columns.specs.Forests.{Forest, no_trees, tree}
use Rattle.schema_elements.specs.declared.logical_types.Logical.{Logical}
use Rattle.schema_elements.specs.declared.elements.SchemaElement.{SchemaElement}

-- Names and numbers.

abbrev pub root_name : List ℕ
root_name = codes "schema"

abbrev pub metadata_name : List ℕ
metadata_name = codes "metadata"

abbrev pub value_name : List ℕ
value_name = codes "value"

abbrev pub typed_name : List ℕ
typed_name = codes "typed_value"

abbrev pub list_name : List ℕ
list_name = codes "list"

abbrev pub element_name : List ℕ
element_name = codes "element"

-- Type
abbrev pub type_number : Phys → ℕ
type_number phys.Boolean = 0
type_number phys.Int32 = 1
type_number phys.Int64 = 2
type_number phys.Other = 3
type_number phys.Float = 4
type_number phys.Double = 5
type_number phys.ByteArray = 6
type_number (phys.Fixed size) = 7

-- a count, as far as an i32 goes
abbrev pub as_i32 : ℕ → ℤ
as_i32 n = pos (min n 2147483647)

abbrev pub length_written : Phys → Option ℤ
length_written (phys.Fixed size) = Some (as_i32 size)
length_written type = None

-- The annotation as a logical type, with its two fields, and as a converted type for older readers.

abbrev pub logical : ℕ → Option ℤ → Option ℤ → Option Logical
logical member first second = Some (record { member = pos member; first = first; second = second })

abbrev pub truth : Bool → ℤ
truth b = cond b (pos 1) (pos 0)

abbrev pub logical_written : Note → Option Logical
logical_written note.Text = logical 1 None None
logical_written note.List = logical 3 None None
logical_written (note.Decimal p s) = logical 5 (Some (pos s)) (Some (pos p))
logical_written (note.Integer bits signed) = logical 10 (Some (pos bits)) (Some (truth signed))
logical_written rest = None

-- signed integers of 8 and of 16 bits
abbrev pub integer_converted : ℕ → Option ℤ
integer_converted bits = if bits == 8 then Some (pos 15) else if bits == 16 then Some (pos 16) else None

abbrev pub converted_written : Note → Option ℤ
converted_written note.Text = Some (pos 0)
converted_written note.List = Some (pos 3)
converted_written (note.Decimal p s) = Some (pos 5)
converted_written (note.Integer bits signed) = integer_converted bits
converted_written rest = None

abbrev pub precision_written : Note → Option ℤ
precision_written (note.Decimal p s) = Some (pos p)
precision_written rest = None

abbrev pub scale_written : Note → Option ℤ
scale_written (note.Decimal p s) = Some (pos s)
scale_written rest = None

-- The elements. The repetition is REQUIRED 0, OPTIONAL 1 or REPEATED 2.

abbrev pub element : Option ℤ → Option ℤ → ℕ → List ℕ → Option ℤ → Note → SchemaElement
element kind len repetition name children n = record {
  kind = kind;
  type_length = len;
  repetition_type = Some (pos repetition);
  name = name;
  num_children = children;
  converted_type = converted_written n;
  scale = scale_written n;
  precision = precision_written n;
  logical_type = logical_written n;
}

unfoldable pub leaf_element : PrimKind → ℕ → List ℕ → SchemaElement
leaf_element q repetition name = element (Some (pos (type_number (type_written q)))) (length_written (type_written q)) repetition name None (note_written q)

unfoldable pub group_element : ℕ → List ℕ → ℕ → Note → SchemaElement
group_element repetition name count n = element None None repetition name (Some (as_i32 count)) n

-- the root has a name and one child
unfoldable pub root_element : SchemaElement
root_element = record {
  kind = None;
  type_length = None;
  repetition_type = None;
  name = root_name;
  num_children = Some (pos 1);
  converted_type = None;
  scale = None;
  precision = None;
  logical_type = None;
}

-- the column is a group annotated as VARIANT, of specification version 1
unfoldable pub column_element : Bool → List ℕ → ℕ → SchemaElement
column_element optional name count = record {
  kind = None;
  type_length = None;
  repetition_type = Some (truth optional);
  name = name;
  num_children = Some (as_i32 count);
  converted_type = None;
  scale = None;
  precision = None;
  logical_type = logical 16 (Some (pos 1)) None;
}

-- The elements of a node: its value, and its typed value with what is inside it.

abbrev pub is_typed : Kind → ℕ
is_typed free = 0
is_typed (scalar q) = 1
is_typed (object_of gs) = 1
is_typed (list_of n) = 1

-- how many members a node has
abbrev pub member_count : Group → ℕ
member_count (group s t) = slot_width s + is_typed t

abbrev pub field_count : Groups → ℕ
field_count no_groups = 0
field_count (field name n gs) = suc (field_count gs)

abbrev pub value_elements : Slot → List SchemaElement
value_elements Absent = []
value_elements Required = leaf_element prim.Raw 0 value_name ∷ []
value_elements Optional = leaf_element prim.Raw 1 value_name ∷ []

-- an object's typed value has a required group for each field; a list's is annotated as LIST, and has one repeated group
-- with one required group in it
abbrev mutual
  pub member_elements : Group → List SchemaElement
  member_elements (group s t) = value_elements s ++ typed_elements t

  pub typed_elements : Kind → List SchemaElement
  typed_elements free = []
  typed_elements (scalar q) = leaf_element q 1 typed_name ∷ []
  typed_elements (object_of gs) = group_element 1 typed_name (field_count gs) note.None ∷ field_elements gs
  typed_elements (list_of n) = group_element 1 typed_name 1 note.List ∷ (group_element 2 list_name 1 note.None ∷ (group_element 0 element_name (member_count n) note.None ∷ member_elements n))

  pub field_elements : Groups → List SchemaElement
  field_elements no_groups = []
  field_elements (field name n gs) = (group_element 0 name (member_count n) note.None ∷ member_elements n) ++ field_elements gs

-- the whole schema: the root, the column, its metadata and the members of its node
abbrev pub schema_elements : Bool → List ℕ → Group → List SchemaElement
schema_elements optional name n = root_element ∷ (column_element optional name (member_count n + 1) ∷ (leaf_element prim.Raw 0 metadata_name ∷ member_elements n))

-- The schema path of each leaf: the names from the column down to it.

abbrev pub value_paths : List (List ℕ) → Slot → List (List (List ℕ))
value_paths way Absent = []
value_paths way Required = (way ++ value_name ∷ []) ∷ []
value_paths way Optional = (way ++ value_name ∷ []) ∷ []

abbrev mutual
  pub member_paths : Group → List (List ℕ) → List (List (List ℕ))
  member_paths (group s t) way = value_paths way s ++ typed_paths t way

  pub typed_paths : Kind → List (List ℕ) → List (List (List ℕ))
  typed_paths free way = []
  typed_paths (scalar q) way = (way ++ typed_name ∷ []) ∷ []
  typed_paths (object_of gs) way = field_paths gs (way ++ typed_name ∷ [])
  typed_paths (list_of n) way = member_paths n (((way ++ typed_name ∷ []) ++ list_name ∷ []) ++ element_name ∷ [])

  pub field_paths : Groups → List (List ℕ) → List (List (List ℕ))
  field_paths no_groups way = []
  field_paths (field name n gs) way = member_paths n (way ++ name ∷ []) ++ field_paths gs way

abbrev pub column_paths : List ℕ → Group → List (List (List ℕ))
column_paths name n = (name ∷ (metadata_name ∷ [])) ∷ member_paths n (name ∷ [])

-- What is read of a schema that is written: the column, with its leaves in their places.

abbrev pub numbers_from : ℕ → ℕ → List ℕ
numbers_from k zero = []
numbers_from k (suc count) = k ∷ numbers_from (k + 1) count

abbrev pub written_view : Bool → Group → List ℤ → ColumnView
written_view optional n orders = record {
  optional = optional;
  node = n;
  leaves = column_leaves optional n;
  places = numbers_from 0 (1 + width n);
  ordered = map (λ k. int_eq (slice_index_or orders k (pos 0)) (pos 1)) (numbers_from 0 (1 + width n));
}

-- the names on the way to each leaf of trees
abbrev pub ways : List (List ℕ) → Forest → List (List (List ℕ))
ways way no_trees = []
ways way (tree e inside next) = cond (is_leaf e) ((way ++ e.name ∷ []) ∷ []) (ways (way ++ e.name ∷ []) inside) ++ ways way next

-- inside the root
abbrev pub ways_in_root : Forest → List (List (List ℕ))
ways_in_root no_trees = []
ways_in_root (tree e inside next) = ways [] inside
