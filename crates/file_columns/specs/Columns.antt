-- The column of shredded Variants in a schema (VariantShredding.md; the parquet-format README, "Nested Encoding").
use Rattle.std.specs.Prelude.{ℕ, zero, suc, ◌+◌, List, [], ◌∷◌, ◌++◌, map, find, length, nat_lt, Bool, true, false, cond, not, ◌&&◌, ◌||◌, bytes_eq, codes, Option, Some, None, Result, Ok, Err, pos, ℤ, slice_index_or}
use Rattle.std.specs.List.{list_all}
use Rattle.std.specs.Option.{option_map}
use Rattle.std.specs.Ordering.{int_eq}
use Rattle.thrift_compact.specs.Slots.{◌>>?◌}
use Rattle.vs_bytes.specs.Names.{repeats}
use Rattle.vs_bytes.specs.declared.leaf_columns.Leaf.{Leaf}
use Rattle.vs_bytes.specs.declared.leaf_columns.PrimKind.{PrimKind}
use Rattle.vs_bytes.specs.declared.leaf_columns.PrimKind.TheVariants as prim
use Rattle.vs_bytes.specs.declared.rule.Rule.{Rule}
use Rattle.vs_bytes.specs.declared.rule.Rule.TheVariants as rule
use Rattle.shred_schema.specs.Groups.{Group, group, Kind, free, scalar, object_of, list_of, Groups, no_groups, field}
use Rattle.shred_schema.specs.Lawful.{max_nesting, max_leaves}
use Rattle.shred_schema.specs.declared.nodes.Slot.{Slot}
use Rattle.shred_schema.specs.declared.nodes.Slot.TheVariants.{Absent, Required, Optional}
use Rattle.schema_elements.specs.declared.elements.SchemaElement.{SchemaElement}
use Rattle.file_columns.specs.declared.places.Levels.{Levels}
use Rattle.file_columns.specs.declared.places.PlacedLeaf.{PlacedLeaf}
use Rattle.file_columns.specs.Elements.{is_at, is_required, is_optional, is_repeated, type_of, note_of, is_list_note, prim_of}
use Rattle.schema_elements.specs.SchemaTrees.{is_leaf, own_leaf}
use Rattle.file_columns.specs.Forests.{Forest, no_trees, tree, forest, leaf_count}

-- an element, the elements inside it, and its place: how many leaves stand before it in the schema
pub record PlacedElement : Type 0 where
  pub place : ℕ
  pub element : SchemaElement
  pub inside : Forest

-- the elements at the front of trees, the first of them at a place
abbrev pub children : ℕ → Forest → List PlacedElement
children place no_trees = []
children place (tree e inside next) = record { place = place; element = e; inside = inside } ∷ children (place + (own_leaf e + leaf_count inside)) next

abbrev pub children_in : PlacedElement → List PlacedElement
children_in c = children c.place c.inside

abbrev pub name_of : PlacedElement → List ℕ
name_of c = c.element.name

abbrev pub names_of : List PlacedElement → List (List ℕ)
names_of cs = map name_of cs

-- the first of a name
abbrev pub named : List ℕ → List PlacedElement → Option PlacedElement
named name cs = find (λ c. bytes_eq (name_of c) name) cs

-- Levels. An optional or repeated element adds 1 to the definition level, and a repeated one 1 to the repetition level.

abbrev pub top_levels : Levels
top_levels = record { rep = 0; def = 0 }

unfoldable pub past : SchemaElement → Levels → Levels
past e l = record { rep = l.rep + cond (is_repeated e) 1 0; def = l.def + cond (is_optional e || is_repeated e) 1 0 }

-- a leaf, by the levels of the group that it stands in
abbrev pub placed : PrimKind → Levels → PlacedElement → PlacedLeaf
placed q l c = record { leaf = record { rep = (past c.element l).rep; def = (past c.element l).def; phys = type_of c.element; prim = q }; place = c.place }

-- A node. Its parts are what it has, and its leaves in their order.

abbrev pub value_name : List ℕ
value_name = codes "value"

abbrev pub typed_name : List ℕ
typed_name = codes "typed_value"

abbrev pub metadata_name : List ℕ
metadata_name = codes "metadata"

-- BYTE_ARRAY
unfoldable pub is_binary : SchemaElement → Bool
is_binary e = is_leaf e && is_at 6 e.kind

-- a value is a required or optional BYTE_ARRAY
unfoldable pub slot_of : SchemaElement → Option Slot
slot_of e = cond (is_binary e) (cond (is_required e) (Some Required) (cond (is_optional e) (Some Optional) None)) None

abbrev pub value_in : Levels → Option PlacedElement → Option (Slot × List PlacedLeaf)
value_in l None = Some (Absent, [])
value_in l (Some c) = slot_of c.element >>? λ slot. Some (slot, placed prim.Raw l c ∷ [])

-- a typed value is optional, and a leaf or a group that `read` reads
abbrev pub typed_in : (Levels → PlacedElement → Option (Kind × List PlacedLeaf)) → Levels → Option PlacedElement → Option (Kind × List PlacedLeaf)
typed_in read l None = Some (free, [])
typed_in read l (Some c) = cond (is_optional c.element) (cond (is_leaf c.element) (Some (scalar (prim_of c.element), placed (prim_of c.element) l c ∷ [])) (read (past c.element l) c)) None

abbrev pub is_bare : Slot → Kind → Bool
is_bare Absent free = true
is_bare s t = false

-- a node has a value or a typed value
abbrev pub joined : Slot × List PlacedLeaf → Kind × List PlacedLeaf → Option (Group × List PlacedLeaf)
joined v t = cond (is_bare v.0 t.0) None (Some (group v.0 t.0, v.1 ++ t.1))

abbrev pub parts_in : (Levels → PlacedElement → Option (Kind × List PlacedLeaf)) → Levels → List PlacedElement → Option (Group × List PlacedLeaf)
parts_in read l cs = value_in l (named value_name cs) >>? λ v. typed_in read l (named typed_name cs) >>? λ t. joined v t

-- a node has no other members, and none twice
unfoldable pub is_member : List ℕ → Bool
is_member name = bytes_eq name value_name || bytes_eq name typed_name

abbrev pub are_members : List PlacedElement → Bool
are_members cs = list_all (λ c. is_member (name_of c)) cs && not (repeats (names_of cs))

unfoldable pub node_in : (Levels → PlacedElement → Option (Kind × List PlacedLeaf)) → Levels → List PlacedElement → Option (Group × List PlacedLeaf)
node_in read l cs = cond (are_members cs) (parts_in read l cs) None

-- The group of a typed value. `read` reads the node of a group's members.

-- a field is a required group
unfoldable pub field_in : (Levels → List PlacedElement → Option (Group × List PlacedLeaf)) → Levels → PlacedElement → Option (Group × List PlacedLeaf)
field_in read l c = cond (is_required c.element && not (is_leaf c.element)) (read (past c.element l) (children_in c)) None

abbrev pub each_field : (Levels → List PlacedElement → Option (Group × List PlacedLeaf)) → Levels → List PlacedElement → Option (Groups × List PlacedLeaf)
each_field read l [] = Some (no_groups, [])
each_field read l (c ∷ cs) = field_in read l c >>? λ n. each_field read l cs >>? λ more. Some (field (name_of c) n.0 more.0, n.1 ++ more.1)

abbrev pub object_in : Groups × List PlacedLeaf → Kind × List PlacedLeaf
object_in p = (object_of p.0, p.1)

-- an object has a field, and no two of one name
unfoldable pub fields_in : (Levels → List PlacedElement → Option (Group × List PlacedLeaf)) → Levels → List PlacedElement → Option (Kind × List PlacedLeaf)
fields_in read l [] = None
fields_in read l (c ∷ cs) = cond (repeats (names_of (c ∷ cs))) None (option_map object_in (each_field read l (c ∷ cs)))

abbrev pub list_in : Group × List PlacedLeaf → Kind × List PlacedLeaf
list_in p = (list_of p.0, p.1)

-- the element of a list is its one required group
abbrev pub element_in : (Levels → List PlacedElement → Option (Group × List PlacedLeaf)) → Levels → List PlacedElement → Option (Group × List PlacedLeaf)
element_in read l (c ∷ []) = field_in read l c
element_in read l rest = None

-- a list is one repeated group
abbrev pub items_in : (Levels → List PlacedElement → Option (Group × List PlacedLeaf)) → Levels → List PlacedElement → Option (Kind × List PlacedLeaf)
items_in read l (c ∷ []) = cond (is_repeated c.element && not (is_leaf c.element)) (option_map list_in (element_in read (past c.element l) (children_in c))) None
items_in read l rest = None

-- a group of objects or lists that nest so deep at most. A list is told by its annotation
unfoldable pub group_in : ℕ → Levels → PlacedElement → Option (Kind × List PlacedLeaf)
group_in zero l c = None
group_in (suc room) l c =
    cond (is_list_note (note_of c.element)) (items_in (node_in (group_in room)) l (children_in c))
    (fields_in (node_in (group_in room)) l (children_in c))

-- The column.

-- the metadata is a required BYTE_ARRAY
abbrev pub metadata_in : Levels → Option PlacedElement → Option PlacedLeaf
metadata_in l None = None
metadata_in l (Some c) = cond (is_binary c.element && is_required c.element) (Some (placed prim.Raw l c)) None

-- the top of a column has metadata beside its node's members
unfoldable pub is_top_member : List ℕ → Bool
is_top_member name = bytes_eq name metadata_name || is_member name

abbrev pub are_top_members : List PlacedElement → Bool
are_top_members cs = list_all (λ c. is_top_member (name_of c)) cs && not (repeats (names_of cs))

abbrev pub with_metadata : PlacedLeaf → Group × List PlacedLeaf → Group × List PlacedLeaf
with_metadata m n = (n.0, m ∷ n.1)

unfoldable pub top_in : Levels → List PlacedElement → Option (Group × List PlacedLeaf)
top_in l cs =
    cond (are_top_members cs)
    (metadata_in l (named metadata_name cs) >>? λ m. option_map (with_metadata m) (parts_in (group_in max_nesting) l cs))
    None

-- a column is a required or optional group
unfoldable pub column_in : PlacedElement → Option (Group × List PlacedLeaf)
column_in c = cond (not (is_leaf c.element) && (is_required c.element || is_optional c.element)) (top_in (past c.element top_levels) (children_in c)) None

-- what is given of a column: its node; for each leaf its place among all leaves of the schema, and whether the file tells
-- that bounds of it are in the order of its type
pub record ColumnView : Type 0 where
  pub optional : Bool
  pub node : Group
  pub leaves : List Leaf
  pub places : List ℕ
  pub ordered : List Bool

-- the orders of a file are numbers, with 1 for TYPE_ORDER
abbrev pub is_ordered : List ℤ → PlacedLeaf → Bool
is_ordered orders p = int_eq (slice_index_or orders p.place (pos 0)) (pos 1)

abbrev pub column_view : Bool → List ℤ → Group × List PlacedLeaf → ColumnView
column_view optional orders n = record { optional = optional; node = n.0; leaves = map (λ p. p.leaf) n.1; places = map (λ p. p.place) n.1; ordered = map (is_ordered orders) n.1 }

-- a column has so many leaves at most
abbrev pub judged : Bool → List ℤ → Option (Group × List PlacedLeaf) → Result ColumnView Rule
judged optional orders None = Err rule.SchemaShape
judged optional orders (Some n) = cond (nat_lt max_leaves (length n.1)) (Err rule.TooManyLeaves) (Ok (column_view optional orders n))

abbrev pub column_found : List ℤ → Option PlacedElement → Result ColumnView Rule
column_found orders None = Err rule.NoVariant
column_found orders (Some c) = judged (is_optional c.element) orders (column_in c)

-- what stands inside the schema's root
abbrev pub in_root : Forest → List PlacedElement
in_root no_trees = []
in_root (tree e inside next) = children 0 inside

-- the column of a name, or the first rule that is violated
unfoldable pub column_of : List SchemaElement → List ℕ → List ℤ → Result ColumnView Rule
column_of es name orders = column_found orders (named name (in_root (forest es)))
