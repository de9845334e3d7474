-- The trees of the elements that are written.
use Rattle.std.proofs.Common.{◌≡◌, ◌∙◌, sym, ap, ap₂, refl, ℕ, suc, ◌+◌, ◌≤◌, map, length, List, [], ◌∷◌, ◌++◌, Bool, arith}
use Rattle.std.proofs.lemmas.List.{append-nil}
use Rattle.vs_bytes.specs.declared.leaf_columns.PrimKind.TheVariants as prim
use Rattle.shred_schema.specs.Groups.{Group, group, Kind, free, scalar, object_of, list_of, Groups, no_groups, field, groups_from, slot_width, width, kind_width, groups_width}
use Rattle.shred_schema.specs.Lawful.{HasEither, MayHold, AreNodes, EachIn, EachField}
use Rattle.shred_schema.specs.declared.kinds.Note.{Note}
use Rattle.shred_schema.specs.declared.kinds.Note.TheVariants as note
use Rattle.shred_schema.specs.declared.nodes.Slot.{Slot}
use Rattle.shred_schema.specs.declared.nodes.Slot.TheVariants.{Absent, Required, Optional}
use Rattle.shred_schema.specs.Views.{named}
use Rattle.shred_schema.specs.declared.nodes.Node.{Node}
use Rattle.shred_schema.proofs.NodeFacts.{nodes_width}
use Rattle.schema_elements.specs.declared.elements.SchemaElement.{SchemaElement}
use Rattle.schema_elements.specs.SchemaTrees.{child_count}
use Rattle.file_columns.specs.Forests.{Forest, no_trees, tree, flat, tree_count, Tells}
use Rattle.written_columns.specs.Written.{leaf_element, group_element, root_element, column_element, metadata_name, value_name, typed_name, list_name, element_name, is_typed, member_count, field_count, value_elements, member_elements, typed_elements, field_elements, schema_elements}

abbrev pub value_trees : Slot → Forest → Forest
value_trees Absent next = next
value_trees Required next = tree (leaf_element prim.Raw 0 value_name) no_trees next
value_trees Optional next = tree (leaf_element prim.Raw 1 value_name) no_trees next

abbrev mutual
  pub member_trees : Group → Forest
  member_trees (group s t) = value_trees s (typed_trees t)

  pub typed_trees : Kind → Forest
  typed_trees free = no_trees
  typed_trees (scalar q) = tree (leaf_element q 1 typed_name) no_trees no_trees
  typed_trees (object_of gs) = tree (group_element 1 typed_name (field_count gs) note.None) (field_trees gs) no_trees
  typed_trees (list_of n) = tree (group_element 1 typed_name 1 note.List) (tree (group_element 2 list_name 1 note.None) (tree (group_element 0 element_name (member_count n) note.None) (member_trees n) no_trees) no_trees) no_trees

  pub field_trees : Groups → Forest
  field_trees no_groups = no_trees
  field_trees (field name n gs) = tree (group_element 0 name (member_count n) note.None) (member_trees n) (field_trees gs)

-- inside the typed value of a list
abbrev pub element_trees : Group → Forest
element_trees n = tree (group_element 0 element_name (member_count n) note.None) (member_trees n) no_trees

abbrev pub list_trees : Group → Forest
list_trees n = tree (group_element 2 list_name 1 note.None) (element_trees n) no_trees

abbrev pub schema_trees : Bool → List ℕ → Group → Forest
schema_trees optional name n = tree root_element (tree (column_element optional name (member_count n + 1)) (tree (leaf_element prim.Raw 0 metadata_name) no_trees (member_trees n)) no_trees) no_trees

-- Their elements are those that are written.

value_flat : (s : Slot) (f : Forest) → flat (value_trees s f) ≡ value_elements s ++ flat f
value_flat Absent f = refl
value_flat Required f = refl
value_flat Optional f = refl

mutual
  pub members_flat : (n : Group) → flat (member_trees n) ≡ member_elements n
  members_flat (group s t) = value_flat s (typed_trees t) ∙ ap (λ (es : List SchemaElement). value_elements s ++ es) (typed_flat t)

  typed_flat : (t : Kind) → flat (typed_trees t) ≡ typed_elements t
  typed_flat free = refl
  typed_flat (scalar q) = refl
  typed_flat (object_of gs) = ap (λ (es : List SchemaElement). group_element 1 typed_name (field_count gs) note.None ∷ es) (append-nil (flat (field_trees gs)) ∙ fields_flat gs)
  typed_flat (list_of n) =
      ap (λ (es : List SchemaElement). group_element 1 typed_name 1 note.List ∷ es)
      (append-nil _ ∙ ap (λ (es : List SchemaElement). group_element 2 list_name 1 note.None ∷ es)
      (append-nil _ ∙ ap (λ (es : List SchemaElement). group_element 0 element_name (member_count n) note.None ∷ es) (append-nil _ ∙ members_flat n)))

  fields_flat : (gs : Groups) → flat (field_trees gs) ≡ field_elements gs
  fields_flat no_groups = refl
  fields_flat (field name n gs) = ap₂ (λ (xs ys : List SchemaElement). group_element 0 name (member_count n) note.None ∷ (xs ++ ys)) (members_flat n) (fields_flat gs)

pub schema_flat : (optional : Bool) (name : List ℕ) (n : Group) → flat (schema_trees optional name n) ≡ schema_elements optional name n
schema_flat optional name n =
    ap (λ (es : List SchemaElement). root_element ∷ es)
    (append-nil _ ∙ ap (λ (es : List SchemaElement). column_element optional name (member_count n + 1) ∷ es) (append-nil _ ∙ ap (λ (es : List SchemaElement). leaf_element prim.Raw 0 metadata_name ∷ es) (members_flat n)))

-- a code's fields are as many as those of its groups
pub fields_counted : (fs : List (List ℕ × Node)) → field_count (groups_from (map named fs)) ≡ length fs
fields_counted [] = refl
fields_counted (f ∷ fs) = ap suc (fields_counted fs)

-- Each tells how many stand inside it.

leaf_children : (q : _) (r : ℕ) (name : List ℕ) → child_count (leaf_element q r name) ≡ 0
unfolding leaf_element
leaf_children q r name = refl

group_children : (r : ℕ) (name : List ℕ) (count : ℕ) (n : Note) → count ≤ 2147483647 → child_count (group_element r name count n) ≡ count
unfolding group_element
group_children r name count n h = omega arith

column_children : (optional : Bool) (name : List ℕ) (count : ℕ) → count ≤ 2147483647 → child_count (column_element optional name count) ≡ count
unfolding column_element
column_children optional name count h = omega arith

root_children : child_count root_element ≡ 1
unfolding root_element
root_children = refl

slot_most : (s : Slot) → slot_width s ≤ 1
slot_most Absent = omega arith
slot_most Required = omega arith
slot_most Optional = omega arith

typed_most : (t : Kind) → is_typed t ≤ 1
typed_most free = omega arith
typed_most (scalar q) = omega arith
typed_most (object_of gs) = omega arith
typed_most (list_of n) = omega arith

pub members_most : (n : Group) → member_count n ≤ 2
members_most (group s t) = omega (arith, slot_most s, typed_most t)

typed_trees_count : (t : Kind) → tree_count (typed_trees t) ≡ is_typed t
typed_trees_count free = refl
typed_trees_count (scalar q) = refl
typed_trees_count (object_of gs) = refl
typed_trees_count (list_of n) = refl

value_trees_count : (s : Slot) (f : Forest) → tree_count (value_trees s f) ≡ slot_width s + tree_count f
value_trees_count Absent f = omega arith
value_trees_count Required f = omega arith
value_trees_count Optional f = omega arith

pub members_trees_count : (n : Group) → tree_count (member_trees n) ≡ member_count n
members_trees_count (group s t) = value_trees_count s (typed_trees t) ∙ ap (λ k. slot_width s + k) (typed_trees_count t)

field_trees_count : (gs : Groups) → tree_count (field_trees gs) ≡ field_count gs
field_trees_count no_groups = refl
field_trees_count (field name n gs) = ap suc (field_trees_count gs)

fields_most : (gs : Groups) → EachField HasEither MayHold gs → field_count gs ≤ groups_width gs
fields_most no_groups h = omega arith
fields_most (field name n gs) h = omega (arith, nodes_width n h.0, fields_most gs h.1)

value_tells : (s : Slot) (f : Forest) → Tells f → Tells (value_trees s f)
value_tells Absent f h = h
value_tells Required f h = (sym (leaf_children prim.Raw 0 value_name), tt, h)
value_tells Optional f h = (sym (leaf_children prim.Raw 1 value_name), tt, h)

group_tells : (r : ℕ) (name : List ℕ) (count : ℕ) (n : Note) (f : Forest) → tree_count f ≡ count → count ≤ 2147483647 → tree_count f ≡ child_count (group_element r name count n)
group_tells r name count n f is h = is ∙ sym (group_children r name count n h)

mutual
  members_tell : (n : Group) → AreNodes n → width n ≤ 1024 → Tells (member_trees n)
  members_tell (group s t) h few = value_tells s (typed_trees t) (typed_tell t h.1 (omega arith))

  typed_tell : (t : Kind) → EachIn HasEither MayHold t → kind_width t ≤ 1024 → Tells (typed_trees t)
  typed_tell free h few = tt
  typed_tell (scalar q) h few = (sym (leaf_children q 1 typed_name), tt, tt)
  typed_tell (object_of gs) h few = (group_tells 1 typed_name (field_count gs) note.None (field_trees gs) (field_trees_count gs) (omega (arith, fields_most gs h.1)), fields_tell gs h.1 few, tt)
  typed_tell (list_of n) h few = (
    group_tells 1 typed_name 1 note.List (list_trees n) refl (omega arith),
    (
      group_tells 2 list_name 1 note.None (element_trees n) refl (omega arith),
      (group_tells 0 element_name (member_count n) note.None (member_trees n) (members_trees_count n) (omega (arith, members_most n)), members_tell n h few, tt),
      tt,
    ),
    tt,
  )

  fields_tell : (gs : Groups) → EachField HasEither MayHold gs → groups_width gs ≤ 1024 → Tells (field_trees gs)
  fields_tell no_groups h few = tt
  fields_tell (field name n gs) h few =
      (group_tells 0 name (member_count n) note.None (member_trees n) (members_trees_count n) (omega (arith, members_most n)), members_tell n h.0 (omega arith), fields_tell gs h.1 (omega arith))

pub schema_tells : (optional : Bool) (name : List ℕ) (n : Group) → AreNodes n → width n ≤ 1024 → Tells (schema_trees optional name n)
schema_tells optional name n h few = (
  sym root_children,
  (
    ap suc (members_trees_count n) ∙ (omega arith) ∙ sym (column_children optional name (member_count n + 1) (omega (arith, members_most n))),
    (sym (leaf_children prim.Raw 0 metadata_name), tt, members_tell n h few),
    tt,
  ),
  tt,
)
