-- Schema paths are the ways to the leaves of a schema that is written.
use Rattle.std.proofs.Common.{◌≡◌, ◌∙◌, ap, ap₂, refl, ℕ, ◌+◌, List, [], ◌∷◌, ◌++◌, length, length-append, Bool, arith}
use Rattle.std.proofs.lemmas.List.{append-nil}
use Rattle.shred_schema.specs.Groups.{Group, group, Kind, free, scalar, object_of, list_of, Groups, no_groups, field, slot_width, width, kind_width, groups_width}
use Rattle.shred_schema.specs.Lawful.{IsWellFormed}
use Rattle.shred_schema.specs.declared.kinds.Note.{Note}
use Rattle.shred_schema.specs.declared.kinds.Note.TheVariants as note
use Rattle.shred_schema.specs.declared.nodes.Slot.{Slot}
use Rattle.shred_schema.specs.declared.nodes.Slot.TheVariants.{Absent, Required, Optional}
use Rattle.file_columns.specs.Forests.{Forest, no_trees, tree, forest}
use Rattle.written_columns.specs.Written.{leaf_element, group_element, column_element, metadata_name, typed_name, list_name, element_name, member_count, field_count, value_paths, member_paths, typed_paths, field_paths, column_paths, schema_elements, ways, ways_in_root}
use Rattle.written_columns.proofs.Trees.{value_trees, member_trees, typed_trees, field_trees, element_trees, list_trees, schema_trees}
use Rattle.written_columns.proofs.Whole.{schema_forest}

value_ways : (way : List (List ℕ)) (s : Slot) (f : Forest) → ways way (value_trees s f) ≡ value_paths way s ++ ways way f
unfolding leaf_element
value_ways way Absent f = refl
value_ways way Required f = refl
value_ways way Optional f = refl

leaf_way : (way : List (List ℕ)) (q : _) (r : ℕ) (name : List ℕ) (next : Forest) → ways way (tree (leaf_element q r name) no_trees next) ≡ (way ++ name ∷ []) ∷ ways way next
unfolding leaf_element
leaf_way way q r name next = refl

group_ways : (way : List (List ℕ)) (r : ℕ) (name : List ℕ) (count : ℕ) (n : Note) (inside next : Forest) → ways way (tree (group_element r name count n) inside next) ≡ ways (way ++ name ∷ []) inside ++ ways way next
unfolding group_element
group_ways way r name count n inside next = refl

lone_ways : (way : List (List ℕ)) (r : ℕ) (name : List ℕ) (count : ℕ) (n : Note) (inside : Forest) → ways way (tree (group_element r name count n) inside no_trees) ≡ ways (way ++ name ∷ []) inside
lone_ways way r name count n inside = group_ways way r name count n inside no_trees ∙ append-nil (ways (way ++ name ∷ []) inside)

mutual
  member_ways : (n : Group) (way : List (List ℕ)) → ways way (member_trees n) ≡ member_paths n way
  member_ways (group s t) way = value_ways way s (typed_trees t) ∙ ap (λ (ps : List (List (List ℕ))). value_paths way s ++ ps) (typed_ways t way)

  typed_ways : (t : Kind) (way : List (List ℕ)) → ways way (typed_trees t) ≡ typed_paths t way
  typed_ways free way = refl
  typed_ways (scalar q) way = leaf_way way q 1 typed_name no_trees
  typed_ways (object_of gs) way = lone_ways way 1 typed_name (field_count gs) note.None (field_trees gs) ∙ fields_ways gs (way ++ typed_name ∷ [])
  typed_ways (list_of n) way =
      lone_ways way 1 typed_name 1 note.List (list_trees n)
      ∙ lone_ways (way ++ typed_name ∷ []) 2 list_name 1 note.None (element_trees n)
      ∙ lone_ways ((way ++ typed_name ∷ []) ++ list_name ∷ []) 0 element_name (member_count n) note.None (member_trees n)
      ∙ member_ways n (((way ++ typed_name ∷ []) ++ list_name ∷ []) ++ element_name ∷ [])

  fields_ways : (gs : Groups) (way : List (List ℕ)) → ways way (field_trees gs) ≡ field_paths gs way
  fields_ways no_groups way = refl
  fields_ways (field name n gs) way =
      group_ways way 0 name (member_count n) note.None (member_trees n) (field_trees gs)
      ∙ ap₂ (λ (ps qs : List (List (List ℕ))). ps ++ qs) (member_ways n (way ++ name ∷ [])) (fields_ways gs way)

root_ways : (optional : Bool) (name : List ℕ) (n : Group) → ways_in_root (schema_trees optional name n) ≡ ((name ∷ (metadata_name ∷ [])) ∷ ways (name ∷ []) (member_trees n)) ++ []
unfolding column_element leaf_element
root_ways optional name n = refl

pub paths_are : (optional : Bool) (name : List ℕ) (n : Group) → IsWellFormed n → ways_in_root (forest (schema_elements optional name n)) ≡ column_paths name n
paths_are optional name n h =
    ap ways_in_root (schema_forest optional name n h) ∙ root_ways optional name n ∙ append-nil _ ∙ ap (λ (ps : List (List (List ℕ))). (name ∷ (metadata_name ∷ [])) ∷ ps) (member_ways n (name ∷ []))

value_count : (way : List (List ℕ)) (s : Slot) → length (value_paths way s) ≡ slot_width s
value_count way Absent = refl
value_count way Required = refl
value_count way Optional = refl

mutual
  members_count : (n : Group) (way : List (List ℕ)) → length (member_paths n way) ≡ width n
  members_count (group s t) way = length-append (value_paths way s) (typed_paths t way) ∙ ap₂ (λ a b. a + b) (value_count way s) (typed_count t way)

  typed_count : (t : Kind) (way : List (List ℕ)) → length (typed_paths t way) ≡ kind_width t
  typed_count free way = refl
  typed_count (scalar q) way = refl
  typed_count (object_of gs) way = fields_count gs (way ++ typed_name ∷ [])
  typed_count (list_of n) way = members_count n (((way ++ typed_name ∷ []) ++ list_name ∷ []) ++ element_name ∷ [])

  fields_count : (gs : Groups) (way : List (List ℕ)) → length (field_paths gs way) ≡ groups_width gs
  fields_count no_groups way = refl
  fields_count (field name n gs) way = length-append (member_paths n (way ++ name ∷ [])) (field_paths gs way) ∙ ap₂ (λ a b. a + b) (members_count n (way ++ name ∷ [])) (fields_count gs way)

pub paths_counted : (name : List ℕ) (n : Group) → length (column_paths name n) ≡ 1 + width n
paths_counted name n = let count = members_count n (name ∷ []) in omega (arith, count)
