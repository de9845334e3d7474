-- A whole schema that is written is read back.
use Rattle.std.proofs.Common.{◌≡◌, ◌∙◌, sym, ap, refl, Bool, true, false, ◌&&◌, ◌||◌, not, nat_eq, nat_lt, ℕ, suc, ◌+◌, ◌≤◌, List, [], ◌∷◌, length, map, Some, Ok, ℤ, pos, arith}
use Rattle.std.specs.Prelude.{bytes_eq, slice_index_or}
use Rattle.std.specs.Ordering.{int_eq}
use Rattle.std.proofs.lemmas.Bool.Decides.{nat_tests}
use Rattle.vs_bytes.specs.declared.leaf_columns.Leaf.{Leaf}
use Rattle.vs_bytes.specs.declared.leaf_columns.PrimKind.TheVariants as prim
use Rattle.shred_schema.specs.Groups.{Group, group, Kind, free, scalar, object_of, list_of, width}
use Rattle.shred_schema.specs.Lawful.{AllWritten, IsWellFormed, max_nesting, max_leaves}
use Rattle.shred_schema.specs.Leaves.{leaf, leaves_of, top_level, column_leaves}
use Rattle.shred_schema.specs.declared.nodes.Slot.{Slot}
use Rattle.shred_schema.specs.declared.nodes.Slot.TheVariants.{Absent, Required, Optional}
use Rattle.shred_schema.proofs.NodeFacts.{column_leaf_count}
use Rattle.schema_elements.specs.SchemaTrees.{is_leaf}
use Rattle.file_columns.specs.declared.places.Levels.{Levels}
use Rattle.file_columns.specs.declared.places.PlacedLeaf.{PlacedLeaf}
use Rattle.file_columns.specs.Elements.{is_required, is_optional}
use Rattle.file_columns.specs.Forests.{Forest, no_trees, tree, forest}
use Rattle.file_columns.specs.Columns.{PlacedElement, children, named, past, placed, parts_in, group_in, metadata_in, metadata_name, is_binary, is_member, is_top_member, are_top_members, top_levels, top_in, column_in, column_view, judged, column_found, in_root, column_of, is_ordered}
use Rattle.file_columns.proofs.ForestFacts.{forest_flat}
use Rattle.written_columns.specs.Written.{leaf_element, group_element, column_element, member_count, schema_elements, numbers_from, written_view}
use Rattle.written_columns.proofs.Trees.{member_trees, schema_trees, schema_flat, schema_tells}
use Rattle.written_columns.proofs.Back.{numbered, past_required, past_optional, placed_required, node_back}

pub schema_forest : (optional : Bool) (name : List ℕ) (n : Group) → IsWellFormed n → forest (schema_elements optional name n) ≡ schema_trees optional name n
schema_forest optional name n h =
    ap forest (sym (schema_flat optional name n)) ∙ forest_flat (schema_trees optional name n) (schema_tells optional name n h.nodes (omega (arith, h.few)))

-- The top of the column.

abbrev meta_trees : Group → Forest
meta_trees n = tree (leaf_element prim.Raw 0 metadata_name) no_trees (member_trees n)

abbrev meta : PlacedElement
meta = record { place = 0; element = leaf_element prim.Raw 0 metadata_name; inside = no_trees }

meta_children : (n : Group) → children 0 (meta_trees n) ≡ meta ∷ children 1 (member_trees n)
unfolding leaf_element
meta_children n = refl

top_members : (s : Slot) (t : Kind) → are_top_members (meta ∷ children 1 (member_trees (group s t))) ≡ true
unfolding leaf_element group_element is_top_member is_member
top_members Absent free = refl
top_members Absent (scalar q) = refl
top_members Absent (object_of gs) = refl
top_members Absent (list_of n) = refl
top_members Required free = refl
top_members Required (scalar q) = refl
top_members Required (object_of gs) = refl
top_members Required (list_of n) = refl
top_members Optional free = refl
top_members Optional (scalar q) = refl
top_members Optional (object_of gs) = refl
top_members Optional (list_of n) = refl

meta_found : (l : Levels) (cs : List PlacedElement) → metadata_in l (named metadata_name (meta ∷ cs)) ≡ Some (placed prim.Raw l meta)
unfolding leaf_element is_binary
meta_found l cs = refl

behind_meta : (l : Levels) (cs : List PlacedElement) → parts_in (group_in max_nesting) l (meta ∷ cs) ≡ parts_in (group_in max_nesting) l cs
unfolding leaf_element
behind_meta l cs = refl

top_back : (d : ℕ) (n : Group) → AllWritten n → IsWellFormed n → top_in (record { rep = 0; def = d }) (children 0 (meta_trees n)) ≡ Some (n, numbered 0 (leaf prim.Raw 0 d ∷ leaves_of n 0 d))
unfolding top_in
top_back d (group s t) h k =
    let l : Levels = record { rep = 0; def = d } in
    ap (top_in l) (meta_children (group s t))
    ∙ rw (top_members s t, meta_found l (children 1 (member_trees (group s t))), behind_meta l (children 1 (member_trees (group s t))), node_back (group s t) max_nesting 1 l h k.deep)
    (λ i. Some (group s t, placed_required prim.Raw l 0 metadata_name i ∷ numbered 1 (leaves_of (group s t) 0 d)))

-- The column in its schema.

abbrev column_at : Bool → List ℕ → Group → PlacedElement
column_at optional name n = record { place = 0; element = column_element optional name (member_count n + 1); inside = meta_trees n }

bytes_same : (xs : List ℕ) → bytes_eq xs xs ≡ true
bytes_same [] = refl
bytes_same (x ∷ xs) = let same : nat_eq x x ≡ true = grind (arith, nat_tests) in rw same (bytes_same xs)

column_named : (optional : Bool) (name : List ℕ) (n : Group) → named name (in_root (schema_trees optional name n)) ≡ Some (column_at optional name n)
unfolding column_element
column_named optional name n = rw (bytes_same name) refl

column_past : (optional : Bool) (name : List ℕ) (count : ℕ) → past (column_element optional name count) top_levels ≡ record { rep = 0; def = top_level optional }
unfolding column_element
column_past true name count = past_optional (column_element true name count) top_levels refl
column_past false name count = past_required (column_element false name count) top_levels refl

column_told : (optional : Bool) (name : List ℕ) (count : ℕ) → (not (is_leaf (column_element optional name count)) && (is_required (column_element optional name count) || is_optional (column_element optional name count))) ≡ true
unfolding column_element
column_told true name count = refl
column_told false name count = refl

column_optional : (optional : Bool) (name : List ℕ) (count : ℕ) → is_optional (column_element optional name count) ≡ optional
unfolding column_element
column_optional true name count = refl
column_optional false name count = refl

column_back : (optional : Bool) (name : List ℕ) (n : Group) → AllWritten n → IsWellFormed n → column_in (column_at optional name n) ≡ Some (n, numbered 0 (column_leaves optional n))
unfolding column_in
column_back optional name n h k =
    rw (column_told optional name (member_count n + 1), column_past optional name (member_count n + 1)) (top_back (top_level optional) n h k)

-- What is given of it.

length_numbered : (p : ℕ) (ls : List Leaf) → length (numbered p ls) ≡ length ls
length_numbered p [] = refl
length_numbered p (x ∷ ls) = ap suc (length_numbered (p + 1) ls)

leaves_numbered : (p : ℕ) (ls : List Leaf) → map (λ (x : PlacedLeaf). x.leaf) (numbered p ls) ≡ ls
leaves_numbered p [] = refl
leaves_numbered p (x ∷ ls) = ap (λ (xs : List Leaf). x ∷ xs) (leaves_numbered (p + 1) ls)

places_numbered : (p : ℕ) (ls : List Leaf) → map (λ (x : PlacedLeaf). x.place) (numbered p ls) ≡ numbers_from p (length ls)
places_numbered p [] = refl
places_numbered p (x ∷ ls) = ap (λ (ks : List ℕ). p ∷ ks) (places_numbered (p + 1) ls)

orders_numbered : (orders : List ℤ) (p : ℕ) (ls : List Leaf) → map (is_ordered orders) (numbered p ls) ≡ map (λ k. int_eq (slice_index_or orders k (pos 0)) (pos 1)) (numbers_from p (length ls))
orders_numbered orders p [] = refl
orders_numbered orders p (x ∷ ls) = ap (λ (bs : List Bool). int_eq (slice_index_or orders p (pos 0)) (pos 1) ∷ bs) (orders_numbered orders (p + 1) ls)

view_back : (optional : Bool) (n : Group) (orders : List ℤ) → column_view optional orders (n, numbered 0 (column_leaves optional n)) ≡ written_view optional n orders
view_back optional n orders =
    let count = column_leaf_count optional n in
    λ i. record {
      optional = optional;
      node = n;
      leaves = leaves_numbered 0 (column_leaves optional n) i;
      places = (places_numbered 0 (column_leaves optional n) ∙ ap (numbers_from 0) count) i;
      ordered = (orders_numbered orders 0 (column_leaves optional n) ∙ ap (λ m. map (λ k. int_eq (slice_index_or orders k (pos 0)) (pos 1)) (numbers_from 0 m)) count) i;
    }

few_leaves : (optional : Bool) (n : Group) → IsWellFormed n → nat_lt max_leaves (length (numbered 0 (column_leaves optional n))) ≡ false
few_leaves optional n h =
    let count : length (numbered 0 (column_leaves optional n)) ≡ 1 + width n = length_numbered 0 (column_leaves optional n) ∙ column_leaf_count optional n in
    let few : length (numbered 0 (column_leaves optional n)) ≤ max_leaves = omega (arith, count, h.few) in
    grind (arith, nat_tests)

judged_back : (optional : Bool) (n : Group) (orders : List ℤ) → IsWellFormed n → judged optional orders (Some (n, numbered 0 (column_leaves optional n))) ≡ Ok (written_view optional n orders)
judged_back optional n orders h = rw (few_leaves optional n h) (λ i. Ok (view_back optional n orders i))

pub written_back : (optional : Bool) (name : List ℕ) (n : Group) (orders : List ℤ) → AllWritten n → IsWellFormed n → column_of (schema_elements optional name n) name orders ≡ Ok (written_view optional n orders)
unfolding column_of
written_back optional name n orders h k =
    ap (λ f. column_found orders (named name (in_root f))) (schema_forest optional name n k)
    ∙ ap (column_found orders) (column_named optional name n)
    ∙ rw (column_optional optional name (member_count n + 1), column_back optional name n h k) (judged_back optional n orders k)
