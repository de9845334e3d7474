-- The places of a column's leaves are places of leaves of its schema.
use Rattle.std.proofs.Common.{◌≡◌, ◌∙◌, sym, ap, subst, refl, cond, Bool, true, false, ◌&&◌, ◌||◌, not, nat_lt, ℕ, zero, suc, ◌+◌, ◌<◌, ◌≤◌, List, [], ◌∷◌, ◌++◌, length, map, Option, None, Some, Result, Ok, Err, ℤ, arith}
use Rattle.std.specs.Prelude.{bytes_eq, All}
use Rattle.std.specs.List.{AllByRecursion}
use Rattle.std.specs.Option.{option_map}
use Rattle.std.proofs.lemmas.List.Elements.{All-from_recursion}
use Rattle.thrift_compact.specs.Slots.{◌>>?◌}
use Rattle.byte_parsing.proofs.Holds.{Holds, holds_none, holds_some, holds_then, holds_map, holds_if}
use Rattle.vs_bytes.specs.Names.{repeats}
use Rattle.vs_bytes.specs.declared.rule.Rule.{Rule}
use Rattle.vs_bytes.specs.declared.rule.Rule.TheVariants as rule
use Rattle.vs_bytes.specs.declared.leaf_columns.PrimKind.TheVariants as prim
use Rattle.shred_schema.specs.Groups.{Group, group, Kind, free, scalar, Groups, no_groups, field}
use Rattle.shred_schema.specs.Lawful.{max_nesting, max_leaves}
use Rattle.shred_schema.specs.declared.nodes.Slot.{Slot}
use Rattle.shred_schema.specs.declared.nodes.Slot.TheVariants.{Absent, Required, Optional}
use Rattle.schema_elements.specs.SchemaTrees.{is_leaf, own_leaf, leaf_count as leaves_told}
use Rattle.schema_elements.specs.declared.elements.SchemaElement.{SchemaElement}
use Rattle.file_columns.specs.declared.places.Levels.{Levels}
use Rattle.file_columns.specs.declared.places.PlacedLeaf.{PlacedLeaf}
use Rattle.file_columns.specs.Elements.{is_at, is_required, is_optional, is_repeated, is_list_note, note_of, prim_of}
use Rattle.file_columns.specs.Forests.{Forest, no_trees, tree, flat, forest, leaf_count}
use Rattle.file_columns.specs.Columns.{PlacedElement, children, children_in, name_of, names_of, named, past, placed, is_binary, slot_of, value_in, typed_in, is_bare, joined, parts_in, are_members, node_in, field_in, each_field, object_in, fields_in, list_in, element_in, items_in, group_in, metadata_in, with_metadata, top_in, column_in, ColumnView, column_view, judged, column_found, in_root, column_of, value_name, typed_name, metadata_name, top_levels, are_top_members}
use Rattle.file_columns.proofs.ForestFacts.{flat_forest}

abbrev Within : ℕ → List PlacedLeaf → Type 0
Within bound ls = AllByRecursion (λ x. x.place < bound) ls

within_append : (bound : ℕ) (xs ys : List PlacedLeaf) → Within bound xs → Within bound ys → Within bound (xs ++ ys)
within_append bound [] ys h k = k
within_append bound (x ∷ xs) ys h k = (h.0, within_append bound xs ys h.1 k)

-- an element whose leaves all stand before the bound
record IsIn (bound : ℕ) (c : PlacedElement) : Type 0 where
  end : c.place + (own_leaf c.element + leaf_count c.inside) ≤ bound

abbrev AllIn : ℕ → List PlacedElement → Type 0
AllIn bound cs = AllByRecursion (IsIn bound) cs

children_are : (bound p : ℕ) (f : Forest) → p + leaf_count f ≤ bound → AllIn bound (children p f)
children_are bound p no_trees h = tt
children_are bound p (tree e inside next) h = (record { end = omega arith }, children_are bound (p + (own_leaf e + leaf_count inside)) next (omega arith))

inside_are : (bound : ℕ) (c : PlacedElement) → IsIn bound c → AllIn bound (children_in c)
inside_are bound c h = children_are bound c.place c.inside (omega (arith, h.end))

named_is : (bound : ℕ) (name : List ℕ) (cs : List PlacedElement) → AllIn bound cs → Holds (IsIn bound) (named name cs)
named_is bound name [] h = holds_none _
named_is bound name (c ∷ cs) h = holds_if _ (bytes_eq (name_of c) name) (Some c) (named name cs) (λ _. holds_some (IsIn bound) c h.0) (λ _. named_is bound name cs h.1)

leaf_in : (bound : ℕ) (c : PlacedElement) → IsIn bound c → is_leaf c.element ≡ true → c.place < bound
leaf_in bound c h is = let one : own_leaf c.element ≡ 1 = rw is refl in omega (arith, h.end, one)

and_left : (a b : Bool) → (a && b) ≡ true → a ≡ true
and_left true b e = refl
and_left false b e = absurd (cc)

binary_leaf : (e : SchemaElement) → is_binary e ≡ true → is_leaf e ≡ true
unfolding is_binary
binary_leaf e h = and_left (is_leaf e) (is_at 6 e.kind) h

slot_leaf : (e : SchemaElement) → Holds (λ s. is_leaf e ≡ true) (slot_of e)
unfolding slot_of
slot_leaf e =
    holds_if _ (is_binary e) (cond (is_required e) (Some Required) (cond (is_optional e) (Some Optional) None)) None
    (λ h. holds_if _ (is_required e) (Some Required) (cond (is_optional e) (Some Optional) None) (λ _. holds_some _ Required (binary_leaf e h))
    (λ _. holds_if _ (is_optional e) (Some Optional) None (λ _. holds_some _ Optional (binary_leaf e h)) (λ _. holds_none _)))
    (λ _. holds_none _)

-- Records whose leaves stand before the bound.
record Value (bound : ℕ) (v : Slot × List PlacedLeaf) : Type 0 where
  all : Within bound v.1

record Typed (bound : ℕ) (t : Kind × List PlacedLeaf) : Type 0 where
  all : Within bound t.1

record Node (bound : ℕ) (n : Group × List PlacedLeaf) : Type 0 where
  all : Within bound n.1

record Fields (bound : ℕ) (f : Groups × List PlacedLeaf) : Type 0 where
  all : Within bound f.1

value_is : (bound : ℕ) (l : Levels) (o : Option PlacedElement) → Holds (IsIn bound) o → Holds (Value bound) (value_in l o)
value_is bound l None h = holds_some (Value bound) (Absent, []) (record { all = tt })
value_is bound l (Some c) h =
    holds_then (λ s. is_leaf c.element ≡ true) _ _ _ (slot_leaf c.element)
    (λ s is. holds_some (Value bound) (s, placed prim.Raw l c ∷ []) (record { all = (leaf_in bound c (h.here c refl) is, tt) }))

typed_is : (bound : ℕ) (read : Levels → PlacedElement → Option (Kind × List PlacedLeaf)) → ((l : Levels) (c : PlacedElement) → IsIn bound c → Holds (Typed bound) (read l c)) → (l : Levels) (o : Option PlacedElement) → Holds (IsIn bound) o
    → Holds (Typed bound) (typed_in read l o)
typed_is bound read k l None h = holds_some (Typed bound) (free, []) (record { all = tt })
typed_is bound read k l (Some c) h =
    holds_if _ (is_optional c.element) (cond (is_leaf c.element) (Some (scalar (prim_of c.element), placed (prim_of c.element) l c ∷ [])) (read (past c.element l) c)) None
    (λ _. holds_if _ (is_leaf c.element) (Some (scalar (prim_of c.element), placed (prim_of c.element) l c ∷ [])) (read (past c.element l) c)
    (λ is. holds_some (Typed bound) (scalar (prim_of c.element), placed (prim_of c.element) l c ∷ []) (record { all = (leaf_in bound c (h.here c refl) is, tt) })) (λ _. k (past c.element l) c (h.here c refl)))
    (λ _. holds_none _)

joined_is : (bound : ℕ) (v : Slot × List PlacedLeaf) (t : Kind × List PlacedLeaf) → Value bound v → Typed bound t → Holds (Node bound) (joined v t)
joined_is bound v t h k =
    holds_if _ (is_bare v.0 t.0) None (Some (group v.0 t.0, v.1 ++ t.1)) (λ _. holds_none _) (λ _. holds_some (Node bound) (group v.0 t.0, v.1 ++ t.1) (record { all = within_append bound v.1 t.1 h.all k.all }))

parts_is : (bound : ℕ) (read : Levels → PlacedElement → Option (Kind × List PlacedLeaf)) → ((l : Levels) (c : PlacedElement) → IsIn bound c → Holds (Typed bound) (read l c)) → (l : Levels) (cs : List PlacedElement) → AllIn bound cs
    → Holds (Node bound) (parts_in read l cs)
parts_is bound read k l cs h =
    holds_then (Value bound) _ _ _ (value_is bound l (named value_name cs) (named_is bound value_name cs h)) (λ v m.
    holds_then (Typed bound) _ _ _ (typed_is bound read k l (named typed_name cs) (named_is bound typed_name cs h)) (λ t n. joined_is bound v t m n))

node_is : (bound : ℕ) (read : Levels → PlacedElement → Option (Kind × List PlacedLeaf)) → ((l : Levels) (c : PlacedElement) → IsIn bound c → Holds (Typed bound) (read l c)) → (l : Levels) (cs : List PlacedElement) → AllIn bound cs
    → Holds (Node bound) (node_in read l cs)
unfolding node_in
node_is bound read k l cs h = holds_if _ (are_members cs) (parts_in read l cs) None (λ _. parts_is bound read k l cs h) (λ _. holds_none _)

field_is : (bound : ℕ) (read : Levels → List PlacedElement → Option (Group × List PlacedLeaf)) → ((l : Levels) (cs : List PlacedElement) → AllIn bound cs → Holds (Node bound) (read l cs)) → (l : Levels) (c : PlacedElement) → IsIn bound c
    → Holds (Node bound) (field_in read l c)
unfolding field_in
field_is bound read k l c h =
    holds_if _ (is_required c.element && not (is_leaf c.element)) (read (past c.element l) (children_in c)) None (λ _. k (past c.element l) (children_in c) (inside_are bound c h)) (λ _. holds_none _)

each_is : (bound : ℕ) (read : Levels → List PlacedElement → Option (Group × List PlacedLeaf)) → ((l : Levels) (cs : List PlacedElement) → AllIn bound cs → Holds (Node bound) (read l cs)) → (l : Levels) (cs : List PlacedElement) → AllIn bound cs
    → Holds (Fields bound) (each_field read l cs)
each_is bound read k l [] h = holds_some (Fields bound) (no_groups, []) (record { all = tt })
each_is bound read k l (c ∷ cs) h =
    holds_then (Node bound) _ _ _ (field_is bound read k l c h.0) (λ n m.
    holds_then (Fields bound) _ _ _ (each_is bound read k l cs h.1) (λ f r. holds_some (Fields bound) (field (name_of c) n.0 f.0, n.1 ++ f.1) (record { all = within_append bound n.1 f.1 m.all r.all })))

fields_is : (bound : ℕ) (read : Levels → List PlacedElement → Option (Group × List PlacedLeaf)) → ((l : Levels) (cs : List PlacedElement) → AllIn bound cs → Holds (Node bound) (read l cs)) → (l : Levels) (cs : List PlacedElement) → AllIn bound cs
    → Holds (Typed bound) (fields_in read l cs)
unfolding fields_in
fields_is bound read k l [] h = holds_none _
fields_is bound read k l (c ∷ cs) h =
    holds_if _ (repeats (names_of (c ∷ cs))) None (option_map object_in (each_field read l (c ∷ cs))) (λ _. holds_none _)
    (λ _. holds_map (Fields bound) (Typed bound) (each_field read l (c ∷ cs)) object_in (each_is bound read k l (c ∷ cs) h) (λ f m. record { all = m.all }))

element_is : (bound : ℕ) (read : Levels → List PlacedElement → Option (Group × List PlacedLeaf)) → ((l : Levels) (cs : List PlacedElement) → AllIn bound cs → Holds (Node bound) (read l cs)) → (l : Levels) (cs : List PlacedElement) → AllIn bound cs
    → Holds (Node bound) (element_in read l cs)
element_is bound read k l [] h = holds_none _
element_is bound read k l (c ∷ []) h = field_is bound read k l c h.0
element_is bound read k l (c ∷ (d ∷ cs)) h = holds_none _

items_is : (bound : ℕ) (read : Levels → List PlacedElement → Option (Group × List PlacedLeaf)) → ((l : Levels) (cs : List PlacedElement) → AllIn bound cs → Holds (Node bound) (read l cs)) → (l : Levels) (cs : List PlacedElement) → AllIn bound cs
    → Holds (Typed bound) (items_in read l cs)
items_is bound read k l [] h = holds_none _
items_is bound read k l (c ∷ []) h =
    holds_if _ (is_repeated c.element && not (is_leaf c.element)) (option_map list_in (element_in read (past c.element l) (children_in c))) None
    (λ _. holds_map (Node bound) (Typed bound) (element_in read (past c.element l) (children_in c)) list_in (element_is bound read k (past c.element l) (children_in c) (inside_are bound c h.0)) (λ n m. record { all = m.all }))
    (λ _. holds_none _)
items_is bound read k l (c ∷ (d ∷ cs)) h = holds_none _

group_is : (bound room : ℕ) (l : Levels) (c : PlacedElement) → IsIn bound c → Holds (Typed bound) (group_in room l c)
unfolding group_in
group_is bound zero l c h = holds_none _
group_is bound (suc room) l c h =
    holds_if _ (is_list_note (note_of c.element)) (items_in (node_in (group_in room)) l (children_in c)) (fields_in (node_in (group_in room)) l (children_in c))
    (λ _. items_is bound (node_in (group_in room)) (node_is bound (group_in room) (group_is bound room)) l (children_in c) (inside_are bound c h))
    (λ _. fields_is bound (node_in (group_in room)) (node_is bound (group_in room) (group_is bound room)) l (children_in c) (inside_are bound c h))

-- The column.

metadata_is : (bound : ℕ) (l : Levels) (o : Option PlacedElement) → Holds (IsIn bound) o → Holds (λ m. m.place < bound) (metadata_in l o)
metadata_is bound l None h = holds_none _
metadata_is bound l (Some c) h =
    holds_if _ (is_binary c.element && is_required c.element) (Some (placed prim.Raw l c)) None
    (λ is. holds_some _ (placed prim.Raw l c) (leaf_in bound c (h.here c refl) (binary_leaf c.element (and_left (is_binary c.element) (is_required c.element) is)))) (λ _. holds_none _)

top_is : (bound : ℕ) (l : Levels) (cs : List PlacedElement) → AllIn bound cs → Holds (Node bound) (top_in l cs)
unfolding top_in
top_is bound l cs h =
    holds_if _ (are_top_members cs) (metadata_in l (named metadata_name cs) >>? λ m. option_map (with_metadata m) (parts_in (group_in max_nesting) l cs)) None
    (λ _. holds_then (λ m. m.place < bound) (Node bound) (metadata_in l (named metadata_name cs)) (λ m. option_map (with_metadata m) (parts_in (group_in max_nesting) l cs)) (metadata_is bound l (named metadata_name cs) (named_is bound metadata_name cs h)) (λ m is.
    holds_map (Node bound) (Node bound) (parts_in (group_in max_nesting) l cs) (with_metadata m) (parts_is bound (group_in max_nesting) (group_is bound max_nesting) l cs h) (λ n k. record { all = (is, k.all) })))
    (λ _. holds_none _)

column_is : (bound : ℕ) (c : PlacedElement) → IsIn bound c → Holds (Node bound) (column_in c)
unfolding column_in
column_is bound c h = holds_if _ (not (is_leaf c.element) && (is_required c.element || is_optional c.element)) (top_in (past c.element top_levels) (children_in c)) None (λ _. top_is bound (past c.element top_levels) (children_in c) (inside_are bound c h)) (λ _. holds_none _)

places_are : (bound : ℕ) (ls : List PlacedLeaf) → Within bound ls → AllByRecursion (λ p. p < bound) (map (λ (x : PlacedLeaf). x.place) ls)
places_are bound [] h = tt
places_are bound (x ∷ ls) h = (h.0, places_are bound ls h.1)

abbrev too_many : Result ColumnView Rule
too_many = Err rule.TooManyLeaves

judged_is : (bound : ℕ) (optional : Bool) (orders : List ℤ) (o : Option (Group × List PlacedLeaf)) (v : ColumnView) → Holds (Node bound) o → judged optional orders o ≡ Ok v → AllByRecursion (λ p. p < bound) v.places
judged_is bound optional orders None v h e = absurd (cc)
judged_is bound optional orders (Some n) v h e = by (nat_lt max_leaves (length n.1)) e where
  by : (b : Bool) → cond b too_many (Ok (column_view optional orders n)) ≡ Ok v → AllByRecursion (λ p. p < bound) v.places
  by true f = absurd (cc)
  by false f =
      let same : column_view optional orders n ≡ v = cc in
      let node : Node bound n = h.here n refl in
      subst (λ (w : ColumnView). AllByRecursion (λ p. p < bound) w.places) same (places_are bound n.1 node.all)

found_is : (bound : ℕ) (orders : List ℤ) (o : Option PlacedElement) (v : ColumnView) → Holds (IsIn bound) o → column_found orders o ≡ Ok v → AllByRecursion (λ p. p < bound) v.places
found_is bound orders None v h e = absurd (cc)
found_is bound orders (Some c) v h e = judged_is bound (is_optional c.element) orders (column_in c) v (column_is bound c (h.here c refl)) e

-- the leaves of trees are those of their elements
leaves_joined : (xs ys : List SchemaElement) → leaves_told (xs ++ ys) ≡ leaves_told xs + leaves_told ys
unfolding leaves_told
leaves_joined [] ys = omega arith
leaves_joined (e ∷ xs) ys = omega (arith, leaves_joined xs ys)

pub leaves_flat : (f : Forest) → leaves_told (flat f) ≡ leaf_count f
unfolding leaves_told
leaves_flat no_trees = refl
leaves_flat (tree e inside next) = omega (arith, leaves_joined (flat inside) (flat next), leaves_flat inside, leaves_flat next)

root_is : (f : Forest) → AllIn (leaf_count f) (in_root f)
root_is no_trees = tt
root_is (tree e inside next) = children_are (own_leaf e + leaf_count inside + leaf_count next) 0 inside (omega arith)

pub places_within : (es : List SchemaElement) (name : List ℕ) (orders : List ℤ) (v : ColumnView) → column_of es name orders ≡ Ok v → All (λ p. p < leaves_told es) v.places
unfolding column_of
places_within es name orders v e =
    let count : leaf_count (forest es) ≡ leaves_told es = sym (leaves_flat (forest es)) ∙ ap leaves_told (flat_forest es) in
    let all : AllByRecursion (λ p. p < leaf_count (forest es)) v.places = found_is (leaf_count (forest es)) orders (named name (in_root (forest es))) v (named_is (leaf_count (forest es)) name (in_root (forest es)) (root_is (forest es))) e in
    All-from_recursion (λ p. p < leaves_told es) v.places (subst (λ n. AllByRecursion (λ p. p < n) v.places) count all)
