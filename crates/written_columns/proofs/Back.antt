-- What is written is read back: node by node.
use Rattle.std.proofs.Common.{◌≡◌, ◌∙◌, sym, ap, ap₂, refl, cond, Bool, true, false, ◌||◌, nat_le, nat_lt, ℕ, zero, suc, ◌+◌, ◌<◌, ◌≤◌, List, [], ◌∷◌, ◌++◌, length, Option, None, Some, ℤ, pos, arith}
use Rattle.std.proofs.lemmas.Bool.Decides.{nat_tests}
use Rattle.vs_bytes.specs.Names.{repeats}
use Rattle.vs_bytes.specs.declared.leaf_columns.Leaf.{Leaf}
use Rattle.vs_bytes.specs.declared.leaf_columns.Phys.TheVariants as phys
use Rattle.vs_bytes.specs.declared.leaf_columns.PrimKind.{PrimKind}
use Rattle.vs_bytes.specs.declared.leaf_columns.PrimKind.TheVariants as prim
use Rattle.shred_schema.specs.Groups.{Group, group, Kind, free, scalar, object_of, list_of, Groups, no_groups, field, field_names, slot_width, width, kind_width, groups_width, nesting, kind_nesting, groups_nesting}
use Rattle.shred_schema.specs.Kinds.{type_written, note_written, kind_read}
use Rattle.shred_schema.specs.Lawful.{HasValue, IsWritten, AllWritten, EachIn, EachField, IsObject}
use Rattle.shred_schema.specs.Leaves.{leaf, value_leaves, leaves_of, kind_leaves, groups_leaves}
use Rattle.shred_schema.specs.declared.kinds.Note.{Note}
use Rattle.shred_schema.specs.declared.kinds.Note.TheVariants as note
use Rattle.shred_schema.specs.declared.nodes.Slot.{Slot}
use Rattle.shred_schema.specs.declared.nodes.Slot.TheVariants.{Absent, Required, Optional}
use Rattle.shred_schema.proofs.NodeFacts.{kind_reads_back, leaf_count as leaves_counted}
use Rattle.schema_elements.specs.SchemaTrees.{is_leaf, count_in}
use Rattle.schema_elements.specs.declared.elements.SchemaElement.{SchemaElement}
use Rattle.file_columns.specs.declared.places.Levels.{Levels}
use Rattle.file_columns.specs.declared.places.PlacedLeaf.{PlacedLeaf}
use Rattle.file_columns.specs.Elements.{is_at, type_in, type_of, byte_in, decimal_note, logical_note, converted_note, note_of, is_list_note, prim_of}
use Rattle.file_columns.specs.Forests.{Forest, no_trees, tree, leaf_count}
use Rattle.file_columns.specs.Columns.{PlacedElement, children, names_of, named, past, placed, is_binary, slot_of, value_in, typed_in, is_bare, parts_in, is_member, are_members, node_in, field_in, each_field, fields_in, items_in, group_in}
use Rattle.written_columns.specs.Written.{type_number, length_written, leaf_element, group_element, value_name, typed_name, list_name, element_name, member_count, field_count}
use Rattle.written_columns.proofs.Trees.{value_trees, member_trees, typed_trees, field_trees, element_trees, list_trees}

-- Leaves with places that follow one another.

abbrev pub numbered : ℕ → List Leaf → List PlacedLeaf
numbered p [] = []
numbered p (x ∷ xs) = record { leaf = x; place = p } ∷ numbered (p + 1) xs

pub numbered_append : (p : ℕ) (xs ys : List Leaf) → numbered p (xs ++ ys) ≡ numbered p xs ++ numbered (p + length xs) ys
numbered_append p [] ys = let e : p ≡ p + 0 = omega arith in ap (λ k. numbered k ys) e
numbered_append p (x ∷ xs) ys =
    let e : p + 1 + length xs ≡ p + suc (length xs) = omega arith in
    ap (λ (ls : List PlacedLeaf). record { leaf = x; place = p } ∷ ls) (numbered_append (p + 1) xs ys ∙ ap (λ k. numbered (p + 1) xs ++ numbered k ys) e)

-- Levels past an element.

past_by : (e : SchemaElement) (l : Levels) (r : ℕ) (rep def : ℕ) → e.repetition_type ≡ Some (pos r) → l.rep + cond (is_at 2 (Some (pos r))) 1 0 ≡ rep → l.def + cond (is_at 1 (Some (pos r)) || is_at 2 (Some (pos r))) 1 0 ≡ def → past e l ≡ record { rep = rep; def = def }
unfolding past
past_by e l r rep def is a b = ap (λ (o : Option ℤ). record { rep = l.rep + cond (is_at 2 o) 1 0; def = l.def + cond (is_at 1 o || is_at 2 o) 1 0 }) is ∙ λ i. record { rep = a i; def = b i }

pub past_required : (e : SchemaElement) (l : Levels) → e.repetition_type ≡ Some (pos 0) → past e l ≡ l
past_required e l is = past_by e l 0 l.rep l.def is (omega arith) (omega arith)

pub past_optional : (e : SchemaElement) (l : Levels) → e.repetition_type ≡ Some (pos 1) → past e l ≡ record { rep = l.rep; def = l.def + 1 }
past_optional e l is = past_by e l 1 l.rep (l.def + 1) is (omega arith) refl

past_repeated : (e : SchemaElement) (l : Levels) → e.repetition_type ≡ Some (pos 2) → past e l ≡ record { rep = l.rep + 1; def = l.def + 1 }
past_repeated e l is = past_by e l 2 (l.rep + 1) (l.def + 1) is refl refl

-- A leaf's type and kind.

decimal_type_back : (a b : Bool) → type_in (count_in (length_written (cond a phys.Int32 (cond b phys.Int64 (phys.Fixed 16))))) (Some (pos (type_number (cond a phys.Int32 (cond b phys.Int64 (phys.Fixed 16)))))) ≡ cond a phys.Int32 (cond b phys.Int64 (phys.Fixed 16))
decimal_type_back true b = refl
decimal_type_back false true = refl
decimal_type_back false false = refl

type_back : (q : PrimKind) (r : ℕ) (name : List ℕ) → type_of (leaf_element q r name) ≡ type_written q
unfolding leaf_element type_of
type_back prim.Raw r name = refl
type_back prim.Boolean r name = refl
type_back prim.Int8 r name = refl
type_back prim.Int16 r name = refl
type_back prim.Int32 r name = refl
type_back prim.Int64 r name = refl
type_back (prim.Decimal p s) r name = decimal_type_back (nat_le p 9) (nat_le p 18)
type_back prim.Text r name = refl
type_back (prim.Refused why) r name = refl

byte_back : (n : ℕ) → n < 256 → byte_in (Some (pos n)) ≡ Some n
byte_back n h = let e : nat_lt n 256 ≡ true = grind (arith, nat_tests) in rw e refl

decimal_back : (p s : ℕ) → p < 256 → s < 256 → decimal_note (byte_in (Some (pos p))) (byte_in (Some (pos s))) ≡ note.Decimal p s
decimal_back p s h k = rw (byte_back p h, byte_back s k) refl

note_back : (q : PrimKind) (r : ℕ) (name : List ℕ) → IsWritten q → note_of (leaf_element q r name) ≡ note_written q
unfolding leaf_element note_of logical_note converted_note
note_back prim.Raw r name h = refl
note_back prim.Boolean r name h = refl
note_back prim.Int8 r name h = refl
note_back prim.Int16 r name h = refl
note_back prim.Int32 r name h = refl
note_back prim.Int64 r name h = refl
note_back (prim.Decimal p s) r name h = decimal_back p s (omega (arith, h.most)) (omega (arith, h.most, h.places))
note_back prim.Text r name h = refl
note_back (prim.Refused why) r name h = absurd h

prim_back : (q : PrimKind) (r : ℕ) (name : List ℕ) → IsWritten q → prim_of (leaf_element q r name) ≡ q
unfolding prim_of
prim_back q r name h = ap₂ kind_read (type_back q r name) (note_back q r name h) ∙ kind_reads_back q h

leaf_repetition : (q : PrimKind) (r : ℕ) (name : List ℕ) → (leaf_element q r name).repetition_type ≡ Some (pos r)
unfolding leaf_element
leaf_repetition q r name = refl

group_repetition : (r : ℕ) (name : List ℕ) (count : ℕ) (n : Note) → (group_element r name count n).repetition_type ≡ Some (pos r)
unfolding group_element
group_repetition r name count n = refl

pub placed_required : (q : PrimKind) (l : Levels) (p : ℕ) (name : List ℕ) → placed q l (record { place = p; element = leaf_element q 0 name; inside = no_trees }) ≡ record { leaf = leaf q l.rep l.def; place = p }
placed_required q l p name =
    let at = past_required (leaf_element q 0 name) l (leaf_repetition q 0 name) in
    λ i. record { leaf = record { rep = (at i).rep; def = (at i).def; phys = type_back q 0 name i; prim = q }; place = p }

placed_optional : (q : PrimKind) (l : Levels) (p : ℕ) (name : List ℕ) → placed q l (record { place = p; element = leaf_element q 1 name; inside = no_trees }) ≡ record { leaf = leaf q l.rep (l.def + 1); place = p }
placed_optional q l p name =
    let at = past_optional (leaf_element q 1 name) l (leaf_repetition q 1 name) in
    λ i. record { leaf = record { rep = (at i).rep; def = (at i).def; phys = type_back q 1 name i; prim = q }; place = p }

-- The members of a node.

-- the typed value
abbrev pub kid : ℕ → Kind → Option PlacedElement
kid p free = None
kid p (scalar q) = Some (record { place = p; element = leaf_element q 1 typed_name; inside = no_trees })
kid p (object_of gs) = Some (record { place = p; element = group_element 1 typed_name (field_count gs) note.None; inside = field_trees gs })
kid p (list_of n) = Some (record { place = p; element = group_element 1 typed_name 1 note.List; inside = tree (group_element 2 list_name 1 note.None) (tree (group_element 0 element_name (member_count n) note.None) (member_trees n) no_trees) no_trees })

no_value : (p : ℕ) (t : Kind) → named value_name (children p (typed_trees t)) ≡ None
unfolding leaf_element group_element
no_value p free = refl
no_value p (scalar q) = refl
no_value p (object_of gs) = refl
no_value p (list_of n) = refl

typed_kid : (p : ℕ) (t : Kind) → named typed_name (children p (typed_trees t)) ≡ kid p t
unfolding leaf_element group_element
typed_kid p free = refl
typed_kid p (scalar q) = refl
typed_kid p (object_of gs) = refl
typed_kid p (list_of n) = refl

behind_value : (p : ℕ) (s : Slot) (f : Forest) → named typed_name (children p (value_trees s f)) ≡ named typed_name (children (p + slot_width s) f)
unfolding leaf_element
behind_value p Absent f = let e : p ≡ p + 0 = omega arith in ap (λ k. named typed_name (children k f)) e
behind_value p Required f = refl
behind_value p Optional f = refl

required_slot : (name : List ℕ) → slot_of (leaf_element prim.Raw 0 name) ≡ Some Required
unfolding leaf_element slot_of is_binary
required_slot name = refl

optional_slot : (name : List ℕ) → slot_of (leaf_element prim.Raw 1 name) ≡ Some Optional
unfolding leaf_element slot_of is_binary
optional_slot name = refl

required_kid : (p : ℕ) (t : Kind) → named value_name (children p (member_trees (group Required t))) ≡ Some (record { place = p; element = leaf_element prim.Raw 0 value_name; inside = no_trees })
unfolding leaf_element
required_kid p t = refl

optional_kid : (p : ℕ) (t : Kind) → named value_name (children p (member_trees (group Optional t))) ≡ Some (record { place = p; element = leaf_element prim.Raw 1 value_name; inside = no_trees })
unfolding leaf_element
optional_kid p t = refl

value_back : (p : ℕ) (l : Levels) (s : Slot) (t : Kind) → value_in l (named value_name (children p (member_trees (group s t)))) ≡ Some (s, numbered p (value_leaves s l.rep l.def))
value_back p l Absent t = ap (value_in l) (no_value p t)
value_back p l Required t = ap (value_in l) (required_kid p t) ∙ rw (required_slot value_name) (λ i. Some (Required, placed_required prim.Raw l p value_name i ∷ []))
value_back p l Optional t = ap (value_in l) (optional_kid p t) ∙ rw (optional_slot value_name) (λ i. Some (Optional, placed_optional prim.Raw l p value_name i ∷ []))

members_are : (p : ℕ) (s : Slot) (t : Kind) → are_members (children p (member_trees (group s t))) ≡ true
unfolding leaf_element group_element is_member
members_are p Absent free = refl
members_are p Absent (scalar q) = refl
members_are p Absent (object_of gs) = refl
members_are p Absent (list_of n) = refl
members_are p Required free = refl
members_are p Required (scalar q) = refl
members_are p Required (object_of gs) = refl
members_are p Required (list_of n) = refl
members_are p Optional free = refl
members_are p Optional (scalar q) = refl
members_are p Optional (object_of gs) = refl
members_are p Optional (list_of n) = refl

not_bare : (s : Slot) (t : Kind) → HasValue s t → is_bare s t ≡ false
not_bare Absent t h = absurd h
not_bare Required t h = refl
not_bare Optional t h = refl

slot_leaves : (s : Slot) (r d : ℕ) → length (value_leaves s r d) ≡ slot_width s
slot_leaves Absent r d = refl
slot_leaves Required r d = refl
slot_leaves Optional r d = refl

parts_from : (room p : ℕ) (l : Levels) (s : Slot) (t : Kind) → HasValue s t → typed_in (group_in room) l (kid (p + slot_width s) t) ≡ Some (t, numbered (p + slot_width s) (kind_leaves t l.rep l.def))
    → parts_in (group_in room) l (children p (member_trees (group s t))) ≡ Some (group s t, numbered p (leaves_of (group s t) l.rep l.def))
parts_from room p l s t h typed =
    let there : named typed_name (children p (member_trees (group s t))) ≡ kid (p + slot_width s) t = behind_value p s (typed_trees t) ∙ typed_kid (p + slot_width s) t in
    let read : typed_in (group_in room) l (named typed_name (children p (member_trees (group s t)))) ≡ Some (t, numbered (p + slot_width s) (kind_leaves t l.rep l.def)) = ap (typed_in (group_in room) l) there ∙ typed in
    rw (value_back p l s t, read, not_bare s t h)
    (λ i. Some (group s t, (ap (λ k. numbered p (value_leaves s l.rep l.def) ++ numbered (p + k) (kind_leaves t l.rep l.def)) (sym (slot_leaves s l.rep l.def)) ∙ sym (numbered_append p (value_leaves s l.rep l.def) (kind_leaves t l.rep l.def))) i))

node_from : (room p : ℕ) (l : Levels) (n : Group) (ls : List PlacedLeaf) → parts_in (group_in room) l (children p (member_trees n)) ≡ Some (n, ls) → node_in (group_in room) l (children p (member_trees n)) ≡ Some (n, ls)
unfolding node_in
node_from room p l (group s t) ls h = rw (members_are p s t) h

group_leaf : (r : ℕ) (name : List ℕ) (count : ℕ) (n : Note) → is_leaf (group_element r name count n) ≡ false
unfolding group_element
group_leaf r name count n = refl

group_at : (r k : ℕ) (name : List ℕ) (count : ℕ) (n : Note) → is_at k (group_element r name count n).repetition_type ≡ is_at k (Some (pos r))
unfolding group_element
group_at r k name count n = refl

field_from : (room p : ℕ) (l : Levels) (name : List ℕ) (n : Group) (ls : List PlacedLeaf) → parts_in (group_in room) l (children p (member_trees n)) ≡ Some (n, ls)
    → field_in (node_in (group_in room)) l (record { place = p; element = group_element 0 name (member_count n) note.None; inside = member_trees n }) ≡ Some (n, ls)
unfolding field_in
field_from room p l name n ls h =
    rw (group_at 0 0 name (member_count n) note.None, group_leaf 0 name (member_count n) note.None, past_required (group_element 0 name (member_count n) note.None) l (group_repetition 0 name (member_count n) note.None))
    (node_from room p l n ls h)

-- Leaves of what is written.

value_counted : (s : Slot) (f : Forest) → leaf_count (value_trees s f) ≡ slot_width s + leaf_count f
unfolding leaf_element
value_counted Absent f = omega arith
value_counted Required f = omega arith
value_counted Optional f = omega arith

one_leaf : (q : PrimKind) → leaf_count (tree (leaf_element q 1 typed_name) no_trees no_trees) ≡ 1
unfolding leaf_element
one_leaf q = refl

group_counted : (r : ℕ) (name : List ℕ) (count : ℕ) (n : Note) (f : Forest) → leaf_count (tree (group_element r name count n) f no_trees) ≡ leaf_count f
unfolding group_element
group_counted r name count n f = omega arith

field_counted : (name : List ℕ) (count : ℕ) (f g : Forest) → leaf_count (tree (group_element 0 name count note.None) f g) ≡ leaf_count f + leaf_count g
unfolding group_element
field_counted name count f g = omega arith

mutual
  pub members_leaves : (n : Group) → leaf_count (member_trees n) ≡ width n
  members_leaves (group s t) = value_counted s (typed_trees t) ∙ ap (λ k. slot_width s + k) (typed_leaves t)

  typed_leaves : (t : Kind) → leaf_count (typed_trees t) ≡ kind_width t
  typed_leaves free = refl
  typed_leaves (scalar q) = one_leaf q
  typed_leaves (object_of gs) = group_counted 1 typed_name (field_count gs) note.None (field_trees gs) ∙ fields_leaves gs
  typed_leaves (list_of n) = group_counted 1 typed_name 1 note.List (list_trees n) ∙ group_counted 2 list_name 1 note.None (element_trees n) ∙ group_counted 0 element_name (member_count n) note.None (member_trees n) ∙ members_leaves n

  fields_leaves : (gs : Groups) → leaf_count (field_trees gs) ≡ groups_width gs
  fields_leaves no_groups = refl
  fields_leaves (field name n gs) = field_counted name (member_count n) (member_trees n) (field_trees gs) ∙ ap₂ (λ a b. a + b) (members_leaves n) (fields_leaves gs)

-- Nodes, by what is inside them.

-- an object's typed value is read where its fields are
object_from : (room p : ℕ) (l : Levels) (gs : Groups) (ls : List PlacedLeaf) → IsObject gs → names_of (children p (field_trees gs)) ≡ field_names gs → each_field (node_in (group_in room)) l (children p (field_trees gs)) ≡ Some (gs, ls)
    → fields_in (node_in (group_in room)) l (children p (field_trees gs)) ≡ Some (object_of gs, ls)
unfolding fields_in
object_from room p l no_groups ls h names e = absurd h.some
object_from room p l (field name n gs) ls h names e =
    let once : repeats (names_of (children p (field_trees (field name n gs)))) ≡ false = ap repeats names ∙ h.differ in
    rw (once, e) refl

group_not_list : (r : ℕ) (name : List ℕ) (count : ℕ) → is_list_note (note_of (group_element r name count note.None)) ≡ false
unfolding group_element note_of
group_not_list r name count = refl

group_is_list : (r : ℕ) (name : List ℕ) (count : ℕ) → is_list_note (note_of (group_element r name count note.List)) ≡ true
unfolding group_element note_of logical_note
group_is_list r name count = refl

-- a typed value that is a group
typed_group : (room p : ℕ) (l : Levels) (count : ℕ) (n : Note) (f : Forest) → typed_in (group_in room) l (Some (record { place = p; element = group_element 1 typed_name count n; inside = f }))
    ≡ group_in room (record { rep = l.rep; def = l.def + 1 }) (record { place = p; element = group_element 1 typed_name count n; inside = f })
typed_group room p l count n f =
    rw (group_at 1 1 typed_name count n, group_leaf 1 typed_name count n, past_optional (group_element 1 typed_name count n) l (group_repetition 1 typed_name count n)) refl

object_back : (room p : ℕ) (l : Levels) (count : ℕ) (gs : Groups) (ls : List PlacedLeaf) → fields_in (node_in (group_in room)) (record { rep = l.rep; def = l.def + 1 }) (children p (field_trees gs)) ≡ Some (object_of gs, ls)
    → typed_in (group_in (suc room)) l (Some (record { place = p; element = group_element 1 typed_name count note.None; inside = field_trees gs })) ≡ Some (object_of gs, ls)
unfolding group_in
object_back room p l count gs ls e = typed_group (suc room) p l count note.None (field_trees gs) ∙ rw (group_not_list 1 typed_name count) e

items_from : (room p : ℕ) (l : Levels) (n : Group) (ls : List PlacedLeaf) → field_in (node_in (group_in room)) (record { rep = l.rep + 1; def = l.def + 1 }) (record { place = p; element = group_element 0 element_name (member_count n) note.None; inside = member_trees n }) ≡ Some (n, ls)
    → items_in (node_in (group_in room)) l (children p (list_trees n)) ≡ Some (list_of n, ls)
items_from room p l n ls e =
    rw (group_at 2 2 list_name 1 note.None, group_leaf 2 list_name 1 note.None, past_repeated (group_element 2 list_name 1 note.None) l (group_repetition 2 list_name 1 note.None), e) refl

list_back : (room p : ℕ) (l : Levels) (n : Group) (ls : List PlacedLeaf) → items_in (node_in (group_in room)) (record { rep = l.rep; def = l.def + 1 }) (children p (list_trees n)) ≡ Some (list_of n, ls)
    → typed_in (group_in (suc room)) l (Some (record { place = p; element = group_element 1 typed_name 1 note.List; inside = list_trees n })) ≡ Some (list_of n, ls)
unfolding group_in
list_back room p l n ls e = typed_group (suc room) p l 1 note.List (list_trees n) ∙ rw (group_is_list 1 typed_name 1) e

scalar_back : (room p : ℕ) (l : Levels) (q : PrimKind) → IsWritten q → typed_in (group_in room) l (kid p (scalar q)) ≡ Some (scalar q, numbered p (kind_leaves (scalar q) l.rep l.def))
unfolding leaf_element
scalar_back room p l q h =
    ap (λ (k : PrimKind). Some (scalar k, placed k l (record { place = p; element = leaf_element q 1 typed_name; inside = no_trees }) ∷ [])) (prim_back q 1 typed_name h)
    ∙ λ i. Some (scalar q, placed_optional q l p typed_name i ∷ [])

field_names_are : (gs : Groups) (p : ℕ) → names_of (children p (field_trees gs)) ≡ field_names gs
unfolding group_element
field_names_are no_groups p = refl
field_names_are (field name n gs) p = ap (λ (names : List (List ℕ)). name ∷ names) (field_names_are gs _)

fields_from : (room p next : ℕ) (l : Levels) (name : List ℕ) (n : Group) (gs : Groups) → field_in (node_in (group_in room)) l (record { place = p; element = group_element 0 name (member_count n) note.None; inside = member_trees n }) ≡ Some (n, numbered p (leaves_of n l.rep l.def))
    → next ≡ p + width n → each_field (node_in (group_in room)) l (children next (field_trees gs)) ≡ Some (gs, numbered next (groups_leaves gs l.rep l.def))
    → each_field (node_in (group_in room)) l (children p (field_trees (field name n gs))) ≡ Some (field name n gs, numbered p (groups_leaves (field name n gs) l.rep l.def))
unfolding group_element
fields_from room p next l name n gs one is more =
    let there : p + (0 + leaf_count (member_trees n)) ≡ next = omega (arith, members_leaves n, is) in
    let rest : each_field (node_in (group_in room)) l (children (p + (0 + leaf_count (member_trees n))) (field_trees gs)) ≡ Some (gs, numbered next (groups_leaves gs l.rep l.def)) = ap (λ k. each_field (node_in (group_in room)) l (children k (field_trees gs))) there ∙ more in
    let long : next ≡ p + length (leaves_of n l.rep l.def) = omega (arith, is, leaves_counted n l.rep l.def) in
    rw (one, rest) (λ i. Some (field name n gs, (ap (λ k. numbered p (leaves_of n l.rep l.def) ++ numbered k (groups_leaves gs l.rep l.def)) long ∙ sym (numbered_append p (leaves_of n l.rep l.def) (groups_leaves gs l.rep l.def))) i))

mutual
  -- a node that is written is read back
  pub node_back : (n : Group) (room p : ℕ) (l : Levels) → AllWritten n → nesting n ≤ room → parts_in (group_in room) l (children p (member_trees n)) ≡ Some (n, numbered p (leaves_of n l.rep l.def))
  node_back (group s t) room p l h deep = parts_from room p l s t h.0 (typed_back t room (p + slot_width s) l h.1 deep)

  typed_back : (t : Kind) (room p : ℕ) (l : Levels) → EachIn HasValue IsWritten t → kind_nesting t ≤ room → typed_in (group_in room) l (kid p t) ≡ Some (t, numbered p (kind_leaves t l.rep l.def))
  typed_back free room p l h deep = refl
  typed_back (scalar q) room p l h deep = scalar_back room p l q h
  typed_back (object_of gs) zero p l h deep = absurd (omega arith)
  typed_back (object_of gs) (suc room) p l h deep =
      object_back room p l (field_count gs) gs (numbered p (groups_leaves gs l.rep (l.def + 1)))
      (object_from room p (record { rep = l.rep; def = l.def + 1 }) gs (numbered p (groups_leaves gs l.rep (l.def + 1))) h.0 (field_names_are gs p) (fields_back gs room p (record { rep = l.rep; def = l.def + 1 }) h.1 (omega arith)))
  typed_back (list_of n) zero p l h deep = absurd (omega arith)
  typed_back (list_of n) (suc room) p l h deep =
      let two : l.def + 1 + 1 ≡ l.def + 2 = omega arith in
      list_back room p l n (numbered p (leaves_of n (l.rep + 1) (l.def + 2)))
      (items_from room p (record { rep = l.rep; def = l.def + 1 }) n (numbered p (leaves_of n (l.rep + 1) (l.def + 2)))
      (field_from room p (record { rep = l.rep + 1; def = l.def + 1 + 1 }) element_name n _ (node_back n room p (record { rep = l.rep + 1; def = l.def + 1 + 1 }) h (omega arith))
      ∙ ap (λ d. Some (n, numbered p (leaves_of n (l.rep + 1) d))) two))

  fields_back : (gs : Groups) (room p : ℕ) (l : Levels) → EachField HasValue IsWritten gs → groups_nesting gs ≤ room → each_field (node_in (group_in room)) l (children p (field_trees gs)) ≡ Some (gs, numbered p (groups_leaves gs l.rep l.def))
  fields_back no_groups room p l h deep = refl
  fields_back (field name n gs) room p l h deep =
      fields_from room p (p + width n) l name n gs (field_from room p l name n (numbered p (leaves_of n l.rep l.def)) (node_back n room p l h.0 (omega arith))) refl (fields_back gs room (p + width n) l h.1 (omega arith))
