-- What is read is a well-formed column, with a leaf for each leaf of its node.
use Rattle.std.proofs.Common.{◌≡◌, ◌∙◌, sym, ap, subst, refl, cond, Bool, true, false, ◌&&◌, ◌||◌, not, nat_le, nat_eq, nat_lt, ℕ, zero, suc, ◌+◌, ◌≤◌, List, [], ◌∷◌, ◌++◌, length, length-append, Option, None, Some, Result, Ok, Err, ℤ, arith}
use Rattle.std.specs.Option.{option_map}
use Rattle.std.proofs.lemmas.Bool.Decides.{nat_tests}
use Rattle.std.proofs.lemmas.List.{length-map}
use Rattle.thrift_compact.specs.Slots.{◌>>?◌}
use Rattle.byte_parsing.proofs.Holds.{Holds, holds_none, holds_some, holds_then, holds_map, holds_if}
use Rattle.vs_bytes.specs.Names.{repeats}
use Rattle.vs_bytes.specs.declared.leaf_columns.Phys.{Phys}
use Rattle.vs_bytes.specs.declared.leaf_columns.Phys.TheVariants as phys
use Rattle.vs_bytes.specs.declared.leaf_columns.PrimKind.{PrimKind}
use Rattle.vs_bytes.specs.declared.leaf_columns.PrimKind.TheVariants as prim
use Rattle.vs_bytes.specs.declared.rule.Rule.{Rule}
use Rattle.vs_bytes.specs.declared.rule.Rule.TheVariants as rule
use Rattle.exact_num.specs.Decimal.{max_digits}
use Rattle.shred_schema.specs.Groups.{Group, group, Kind, free, scalar, object_of, list_of, Groups, no_groups, field, field_names, slot_width, width, kind_width, groups_width, nesting, kind_nesting, groups_nesting}
use Rattle.shred_schema.specs.Kinds.{unread, plain_kind, text_kind, signed_kind, holds_decimals, kind_read}
use Rattle.shred_schema.specs.Lawful.{HasEither, MayHold, HasField, EachIn, EachField, AreNodes, IsWellFormed, max_nesting, max_leaves}
use Rattle.shred_schema.specs.declared.kinds.Note.{Note}
use Rattle.shred_schema.specs.declared.kinds.Note.TheVariants as note
use Rattle.shred_schema.specs.declared.nodes.Slot.{Slot}
use Rattle.shred_schema.specs.declared.nodes.Slot.TheVariants.{Absent, Required, Optional}
use Rattle.schema_elements.specs.declared.elements.SchemaElement.{SchemaElement}
use Rattle.file_columns.specs.declared.places.Levels.{Levels}
use Rattle.file_columns.specs.declared.places.PlacedLeaf.{PlacedLeaf}
use Rattle.schema_elements.specs.SchemaTrees.{is_leaf}
use Rattle.file_columns.specs.Elements.{is_required, is_repeated, is_optional, is_list_note, note_of, type_of, prim_of}
use Rattle.file_columns.specs.Columns.{PlacedElement, children_in, name_of, names_of, named, past, placed, is_binary, slot_of, value_in, typed_in, is_bare, joined, parts_in, are_members, node_in, field_in, each_field, object_in, fields_in, list_in, element_in, items_in, group_in, metadata_in, with_metadata, top_in, column_in, ColumnView, column_view, judged, column_found, in_root, column_of, value_name, typed_name, metadata_name, top_levels, are_top_members}
use Rattle.file_columns.specs.Forests.{forest}

-- The kinds that are read.

may_unread : (type : Phys) → MayHold (unread type)
may_unread phys.Boolean = tt
may_unread phys.Int32 = tt
may_unread phys.Int64 = tt
may_unread phys.Float = tt
may_unread phys.Double = tt
may_unread phys.ByteArray = tt
may_unread (phys.Fixed size) = tt
may_unread phys.Other = tt

may_plain : (type : Phys) → MayHold (plain_kind type)
may_plain phys.Boolean = tt
may_plain phys.Int32 = tt
may_plain phys.Int64 = tt
may_plain phys.Float = tt
may_plain phys.Double = tt
may_plain phys.ByteArray = tt
may_plain (phys.Fixed size) = tt
may_plain phys.Other = tt

may_text : (type : Phys) → MayHold (text_kind type)
may_text phys.Boolean = tt
may_text phys.Int32 = tt
may_text phys.Int64 = tt
may_text phys.Float = tt
may_text phys.Double = tt
may_text phys.ByteArray = tt
may_text (phys.Fixed size) = tt
may_text phys.Other = tt

may_if : (b : Bool) (p q : PrimKind) → MayHold p → MayHold q → MayHold (cond b p q)
may_if true p q h k = h
may_if false p q h k = k

may_signed : (type : Phys) (bits : ℕ) → MayHold (signed_kind type bits)
may_signed phys.Boolean bits = tt
may_signed phys.Int32 bits = may_if (nat_eq bits 8) _ _ tt (may_if (nat_eq bits 16) _ _ tt (may_if (nat_eq bits 32) _ _ tt tt))
may_signed phys.Int64 bits = may_if (nat_eq bits 64) _ _ tt tt
may_signed phys.Float bits = tt
may_signed phys.Double bits = tt
may_signed phys.ByteArray bits = tt
may_signed (phys.Fixed size) bits = tt
may_signed phys.Other bits = tt

may_decimal : (held : Bool) (type : Phys) (p s : ℕ) → MayHold (cond (held && (nat_le p max_digits && nat_le s p)) (prim.Decimal p s) (unread type))
may_decimal held type p s = by held (nat_le p max_digits) (nat_le s p) refl refl where
  by : (held few places : Bool) → nat_le p max_digits ≡ few → nat_le s p ≡ places → MayHold (cond (held && (few && places)) (prim.Decimal p s) (unread type))
  by true true true e f = (grind (arith, nat_tests), grind (arith, nat_tests))
  by true true false e f = may_unread type
  by true false places e f = may_unread type
  by false few places e f = may_unread type

may_hold : (type : Phys) (n : Note) → MayHold (kind_read type n)
may_hold type note.None = may_plain type
may_hold type note.Text = may_text type
may_hold type note.List = may_unread type
may_hold type (note.Decimal p s) = may_decimal (holds_decimals type) type p s
may_hold type (note.Integer bits signed) = may_if signed _ _ (may_signed type bits) (may_unread type)
may_hold type note.Date = may_unread type
may_hold type (note.Time utc unit) = may_unread type
may_hold type (note.Stamp utc unit) = may_unread type
may_hold type note.Uuid = may_unread type
may_hold type note.Float16 = tt
may_hold type note.Other = may_unread type

prim_may : (e : SchemaElement) → MayHold (prim_of e)
unfolding prim_of
prim_may e = may_hold (type_of e) (note_of e)

-- What is read of nodes and their parts.

-- a value has a leaf
pub record IsValue (v : Slot × List PlacedLeaf) : Type 0 where
  pub many : length v.1 ≡ slot_width v.0

pub record IsKind (room : ℕ) (p : Kind × List PlacedLeaf) : Type 0 where
  pub parts : EachIn HasEither MayHold p.0
  pub deep : kind_nesting p.0 ≤ room
  pub many : length p.1 ≡ kind_width p.0

pub record IsNode (room : ℕ) (n : Group × List PlacedLeaf) : Type 0 where
  pub nodes : AreNodes n.0
  pub deep : nesting n.0 ≤ room
  pub many : length n.1 ≡ width n.0

pub record AreFields (room : ℕ) (given : List (List ℕ)) (f : Groups × List PlacedLeaf) : Type 0 where
  pub nodes : EachField HasEither MayHold f.0
  pub deep : groups_nesting f.0 ≤ room
  pub many : length f.1 ≡ groups_width f.0
  pub names : field_names f.0 ≡ given

slot_is : (e : SchemaElement) → Holds (λ s. slot_width s ≡ 1) (slot_of e)
unfolding slot_of
slot_is e =
    holds_if _ (is_binary e) (cond (is_required e) (Some Required) (cond (is_optional e) (Some Optional) None)) None
    (λ _. holds_if _ (is_required e) (Some Required) (cond (is_optional e) (Some Optional) None) (λ _. holds_some _ Required refl)
    (λ _. holds_if _ (is_optional e) (Some Optional) None (λ _. holds_some _ Optional refl) (λ _. holds_none _)))
    (λ _. holds_none _)

value_is : (l : Levels) (o : Option PlacedElement) → Holds IsValue (value_in l o)
value_is l None = holds_some IsValue (Absent, []) (record { many = refl })
value_is l (Some c) = holds_then (λ s. slot_width s ≡ 1) _ _ _ (slot_is c.element) (λ s one. holds_some IsValue (s, placed prim.Raw l c ∷ []) (record { many = sym one }))

typed_is : (room : ℕ) (read : Levels → PlacedElement → Option (Kind × List PlacedLeaf)) → ((l : Levels) (c : PlacedElement) → Holds (IsKind room) (read l c)) → (l : Levels) (o : Option PlacedElement) → Holds (IsKind room) (typed_in read l o)
typed_is room read h l None = holds_some (IsKind room) (free, []) (record { parts = tt; deep = omega arith; many = refl })
typed_is room read h l (Some c) =
    holds_if _ (is_optional c.element) (cond (is_leaf c.element) (Some (scalar (prim_of c.element), placed (prim_of c.element) l c ∷ [])) (read (past c.element l) c)) None
    (λ _. holds_if _ (is_leaf c.element) (Some (scalar (prim_of c.element), placed (prim_of c.element) l c ∷ [])) (read (past c.element l) c) (λ _. holds_some (IsKind room) (scalar (prim_of c.element), placed (prim_of c.element) l c ∷ []) (record { parts = prim_may c.element; deep = omega arith; many = refl })) (λ _. h (past c.element l) c)) (λ _. holds_none _)

either : (s : Slot) (t : Kind) → is_bare s t ≡ false → HasEither s t
either Absent free e = absurd (cc)
either Absent (scalar q) e = tt
either Absent (object_of gs) e = tt
either Absent (list_of n) e = tt
either Required t e = tt
either Optional t e = tt

joined_is : (room : ℕ) (v : Slot × List PlacedLeaf) (t : Kind × List PlacedLeaf) → IsValue v → IsKind room t → Holds (IsNode room) (joined v t)
joined_is room v t h k =
    holds_if _ (is_bare v.0 t.0) _ _ (λ _. holds_none _)
    (λ e. holds_some (IsNode room) (group v.0 t.0, v.1 ++ t.1) (record { nodes = (either v.0 t.0 e, k.parts); deep = k.deep; many = omega (arith, length-append v.1 t.1, h.many, k.many) }))

parts_is : (room : ℕ) (read : Levels → PlacedElement → Option (Kind × List PlacedLeaf)) → ((l : Levels) (c : PlacedElement) → Holds (IsKind room) (read l c)) → (l : Levels) (cs : List PlacedElement) → Holds (IsNode room) (parts_in read l cs)
parts_is room read h l cs =
    holds_then IsValue _ _ _ (value_is l (named value_name cs)) (λ v k. holds_then (IsKind room) _ _ _ (typed_is room read h l (named typed_name cs)) (λ t m. joined_is room v t k m))

node_is : (room : ℕ) (read : Levels → PlacedElement → Option (Kind × List PlacedLeaf)) → ((l : Levels) (c : PlacedElement) → Holds (IsKind room) (read l c)) → (l : Levels) (cs : List PlacedElement) → Holds (IsNode room) (node_in read l cs)
unfolding node_in
node_is room read h l cs = holds_if _ (are_members cs) (parts_in read l cs) None (λ _. parts_is room read h l cs) (λ _. holds_none _)

field_is : (room : ℕ) (read : Levels → List PlacedElement → Option (Group × List PlacedLeaf)) → ((l : Levels) (cs : List PlacedElement) → Holds (IsNode room) (read l cs)) → (l : Levels) (c : PlacedElement) → Holds (IsNode room) (field_in read l c)
unfolding field_in
field_is room read h l c = holds_if _ (is_required c.element && not (is_leaf c.element)) (read (past c.element l) (children_in c)) None (λ _. h (past c.element l) (children_in c)) (λ _. holds_none _)

each_is : (room : ℕ) (read : Levels → List PlacedElement → Option (Group × List PlacedLeaf)) → ((l : Levels) (cs : List PlacedElement) → Holds (IsNode room) (read l cs)) → (l : Levels) (cs : List PlacedElement) → Holds (AreFields room (names_of cs)) (each_field read l cs)
each_is room read h l [] = holds_some (AreFields room []) (no_groups, []) (record { nodes = tt; deep = omega arith; many = refl; names = refl })
each_is room read h l (c ∷ cs) =
    holds_then (IsNode room) _ _ _ (field_is room read h l c) (λ n k.
    holds_then (AreFields room (names_of cs)) _ _ _ (each_is room read h l cs) (λ f m.
    holds_some (AreFields room (names_of (c ∷ cs))) (field (name_of c) n.0 f.0, n.1 ++ f.1) (record { nodes = (k.nodes, m.nodes); deep = omega (arith, k.deep, m.deep); many = omega (arith, length-append n.1 f.1, k.many, m.many); names = ap (λ ns. name_of c ∷ ns) m.names })))

has_field : (gs : Groups) (name : List ℕ) (names : List (List ℕ)) → field_names gs ≡ name ∷ names → HasField gs
has_field no_groups name names e = absurd (cc)
has_field (field other n gs) name names e = tt

fields_is : (room : ℕ) (read : Levels → List PlacedElement → Option (Group × List PlacedLeaf)) → ((l : Levels) (cs : List PlacedElement) → Holds (IsNode room) (read l cs)) → (l : Levels) (cs : List PlacedElement) → Holds (IsKind (suc room)) (fields_in read l cs)
unfolding fields_in
fields_is room read h l [] = holds_none _
fields_is room read h l (c ∷ cs) =
    holds_if _ (repeats (names_of (c ∷ cs))) None (option_map object_in (each_field read l (c ∷ cs))) (λ _. holds_none _)
    (λ once. holds_map (AreFields room (names_of (c ∷ cs))) (IsKind (suc room)) (each_field read l (c ∷ cs)) object_in (each_is room read h l (c ∷ cs)) (λ f m. record {
      parts = (record { some = has_field f.0 (name_of c) (names_of cs) m.names; differ = ap repeats m.names ∙ once }, m.nodes);
      deep = omega (arith, m.deep);
      many = m.many;
    }))

element_is : (room : ℕ) (read : Levels → List PlacedElement → Option (Group × List PlacedLeaf)) → ((l : Levels) (cs : List PlacedElement) → Holds (IsNode room) (read l cs)) → (l : Levels) (cs : List PlacedElement) → Holds (IsNode room) (element_in read l cs)
element_is room read h l [] = holds_none _
element_is room read h l (c ∷ []) = field_is room read h l c
element_is room read h l (c ∷ (d ∷ cs)) = holds_none _

items_is : (room : ℕ) (read : Levels → List PlacedElement → Option (Group × List PlacedLeaf)) → ((l : Levels) (cs : List PlacedElement) → Holds (IsNode room) (read l cs)) → (l : Levels) (cs : List PlacedElement) → Holds (IsKind (suc room)) (items_in read l cs)
items_is room read h l [] = holds_none _
items_is room read h l (c ∷ []) =
    holds_if _ (is_repeated c.element && not (is_leaf c.element)) (option_map list_in (element_in read (past c.element l) (children_in c))) None
    (λ _. holds_map (IsNode room) (IsKind (suc room)) (element_in read (past c.element l) (children_in c)) list_in (element_is room read h (past c.element l) (children_in c)) (λ n m. record { parts = m.nodes; deep = omega (arith, m.deep); many = m.many }))
    (λ _. holds_none _)
items_is room read h l (c ∷ (d ∷ cs)) = holds_none _

group_is : (room : ℕ) (l : Levels) (c : PlacedElement) → Holds (IsKind room) (group_in room l c)
unfolding group_in
group_is zero l c = holds_none _
group_is (suc room) l c =
    holds_if _ (is_list_note (note_of c.element)) (items_in (node_in (group_in room)) l (children_in c)) (fields_in (node_in (group_in room)) l (children_in c)) (λ _. items_is room (node_in (group_in room)) (node_is room (group_in room) (group_is room)) l (children_in c))
    (λ _. fields_is room (node_in (group_in room)) (node_is room (group_in room) (group_is room)) l (children_in c))

-- The column.

pub record IsTop (n : Group × List PlacedLeaf) : Type 0 where
  pub nodes : AreNodes n.0
  pub deep : nesting n.0 ≤ max_nesting
  pub many : length n.1 ≡ 1 + width n.0

any_is : {A : Type 0} (o : Option A) → Holds (λ _. Unit {0}) o
any_is o = record { here = λ a e. tt }

top_is : (l : Levels) (cs : List PlacedElement) → Holds IsTop (top_in l cs)
unfolding top_in
top_is l cs =
    holds_if _ (are_top_members cs) (metadata_in l (named metadata_name cs) >>? λ m. option_map (with_metadata m) (parts_in (group_in max_nesting) l cs)) None
    (λ _. holds_then (λ _. Unit {0}) IsTop (metadata_in l (named metadata_name cs)) (λ m. option_map (with_metadata m) (parts_in (group_in max_nesting) l cs)) (any_is (metadata_in l (named metadata_name cs))) (λ m _.
    holds_map (IsNode max_nesting) IsTop (parts_in (group_in max_nesting) l cs) (with_metadata m) (parts_is max_nesting (group_in max_nesting) (group_is max_nesting) l cs) (λ n h. record { nodes = h.nodes; deep = h.deep; many = omega (arith, h.many) })))
    (λ _. holds_none _)

column_is : (c : PlacedElement) → Holds IsTop (column_in c)
unfolding column_in
column_is c = holds_if _ (not (is_leaf c.element) && (is_required c.element || is_optional c.element)) (top_in (past c.element top_levels) (children_in c)) None (λ _. top_is (past c.element top_levels) (children_in c)) (λ _. holds_none _)

-- a column that is given
pub record IsGiven (v : ColumnView) : Type 0 where
  pub formed : IsWellFormed v.node
  pub leaves : length v.leaves ≡ 1 + width v.node
  pub places : length v.places ≡ 1 + width v.node
  pub ordered : length v.ordered ≡ 1 + width v.node

abbrev too_many : Result ColumnView Rule
too_many = Err rule.TooManyLeaves

judged_is : (optional : Bool) (orders : List ℤ) (o : Option (Group × List PlacedLeaf)) (v : ColumnView) → Holds IsTop o → judged optional orders o ≡ Ok v → IsGiven v
judged_is optional orders None v h e = absurd (cc)
judged_is optional orders (Some n) v h e = by (nat_lt max_leaves (length n.1)) refl e where
  by : (b : Bool) → nat_lt max_leaves (length n.1) ≡ b → cond b too_many (Ok (column_view optional orders n)) ≡ Ok v → IsGiven v
  by true many f = absurd (cc)
  by false many f =
      let same : column_view optional orders n ≡ v = cc in
      let top : IsTop n = h.here n refl in
      let few : length n.1 ≤ max_leaves = grind (arith, nat_tests) in
      subst IsGiven same (record {
        formed = record { nodes = top.nodes; deep = top.deep; few = omega (arith, top.many, few) };
        leaves = length-map n.1 _ ∙ top.many;
        places = length-map n.1 _ ∙ top.many;
        ordered = length-map n.1 _ ∙ top.many;
      })

found_is : (orders : List ℤ) (o : Option PlacedElement) (v : ColumnView) → column_found orders o ≡ Ok v → IsGiven v
found_is orders None v e = absurd (cc)
found_is orders (Some c) v e = judged_is (is_optional c.element) orders (column_in c) v (column_is c) e

pub column_given : (es : List SchemaElement) (name : List ℕ) (orders : List ℤ) (v : ColumnView) → column_of es name orders ≡ Ok v → IsGiven v
unfolding column_of
column_given es name orders v e = found_is orders (named name (in_root (forest es))) v e
