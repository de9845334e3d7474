-- A schema that is written is one that a footer may have.
use Rattle.std.proofs.Common.{◌≡◌, ◌∙◌, sym, ap, refl, cond, Bool, true, false, ◌&&◌, ◌||◌, not, nat_le, ℕ, zero, suc, ◌+◌, ◌*◌, ◌<◌, ◌≤◌, ◌^◌, List, [], ◌∷◌, ◌++◌, length, length-append, Some, None, pos, arith}
use Rattle.std.specs.Prelude.{All}
use Rattle.std.specs.List.{AllByRecursion, list_all}
use Rattle.std.proofs.lemmas.Int.{ints}
use Rattle.std.proofs.lemmas.List.Elements.{All-from_recursion}
use Rattle.vs_bytes.specs.declared.leaf_columns.Phys.TheVariants as phys
use Rattle.vs_bytes.specs.declared.leaf_columns.PrimKind.{PrimKind}
use Rattle.vs_bytes.specs.declared.leaf_columns.PrimKind.TheVariants as prim
use Rattle.thrift_compact.specs.PageWriting.{IsI32}
use Rattle.thrift_structs.specs.Listed.{ListFits}
use Rattle.shred_schema.specs.Groups.{Group, group, Kind, free, scalar, object_of, list_of, Groups, no_groups, field, slot_width, width, kind_width, groups_width, nesting, kind_nesting, groups_nesting}
use Rattle.shred_schema.specs.Lawful.{HasField, HasValue, HasEither, MayHold, IsWritten, AllWritten, AreNodes, EachIn, EachField, IsWellFormed, max_nesting}
use Rattle.shred_schema.specs.declared.kinds.Note.TheVariants as note
use Rattle.shred_schema.specs.declared.nodes.Slot.{Slot}
use Rattle.shred_schema.specs.declared.nodes.Slot.TheVariants.{Absent, Required, Optional}
use Rattle.shred_schema.proofs.NodeFacts.{nodes_width}
use Rattle.schema_elements.specs.SchemaTrees.{are_trees, leaf_count as leaves_told, is_fixed, is_length, has_length}
use Rattle.schema_elements.specs.ElementWriting.{IsLogical, ElementFits}
use Rattle.schema_elements.specs.declared.elements.SchemaElement.{SchemaElement}
use Rattle.file_columns.specs.Forests.{leaf_count}
use Rattle.file_columns.proofs.ForestFacts.{one_is_told}
use Rattle.file_columns.proofs.PlacesWithin.{leaves_flat}
use Rattle.written_columns.specs.Written.{type_number, length_written, truth, leaf_element, group_element, root_element, column_element, value_name, typed_name, list_name, element_name, metadata_name, member_count, field_count, value_elements, member_elements, typed_elements, field_elements, schema_elements}
use Rattle.written_columns.proofs.Trees.{schema_trees, schema_flat, schema_tells}
use Rattle.written_columns.proofs.Back.{members_leaves}

pub one_tree : (optional : Bool) (name : List ℕ) (n : Group) → IsWellFormed n → are_trees 1 (schema_elements optional name n) ≡ true
one_tree optional name n h = ap (are_trees 1) (sym (schema_flat optional name n)) ∙ one_is_told (schema_trees optional name n) (schema_tells optional name n h.nodes (omega (arith, h.few))) refl

counted : (optional : Bool) (name : List ℕ) (n : Group) → leaf_count (schema_trees optional name n) ≡ 1 + width n
unfolding root_element column_element leaf_element
counted optional name n = omega (arith, members_leaves n)

pub leaves_are : (optional : Bool) (name : List ℕ) (n : Group) → leaves_told (schema_elements optional name n) ≡ 1 + width n
leaves_are optional name n = ap leaves_told (sym (schema_flat optional name n)) ∙ leaves_flat (schema_trees optional name n) ∙ counted optional name n

-- What holds of each element.

pub record Serves (P : SchemaElement → Type 0) : Type 0 where
  pub raw : (r : ℕ) (name : List ℕ) → P (leaf_element prim.Raw r name)
  pub leaf : (q : PrimKind) (r : ℕ) (name : List ℕ) → IsWritten q → P (leaf_element q r name)
  pub group : (r : ℕ) (name : List ℕ) (count : ℕ) → P (group_element r name count note.None)
  pub list : (r : ℕ) (name : List ℕ) (count : ℕ) → P (group_element r name count note.List)
  pub root : P root_element
  pub column : (optional : Bool) (name : List ℕ) (count : ℕ) → P (column_element optional name count)

served_append : (P : SchemaElement → Type 0) (xs ys : List SchemaElement) → AllByRecursion P xs → AllByRecursion P ys → AllByRecursion P (xs ++ ys)
served_append P [] ys h k = k
served_append P (x ∷ xs) ys h k = (h.0, served_append P xs ys h.1 k)

value_served : (P : SchemaElement → Type 0) → Serves P → (s : Slot) → AllByRecursion P (value_elements s)
value_served P f Absent = tt
value_served P f Required = (f.raw 0 value_name, tt)
value_served P f Optional = (f.raw 1 value_name, tt)

mutual
  members_served : (n : Group) (P : SchemaElement → Type 0) → Serves P → AllWritten n → AllByRecursion P (member_elements n)
  members_served (group s t) P f h = served_append P (value_elements s) (typed_elements t) (value_served P f s) (typed_served t P f h.1)

  typed_served : (t : Kind) (P : SchemaElement → Type 0) → Serves P → EachIn HasValue IsWritten t → AllByRecursion P (typed_elements t)
  typed_served free P f h = tt
  typed_served (scalar q) P f h = (f.leaf q 1 typed_name h, tt)
  typed_served (object_of gs) P f h = (f.group 1 typed_name (field_count gs), fields_served gs P f h.1)
  typed_served (list_of n) P f h = (f.list 1 typed_name 1, (f.group 2 list_name 1, (f.group 0 element_name (member_count n), members_served n P f h)))

  fields_served : (gs : Groups) (P : SchemaElement → Type 0) → Serves P → EachField HasValue IsWritten gs → AllByRecursion P (field_elements gs)
  fields_served no_groups P f h = tt
  fields_served (field name n gs) P f h =
      served_append P (group_element 0 name (member_count n) note.None ∷ member_elements n) (field_elements gs) (f.group 0 name (member_count n), members_served n P f h.0) (fields_served gs P f h.1)

served : (P : SchemaElement → Type 0) → Serves P → (optional : Bool) (name : List ℕ) (n : Group) → AllWritten n → AllByRecursion P (schema_elements optional name n)
served P f optional name n h = (f.root, (f.column optional name (member_count n + 1), (f.raw 0 metadata_name, members_served n P f h)))

-- Lengths of FIXED_LEN_BYTE_ARRAY.

decimal_length : (a b : Bool) → (not (true && is_fixed (Some (pos (type_number (cond a phys.Int32 (cond b phys.Int64 (phys.Fixed 16))))))) || is_length (length_written (cond a phys.Int32 (cond b phys.Int64 (phys.Fixed 16))))) ≡ true
decimal_length true b = refl
decimal_length false true = refl
decimal_length false false = refl

leaf_length : (q : PrimKind) (r : ℕ) (name : List ℕ) → has_length (leaf_element q r name) ≡ true
unfolding leaf_element has_length
leaf_length prim.Raw r name = refl
leaf_length prim.Boolean r name = refl
leaf_length prim.Int8 r name = refl
leaf_length prim.Int16 r name = refl
leaf_length prim.Int32 r name = refl
leaf_length prim.Int64 r name = refl
leaf_length (prim.Decimal p s) r name = decimal_length (nat_le p 9) (nat_le p 18)
leaf_length prim.Text r name = refl
leaf_length (prim.Refused why) r name = refl

group_length : (r : ℕ) (name : List ℕ) (count : ℕ) (n : _) → has_length (group_element r name count n) ≡ true
unfolding group_element has_length
group_length r name count n = refl

root_length : has_length root_element ≡ true
unfolding root_element has_length
root_length = refl

column_length : (optional : Bool) (name : List ℕ) (count : ℕ) → has_length (column_element optional name count) ≡ true
unfolding column_element has_length
column_length optional name count = refl

each_passes : (p : SchemaElement → Bool) (xs : List SchemaElement) → AllByRecursion (λ e. p e ≡ true) xs → list_all p xs ≡ true
each_passes p [] h = refl
each_passes p (x ∷ xs) h = rw (h.0) (each_passes p xs h.1)

pub have_lengths : (optional : Bool) (name : List ℕ) (n : Group) → AllWritten n → list_all has_length (schema_elements optional name n) ≡ true
have_lengths optional name n h =
    each_passes has_length (schema_elements optional name n) (served (λ e. has_length e ≡ true) (record {
      raw = λ r name. leaf_length prim.Raw r name;
      leaf = λ q r name w. leaf_length q r name;
      group = λ r name count. group_length r name count note.None;
      list = λ r name count. group_length r name count note.List;
      root = root_length;
      column = column_length;
    }) optional name n h)

-- Logical types that can be written.

text_fits : IsLogical (record { member = pos 1; first = None; second = None })
text_fits = record { known = refl; decimal = λ e. absurd (cc); time = λ e. absurd (cc); integer = λ e. absurd (cc); variant = λ e. absurd (cc); plain = λ e. (tt, tt) }

list_fits : IsLogical (record { member = pos 3; first = None; second = None })
list_fits = record { known = refl; decimal = λ e. absurd (cc); time = λ e. absurd (cc); integer = λ e. absurd (cc); variant = λ e. absurd (cc); plain = λ e. (tt, tt) }

variant_fits : IsLogical (record { member = pos 16; first = Some (pos 1); second = None })
variant_fits = record { known = refl; decimal = λ e. absurd (cc); time = λ e. absurd (cc); integer = λ e. absurd (cc); variant = λ e. ((omega (arith, ints), omega (arith, ints)), tt); plain = λ e. absurd (cc) }

integer_fits : (bits : ℕ) → bits ≤ 127 → IsLogical (record { member = pos 10; first = Some (pos bits); second = Some (truth true) })
integer_fits bits h = record { known = refl; decimal = λ e. absurd (cc); time = λ e. absurd (cc); integer = λ e. ((omega (arith, ints), omega (arith, ints)), (omega (arith, ints), omega (arith, ints))); variant = λ e. absurd (cc); plain = λ e. absurd (cc) }

small_i32 : (n : ℕ) → n ≤ 38 → IsI32 (pos n)
small_i32 n h = omega arith

decimal_fits : (p s : ℕ) → p ≤ 38 → s ≤ 38 → IsLogical (record { member = pos 5; first = Some (pos s); second = Some (pos p) })
decimal_fits p s h k = record { known = refl; decimal = λ e. (small_i32 s k, small_i32 p h); time = λ e. absurd (cc); integer = λ e. absurd (cc); variant = λ e. absurd (cc); plain = λ e. absurd (cc) }

leaf_fits : (q : PrimKind) (r : ℕ) (name : List ℕ) → IsWritten q → ElementFits (leaf_element q r name)
unfolding leaf_element
leaf_fits prim.Raw r name h = absurd h
leaf_fits prim.Boolean r name h = tt
leaf_fits prim.Int8 r name h = integer_fits 8 (omega arith)
leaf_fits prim.Int16 r name h = integer_fits 16 (omega arith)
leaf_fits prim.Int32 r name h = tt
leaf_fits prim.Int64 r name h = tt
leaf_fits (prim.Decimal p s) r name h = decimal_fits p s h.most (omega (arith, h.most, h.places))
leaf_fits prim.Text r name h = text_fits
leaf_fits (prim.Refused why) r name h = absurd h

raw_fits : (r : ℕ) (name : List ℕ) → ElementFits (leaf_element prim.Raw r name)
unfolding leaf_element
raw_fits r name = tt

group_fits : (r : ℕ) (name : List ℕ) (count : ℕ) → ElementFits (group_element r name count note.None)
unfolding group_element
group_fits r name count = tt

list_group_fits : (r : ℕ) (name : List ℕ) (count : ℕ) → ElementFits (group_element r name count note.List)
unfolding group_element
list_group_fits r name count = list_fits

root_fits : ElementFits root_element
unfolding root_element
root_fits = tt

column_fits : (optional : Bool) (name : List ℕ) (count : ℕ) → ElementFits (column_element optional name count)
unfolding column_element
column_fits optional name count = variant_fits

pub each_fits : (optional : Bool) (name : List ℕ) (n : Group) → AllWritten n → All ElementFits (schema_elements optional name n)
each_fits optional name n h =
    All-from_recursion ElementFits (schema_elements optional name n) (served ElementFits (record { raw = raw_fits; leaf = leaf_fits; group = group_fits; list = list_group_fits; root = root_fits; column = column_fits }) optional name n h)

-- How many elements there are: of each leaf at most four a level.

value_long : (s : Slot) → length (value_elements s) ≡ slot_width s
value_long Absent = refl
value_long Required = refl
value_long Optional = refl

fields_some : (gs : Groups) → HasField gs → EachField HasEither MayHold gs → 1 ≤ groups_width gs
fields_some no_groups some h = absurd some
fields_some (field name n gs) some h = omega (arith, nodes_width n h.0)

-- an object, and a list, with the bound of what is inside
object_long : (room w len : ℕ) → 1 ≤ w → len ≤ 4 * (room * w) + 2 * w → suc len ≤ 4 * (suc room * w) + w
object_long room w len h k = let e : suc room * w ≡ room * w + w = omega arith in omega arith

mutual
  members_long : (n : Group) (room : ℕ) → AreNodes n → nesting n ≤ room → length (member_elements n) ≤ 4 * (room * width n) + width n
  members_long (group s t) room h deep =
      let more : room * (slot_width s + kind_width t) ≡ room * slot_width s + room * kind_width t = omega arith in
      omega (arith, length-append (value_elements s) (typed_elements t), value_long s, typed_long t room h.1 deep)

  typed_long : (t : Kind) (room : ℕ) → EachIn HasEither MayHold t → kind_nesting t ≤ room → length (typed_elements t) ≤ 4 * (room * kind_width t) + kind_width t
  typed_long free room h deep = omega arith
  typed_long (scalar q) room h deep = omega arith
  typed_long (object_of gs) zero h deep = absurd (omega arith)
  typed_long (object_of gs) (suc room) h deep = object_long room (groups_width gs) (length (field_elements gs)) (fields_some gs h.0.some h.1) (fields_long gs room h.1 (omega arith))
  typed_long (list_of n) zero h deep = absurd (omega arith)
  typed_long (list_of n) (suc room) h deep =
      let e : suc room * width n ≡ room * width n + width n = omega arith in
      omega (arith, members_long n room h (omega arith), nodes_width n h)

  fields_long : (gs : Groups) (room : ℕ) → EachField HasEither MayHold gs → groups_nesting gs ≤ room → length (field_elements gs) ≤ 4 * (room * groups_width gs) + 2 * groups_width gs
  fields_long no_groups room h deep = omega arith
  fields_long (field name n gs) room h deep =
      let more : room * (width n + groups_width gs) ≡ room * width n + room * groups_width gs = omega arith in
      omega (arith, length-append (group_element 0 name (member_count n) note.None ∷ member_elements n) (field_elements gs), members_long n room h.0 (omega arith), fields_long gs room h.1 (omega arith), nodes_width n h.0)

schema_long : (optional : Bool) (name : List ℕ) (n : Group) → IsWellFormed n → length (schema_elements optional name n) < 2 ^ 32
schema_long optional name n h = omega (arith, members_long n max_nesting h.nodes h.deep, h.few)

pub schema_fits : (optional : Bool) (name : List ℕ) (n : Group) → AllWritten n → IsWellFormed n → ListFits ElementFits (schema_elements optional name n)
schema_fits optional name n h k = record { size = schema_long optional name n k; each = each_fits optional name n h }
