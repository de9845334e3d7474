-- The record of a value stands in the node for which it was shredded.
use Rattle.std.proofs.Common.{◌≡◌, refl, sym, subst, ℕ, Bool, true, false, cond, List, Option, Some, None}
use Rattle.std.specs.Str.{bytes_eq}
use Rattle.json_tree.specs.Json.{Json, Parts, no_parts, part, Fields, no_fields}
use Rattle.json_tree.specs.Json as json
use Rattle.json_tree.specs.Order.{member_of}
use Rattle.json_tree.specs.Valid.{IsValid, AreValid, HoldValid}
use Rattle.vs_bytes.specs.declared.leaf_columns.Cell.{Cell}
use Rattle.vs_bytes.specs.declared.leaf_columns.PrimKind.{PrimKind}
use Rattle.shred_schema.specs.Fits.{fit}
use Rattle.shred_schema.specs.Groups.{Group, group, Kind, free, scalar, object_of, list_of, Groups, no_groups, field}
use Rattle.shred_schema.specs.Lawful.{HasValue, IsWritten, AllWritten, EachNode, EachIn, EachField}
use Rattle.shred_schema.specs.Recs.{rec, empty, EachRec}
use Rattle.shred_schema.specs.Shapes.{MayStand, Stands, StandsIn, FieldsStandIn, IsOf, HasShape}
use Rattle.shred_schema.specs.declared.nodes.Slot.{Slot}
use Rattle.shred_schema.specs.declared.nodes.Slot.TheVariants.{Absent, Required, Optional}
use Rattle.shred_schema.proofs.FitFacts.{fit_is_cell}
use Rattle.shredder.specs.Shredded.{cell_or_left, field_record, items_shredded, shredded, kind_shredded, fields_shredded}
use Rattle.shredding_laws.specs.Slots.{IsOptional, AllOptional}

member_valid : (name : List ℕ) (members : Fields) (j : Json) → HoldValid members → member_of name members ≡ Some j → IsValid j
member_valid name no_fields j h e = absurd cc
member_valid name (json.field other k members) j h e = by (bytes_eq other name) e (member_valid name members j h.2)
  where
    by : (b : Bool) → cond b (Some k) (member_of name members) ≡ Some j → (member_of name members ≡ Some j → IsValid j) → IsValid j
    by true e f = let same : k ≡ j = cc in subst IsValid same h.1
    by false e f = f e

module _ (code : Json → List ℕ) (V : Slot → Option (List ℕ) → Type 0) (N : Slot → Kind → Type 0) (may : (s : Slot) (t : Kind) (v : Option (List ℕ)) → N s t → V s v) where
  cell_stands : (s : Slot) (q : PrimKind) → N s (scalar q) → IsWritten q → (j : Json) → IsValid j → (o : Option Cell) → fit q j ≡ o → StandsIn V (group s (scalar q)) (cell_or_left code j o)
  cell_stands s q h written j valid None e = (may s (scalar q) (Some (code j)) h, tt)
  cell_stands s q h written j valid (Some c) e = (may s (scalar q) None h, fit_is_cell q j c written valid e)

  items_stand : (n : Group) → ((j : Json) → IsValid j → StandsIn V n (shredded code n j)) → (js : Parts) → AreValid js → EachRec (StandsIn V n) (items_shredded (shredded code n) js)
  items_stand n f no_parts valid = tt
  items_stand n f (part j js) valid = (f j valid.0, items_stand n f js valid.1)

  missing_stands : (n : Group) → EachNode N IsWritten n → StandsIn V n (rec None empty)
  missing_stands (group s t) h = (may s t None h.0, tt)

  field_stands : (n : Group) → EachNode N IsWritten n → ((j : Json) → IsValid j → StandsIn V n (shredded code n j)) → (o : Option Json) → ((j : Json) → o ≡ Some j → IsValid j) → StandsIn V n (field_record (shredded code n) o)
  field_stands n h f None valid = missing_stands n h
  field_stands n h f (Some j) valid = f j (valid j refl)

  mutual
    stands : (n : Group) → EachNode N IsWritten n → (j : Json) → IsValid j → StandsIn V n (shredded code n j)
    stands (group s t) h j valid = kind_stands s t h.0 h.1 j valid

    kind_stands : (s : Slot) (t : Kind) → N s t → EachIn N IsWritten t → (j : Json) → IsValid j → StandsIn V (group s t) (kind_shredded code t j)
    kind_stands s free h in_h j valid = (may s free (Some (code j)) h, tt)
    kind_stands s (scalar q) h in_h j valid = cell_stands s q h in_h j valid (fit q j) refl
    kind_stands s (list_of n) h in_h (json.array js) valid = (may s (list_of n) None h, items_stand n (stands n in_h) js valid)
    kind_stands s (list_of n) h in_h json.null valid = (may s (list_of n) (Some (code json.null)) h, tt)
    kind_stands s (list_of n) h in_h (json.boolean b) valid = (may s (list_of n) (Some (code (json.boolean b))) h, tt)
    kind_stands s (list_of n) h in_h (json.number d) valid = (may s (list_of n) (Some (code (json.number d))) h, tt)
    kind_stands s (list_of n) h in_h (json.text x) valid = (may s (list_of n) (Some (code (json.text x))) h, tt)
    kind_stands s (list_of n) h in_h (json.object fs) valid = (may s (list_of n) (Some (code (json.object fs))) h, tt)
    kind_stands s (object_of gs) h in_h (json.object fs) valid = (may s (object_of gs) _ h, fields_stand gs in_h.1 fs valid.1)
    kind_stands s (object_of gs) h in_h json.null valid = (may s (object_of gs) (Some (code json.null)) h, tt)
    kind_stands s (object_of gs) h in_h (json.boolean b) valid = (may s (object_of gs) (Some (code (json.boolean b))) h, tt)
    kind_stands s (object_of gs) h in_h (json.number d) valid = (may s (object_of gs) (Some (code (json.number d))) h, tt)
    kind_stands s (object_of gs) h in_h (json.text x) valid = (may s (object_of gs) (Some (code (json.text x))) h, tt)
    kind_stands s (object_of gs) h in_h (json.array js) valid = (may s (object_of gs) (Some (code (json.array js))) h, tt)

    fields_stand : (gs : Groups) → EachField N IsWritten gs → (fs : Fields) → HoldValid fs → FieldsStandIn V gs (fields_shredded code gs fs)
    fields_stand no_groups h fs valid = tt
    fields_stand (field name n gs) h fs valid = (field_stands n h.0 (stands n h.0) (member_of name fs) (λ j e. member_valid name fs j valid e), fields_stand gs h.1 fs valid)

may_stand : (s : Slot) (t : Kind) (v : Option (List ℕ)) → HasValue s t → MayStand s v
may_stand Absent t v h = absurd h
may_stand Required t v h = tt
may_stand Optional t v h = tt

may_miss : (s : Slot) (t : Kind) (v : Option (List ℕ)) → IsOptional s t → Stands s v
may_miss s t v h = subst (λ (other : Slot). Stands other v) (sym h) tt

pub have_shape : (code : Json → List ℕ) (n : Group) (j : Json) → AllWritten n → IsValid j → HasShape n (shredded code n j)
have_shape code n j h valid = stands code MayStand HasValue may_stand n h j valid

pub optional_are : (code : Json → List ℕ) (n : Group) (j : Json) → AllOptional n → IsValid j → IsOf n (shredded code n j)
optional_are code n j h valid = stands code Stands IsOptional may_miss n h j valid
