-- The record of a value fits the leaves of its node.
use Rattle.std.proofs.Common.{◌≡◌, refl, subst, ℕ, ◌*◌, ◌≤◌, Bool, true, false, cond, List, length, Option, Some, None, arith}
use Rattle.std.specs.Str.{bytes_eq}
use Rattle.json_tree.specs.Json.{Json, Parts, no_parts, part, Fields, no_fields}
use Rattle.json_tree.specs.Json as json
use Rattle.json_tree.specs.Order.{member_of}
use Rattle.json_tree.specs.Text.{text_of, more_parts, more_fields}
use Rattle.json_tree.specs.Valid.{IsValid, AreValid, HoldValid}
use Rattle.vs_bytes.specs.declared.leaf_columns.Cell.{Cell}
use Rattle.vs_bytes.specs.declared.leaf_columns.PrimKind.{PrimKind}
use Rattle.variant_write.specs.Conditions.{IsWidths, max_text_len}
use Rattle.variant_write.specs.declared.widths.Widths.{Widths}
use Rattle.variant_write.proofs.ChosenMembers.{chosen_short}
use Rattle.variant_write.proofs.Limits.{elements_within, fields_within, first_within, others_within}
use Rattle.variant_write.proofs.SizeLaw.{coded_most, field_text}
use Rattle.shred_schema.specs.Fits.{fit}
use Rattle.shred_schema.specs.Groups.{Group, group, Kind, free, scalar, object_of, list_of, Groups, no_groups, field}
use Rattle.shred_schema.specs.Lawful.{HasValue, IsWritten, AllWritten, EachIn, EachField}
use Rattle.shred_schema.specs.Recs.{rec, empty, EachRec}
use Rattle.shred_schema.specs.declared.nodes.Slot.{Slot}
use Rattle.shredder.specs.Shredded.{by_names, unnamed, others, cell_or_left, field_record, members_left, items_shredded, shredded, kind_shredded, fields_shredded}
use Rattle.striping_laws.specs.Fitting.{ValueFits, FitsLeaves, PartFitsLeaves, FieldsFitLeaves}
use Rattle.striping_laws.proofs.CellsFit.{cell_fits}

-- a value that is valid, and whose text isn't too long
abbrev IsShortValue : Json → Type 0
IsShortValue j = IsValid j × (length (text_of j) ≤ max_text_len)

-- the value of a member is valid and no longer than its object
member_short : (name : List ℕ) (members : Fields) (j : Json) → HoldValid members → length (more_fields members) ≤ max_text_len → member_of name members ≡ Some j → IsShortValue j
member_short name no_fields j h short e = absurd cc
member_short name (json.field other k members) j h short e = by (bytes_eq other name) e (member_short name members j h.2 (omega (arith, short, field_text other k members)))
  where
    by : (b : Bool) → cond b (Some k) (member_of name members) ≡ Some j → (member_of name members ≡ Some j → IsShortValue j) → IsShortValue j
    by true e f = let same : k ≡ j = cc in subst IsShortValue same (h.1, omega (arith, short, field_text other k members))
    by false e f = f e

none_fits : (t : Kind) → PartFitsLeaves t empty
none_fits free = tt
none_fits (scalar q) = tt
none_fits (object_of gs) = tt
none_fits (list_of n) = tt

module _ (code : Json → List ℕ) (most : (j : Json) → length (code j) ≤ 6 * length (text_of j)) where
  left_fits : (j : Json) → length (text_of j) ≤ max_text_len → ValueFits (Some (code j))
  left_fits j short = omega (arith, short, most j)

  whole_fits : (s : Slot) (t : Kind) (j : Json) → length (text_of j) ≤ max_text_len → FitsLeaves (group s t) (rec (Some (code j)) empty)
  whole_fits s t j short = (left_fits j short, none_fits t)

  members_fit : (members : Fields) → length (text_of (json.object members)) ≤ max_text_len → ValueFits (members_left code members)
  members_fit no_fields short = tt
  members_fit (json.field name j members) short = left_fits (json.object (json.field name j members)) short

  cell_or_left_fits : (s : Slot) (q : PrimKind) → IsWritten q → (j : Json) → IsShortValue j → (o : Option Cell) → fit q j ≡ o → FitsLeaves (group s (scalar q)) (cell_or_left code j o)
  cell_or_left_fits s q written j h None e = whole_fits s (scalar q) j h.1
  cell_or_left_fits s q written j h (Some c) e = (tt, cell_fits q j c written h.0 h.1 e)

  items_fit : (n : Group) → ((j : Json) → IsShortValue j → FitsLeaves n (shredded code n j)) → (js : Parts) → AreValid js → length (more_parts js) ≤ max_text_len → EachRec (FitsLeaves n) (items_shredded (shredded code n) js)
  items_fit n f no_parts valid short = tt
  items_fit n f (part j js) valid short = (f j (valid.0, first_within j js max_text_len short), items_fit n f js valid.1 (others_within j js max_text_len short))

  missing_fits : (n : Group) → FitsLeaves n (rec None empty)
  missing_fits (group s t) = (tt, none_fits t)

  field_fits : (n : Group) → ((j : Json) → IsShortValue j → FitsLeaves n (shredded code n j)) → (o : Option Json) → ((j : Json) → o ≡ Some j → IsShortValue j) → FitsLeaves n (field_record (shredded code n) o)
  field_fits n f None h = missing_fits n
  field_fits n f (Some j) h = f j (h j refl)

  mutual
    pub record_fits : (n : Group) → AllWritten n → (j : Json) → IsShortValue j → FitsLeaves n (shredded code n j)
    record_fits (group s t) h j v = kind_fits s t h.1 j v

    kind_fits : (s : Slot) (t : Kind) → EachIn HasValue IsWritten t → (j : Json) → IsShortValue j → FitsLeaves (group s t) (kind_shredded code t j)
    kind_fits s free h j v = whole_fits s free j v.1
    kind_fits s (scalar q) h j v = cell_or_left_fits s q h j v (fit q j) refl
    kind_fits s (list_of n) h (json.array js) v = (tt, items_fit n (record_fits n h) js v.0 (elements_within js max_text_len v.1))
    kind_fits s (list_of n) h json.null v = whole_fits s (list_of n) json.null v.1
    kind_fits s (list_of n) h (json.boolean b) v = whole_fits s (list_of n) (json.boolean b) v.1
    kind_fits s (list_of n) h (json.number d) v = whole_fits s (list_of n) (json.number d) v.1
    kind_fits s (list_of n) h (json.text x) v = whole_fits s (list_of n) (json.text x) v.1
    kind_fits s (list_of n) h (json.object fs) v = whole_fits s (list_of n) (json.object fs) v.1
    kind_fits s (object_of gs) h (json.object fs) v = (members_fit (others gs fs) (omega (arith, v.1, chosen_short (unnamed gs fs) fs)), fields_fit gs h.1 fs v.0.1 (fields_within fs max_text_len v.1))
    kind_fits s (object_of gs) h json.null v = whole_fits s (object_of gs) json.null v.1
    kind_fits s (object_of gs) h (json.boolean b) v = whole_fits s (object_of gs) (json.boolean b) v.1
    kind_fits s (object_of gs) h (json.number d) v = whole_fits s (object_of gs) (json.number d) v.1
    kind_fits s (object_of gs) h (json.text x) v = whole_fits s (object_of gs) (json.text x) v.1
    kind_fits s (object_of gs) h (json.array js) v = whole_fits s (object_of gs) (json.array js) v.1

    fields_fit : (gs : Groups) → EachField HasValue IsWritten gs → (fs : Fields) → HoldValid fs → length (more_fields fs) ≤ max_text_len → FieldsFitLeaves gs (fields_shredded code gs fs)
    fields_fit no_groups h fs valid short = tt
    fields_fit (field name n gs) h fs valid short = (field_fits n (record_fits n h.0) (member_of name fs) (λ j e. member_short name fs j valid short e), fields_fit gs h.1 fs valid short)

pub shredded_fits : (names : List (List ℕ)) (widths : Widths) (n : Group) (j : Json) → AllWritten n → IsWidths widths → IsValid j → length (text_of j) ≤ max_text_len → FitsLeaves n (shredded (by_names names widths) n j)
shredded_fits names widths n j h wide valid short = record_fits (by_names names widths) (λ x. coded_most names x widths wide) n h j (valid, short)
