-- What is shredded is seen again.
use Rattle.std.proofs.Common.{◌≡◌, refl, sym, ap, subst, ℕ, zero, suc, ◌+◌, ◌≤◌, Bool, true, false, cond, List, [], ◌++◌, Option, Some, None, Result, Ok, arith}
use Rattle.std.specs.List.{AllByRecursion}
use Rattle.std.specs.Str.{bytes_eq}
use Rattle.std.proofs.lemmas.List.{append-nil}
use Rattle.json_tree.specs.Json.{Json, Parts, no_parts, part, Fields, no_fields, items_of, values_of}
use Rattle.json_tree.specs.Json as json
use Rattle.json_tree.specs.Order.{member_of, sorted}
use Rattle.vs_bytes.specs.declared.rule.Rule.{Rule}
use Rattle.vs_bytes.specs.declared.leaf_columns.Cell.{Cell}
use Rattle.vs_bytes.specs.declared.leaf_columns.PrimKind.{PrimKind}
use Rattle.variant_read.specs.Meaning.{means, json_in}
use Rattle.variant_write.specs.Conditions.{IsWidths}
use Rattle.variant_write.specs.Coded.{coded}
use Rattle.variant_write.specs.declared.widths.Widths.{Widths}
use Rattle.variant_laws.specs.Writable.{IsWritable}
use Rattle.variant_laws.proofs.ReadBack.{read_back}
use Rattle.variant_laws.proofs.WritableParts.{elements_writable, values_writable, chosen_writable}
use Rattle.shred_schema.specs.Fits.{fit}
use Rattle.shred_schema.specs.Groups.{Group, group, Kind, free, scalar, object_of, list_of, Groups, no_groups, field, slot_width, kind_width, width}
use Rattle.shred_schema.specs.Lawful.{HasValue, IsWritten, AllWritten, EachIn, EachField, HasLeaves, KindHasLeaves, GroupsHaveLeaves}
use Rattle.shred_schema.specs.Ranges.{is_any_read, every}
use Rattle.shred_schema.specs.Recs.{Rec, rec, RecPart, empty, items}
use Rattle.shred_schema.specs.declared.nodes.Slot.{Slot}
use Rattle.shred_schema.specs.declared.nodes.Slot.TheVariants.{Absent, Required, Optional}
use Rattle.shred_schema.proofs.FitFacts.{fits_back}
use Rattle.shredder.specs.Shredded.{by_names, whole_left, cell_or_left, field_record, members_left, unnamed, others, items_shredded, shredded, kind_shredded, fields_shredded}
use Rattle.unshredder.specs.Merging.{pairs_of, is_in_both, left_over, with_fields}
use Rattle.unshredder.specs.Seen.{value_seen, is_tested, items_seen, seen, typed_seen, fields_seen}
use Rattle.unshredder.proofs.Members.{parts_back}
use Rattle.shredding_laws.proofs.Merged.{others_apart, present, merged, members_back}

same_either : {A : Type 0} (b : Bool) (x y : A) → x ≡ y → cond b x y ≡ y
same_either true x y e = e
same_either false x y e = refl

all_read : (k count : ℕ) → 1 ≤ count → is_any_read every k count ≡ true
all_read k zero some = absurd (omega (arith, some))
all_read k (suc count) some = refl

value_read : (s : Slot) (t : Kind) (k : ℕ) → HasValue s t → is_any_read every k (slot_width s) ≡ true
value_read Absent t k h = absurd h
value_read Required t k h = refl
value_read Optional t k h = refl

member_there : (P : Json → Type 0) (name : List ℕ) (members : Fields) (j : Json) → AllByRecursion P (values_of members) → member_of name members ≡ Some j → P j
member_there P name no_fields j h e = absurd cc
member_there P name (json.field other k members) j h e = by (bytes_eq other name) e (member_there P name members j h.1)
  where
    by : (b : Bool) → cond b (Some k) (member_of name members) ≡ Some j → (member_of name members ≡ Some j → P j) → P j
    by true e f = let same : k ≡ j = cc in subst P same h.0
    by false e f = f e

-- what the members that are left over mean
abbrev left_json : Fields → Option Json
left_json no_fields = None
left_json members = Some (json.object members)

rest_left : (gs : Groups) (members : Fields) → is_in_both gs members ≡ false → left_over gs (left_json members) ≡ Ok (pairs_of members)
rest_left gs no_fields h = refl
rest_left gs (json.field name j members) h = rw h refl

items_back : (P : Json → Type 0) (tested : Bool) (f : Rec → Result (Option Json) Rule) (node : Json → Rec) → ((j : Json) → P j → f (node j) ≡ Ok (Some j)) → (js : Parts) → AllByRecursion P (items_of js) → items_seen tested f (items_shredded node js) ≡ Ok (items_of js)
items_back P tested f node back no_parts h = refl
items_back P tested f node back (part j js) h = rw (back j h.0, items_back P tested f node back js h.1) refl

object_back : (gs : Groups) (members : Fields) (value : Option Json) (found : Result (List (List ℕ × Json)) Rule) → left_over gs value ≡ Ok (pairs_of (others gs members)) → found ≡ Ok (present gs members) → sorted (pairs_of (others gs members) ++ present gs members) ≡ pairs_of members → with_fields gs value found ≡ Ok (Some (json.object members))
object_back gs members value found l f m = rw (l, f, m, members_back members) refl

missing_back : (names : List (List ℕ)) (n : Group) (k above : ℕ) → seen every names n k above (rec None empty) ≡ Ok None
missing_back names (group s t) k above = same_either (is_any_read every (k + slot_width s) (kind_width t)) (typed_seen every names t (k + slot_width s) above None empty) (Ok None) (by t)
  where
    by : (t : Kind) → typed_seen every names t (k + slot_width s) above None empty ≡ Ok None
    by free = refl
    by (scalar q) = refl
    by (object_of gs) = refl
    by (list_of n) = refl

typed_back : (names : List (List ℕ)) (s : Slot) (t : Kind) (k above : ℕ) (p : RecPart) (j : Json) → 1 ≤ kind_width t → typed_seen every names t (k + slot_width s) above None p ≡ Ok (Some j) → seen every names (group s t) k above (rec None p) ≡ Ok (Some j)
typed_back names s t k above p j some e = rw (all_read (k + slot_width s) (kind_width t) some) e

field_back : (P : Json → Type 0) (names : List (List ℕ)) (n : Group) (k above : ℕ) (node : Json → Rec) → ((j : Json) → P j → seen every names n k above (node j) ≡ Ok (Some j)) → (o : Option Json) → ((j : Json) → o ≡ Some j → P j) → seen every names n k above (field_record node o) ≡ Ok o
field_back P names n k above node back None there = missing_back names n k above
field_back P names n k above node back (Some j) there = back j (there j refl)

module _ (names : List (List ℕ)) (widths : Widths) (wide : IsWidths widths) where
  abbrev code : Json → List ℕ
  code = by_names names widths

  code_means : (j : Json) (above : ℕ) → IsWritable names above j → json_in (means names (code j) above) ≡ Ok j
  code_means j above is =
      let alone : means names (coded names j widths) above ≡ means names (coded names j widths ++ []) above = ap (λ (bytes : List ℕ). means names bytes above) (sym (append-nil (coded names j widths))) in
      rw (alone, read_back names j widths [] above is.few wide is.valid is.named is.depth is.short) refl

  left_back : (s : Slot) (t : Kind) (k above : ℕ) (j : Json) → HasValue s t → IsWritable names above j → typed_seen every names t (k + slot_width s) above (Some j) empty ≡ Ok (Some j) → seen every names (group s t) k above (whole_left code j) ≡ Ok (Some j)
  left_back s t k above j h is e = rw (value_read s t k h, code_means j above is) (same_either (is_any_read every (k + slot_width s) (kind_width t)) (typed_seen every names t (k + slot_width s) above (Some j) empty) (Ok (Some j)) e)

  rest_seen : (above : ℕ) (members : Fields) → IsWritable names above (json.object members) → value_seen names above true (members_left code members) ≡ Ok (left_json members)
  rest_seen above no_fields is = refl
  rest_seen above (json.field name j members) is = rw (code_means (json.object (json.field name j members)) above is) refl

  cell_back : (s : Slot) (q : PrimKind) (k above : ℕ) (j : Json) → HasValue s (scalar q) → IsWritable names above j → (o : Option Cell) → fit q j ≡ o → seen every names (group s (scalar q)) k above (cell_or_left code j o) ≡ Ok (Some j)
  cell_back s q k above j h is None e = left_back s (scalar q) k above j h is refl
  cell_back s q k above j h is (Some c) e = rw (fits_back q j c is.valid e) refl

  mutual
    pub back : (n : Group) → AllWritten n → HasLeaves n → (k above : ℕ) (j : Json) → IsWritable names above j → seen every names n k above (shredded code n j) ≡ Ok (Some j)
    back (group s t) h leaves k above j is = kind_back s t h.0 h.1 leaves k above j is

    kind_back : (s : Slot) (t : Kind) → HasValue s t → EachIn HasValue IsWritten t → KindHasLeaves t → (k above : ℕ) (j : Json) → IsWritable names above j → seen every names (group s t) k above (kind_shredded code t j) ≡ Ok (Some j)
    kind_back s free h in_h leaves k above j is = left_back s free k above j h is refl
    kind_back s (scalar q) h in_h leaves k above j is = cell_back s q k above j h is (fit q j) refl
    kind_back s (list_of n) h in_h leaves k above (json.array js) is =
        let each = elements_writable names above js is in
        typed_back names s (list_of n) k above (items (items_shredded (shredded code n) js)) (json.array js) leaves.0
        (rw (items_back (IsWritable names (above + 1)) (is_tested every (k + slot_width s) n) (seen every names n (k + slot_width s) (above + 1)) (shredded code n) (back n in_h leaves.1 (k + slot_width s) (above + 1)) js each, parts_back js) refl)
    kind_back s (list_of n) h in_h leaves k above json.null is = left_back s (list_of n) k above json.null h is refl
    kind_back s (list_of n) h in_h leaves k above (json.boolean b) is = left_back s (list_of n) k above (json.boolean b) h is refl
    kind_back s (list_of n) h in_h leaves k above (json.number d) is = left_back s (list_of n) k above (json.number d) h is refl
    kind_back s (list_of n) h in_h leaves k above (json.text x) is = left_back s (list_of n) k above (json.text x) h is refl
    kind_back s (list_of n) h in_h leaves k above (json.object fs) is = left_back s (list_of n) k above (json.object fs) h is refl
    kind_back s (object_of gs) h in_h leaves k above (json.object fs) is =
        rw (value_read s (object_of gs) k h, rest_seen above (others gs fs) (chosen_writable names above (unnamed gs fs) fs is), all_read (k + slot_width s) (kind_width (object_of gs)) leaves.0)
        (object_back gs fs (left_json (others gs fs)) (fields_seen every names gs (k + slot_width s) (above + 1) (fields_shredded code gs fs))
        (rest_left gs (others gs fs) (others_apart gs fs))
        (fields_back gs in_h.1 leaves.1 (k + slot_width s) (above + 1) fs (values_writable names above fs is))
        (merged gs fs in_h.0.differ is.valid.0))
    kind_back s (object_of gs) h in_h leaves k above json.null is = left_back s (object_of gs) k above json.null h is refl
    kind_back s (object_of gs) h in_h leaves k above (json.boolean b) is = left_back s (object_of gs) k above (json.boolean b) h is refl
    kind_back s (object_of gs) h in_h leaves k above (json.number d) is = left_back s (object_of gs) k above (json.number d) h is refl
    kind_back s (object_of gs) h in_h leaves k above (json.text x) is = left_back s (object_of gs) k above (json.text x) h is refl
    kind_back s (object_of gs) h in_h leaves k above (json.array js) is = left_back s (object_of gs) k above (json.array js) h is refl

    fields_back : (gs : Groups) → EachField HasValue IsWritten gs → GroupsHaveLeaves gs → (k above : ℕ) (members : Fields) → AllByRecursion (IsWritable names above) (values_of members) → fields_seen every names gs k above (fields_shredded code gs members) ≡ Ok (present gs members)
    fields_back no_groups h leaves k above members each = refl
    fields_back (field name n gs) h leaves k above members each =
        rw (field_back (IsWritable names above) names n k above (shredded code n) (back n h.0 leaves.0 k above) (member_of name members) (λ j e. member_there (IsWritable names above) name members j each e), fields_back gs h.1 leaves.1 (k + width n) above members each) refl
