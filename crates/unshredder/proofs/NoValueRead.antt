-- A reading that reads no value finds none.
use Rattle.std.proofs.Common.{◌≡◌, ◌∙◌, sym, refl, ℕ, ◌+◌, List, [], ◌∷◌, Bool, true, false, ◌&&◌, ◌||◌}
use Rattle.std.specs.Prelude.{is_some}
use Rattle.std.specs.List.{list_any}
use Rattle.shred_schema.specs.Groups.{Group, group, Kind, free, scalar, object_of, list_of, Groups, no_groups, field, slot_width, width}
use Rattle.shred_schema.specs.Ranges.{is_any_read}
use Rattle.shred_schema.specs.Recs.{Rec, rec, RecPart, empty, cell, fields, items, Recs, no_recs, recs}
use Rattle.unshredder.specs.declared.readings.Reading.{Reading, out-Reading}
use Rattle.unshredder.specs.Readings.{IsReading, AreInside, AreReadings, Begins}
use Rattle.unshredder.specs.Rows.{has_value, part_has_value, fields_have_value}
use Rattle.unshredder.proofs.Unread.{none_there, not_there, neither, none_of}

-- none of these reads a value
abbrev none_in : List Reading → Bool
none_in rs = list_any (λ r. (out-Reading r).values) rs

both_false : (a b c : Bool) → c ≡ a || b → c ≡ false → (a ≡ false) × (b ≡ false)
both_false true b c e f = absurd (let wrong : true ≡ false = sym e ∙ f in cc)
both_false false b c e f = (refl, sym e ∙ f)

-- a first field that finds none, read or not, and the ones after it
begun : (there : Bool) (P : Reading → Type 0) (More : List Reading → Type 0) (rs : List Reading) (x y : Bool) → (there ≡ false → x ≡ false)
    → ((r : Reading) → P r → (out-Reading r).values ≡ false → x ≡ false) → ((more : List Reading) → More more → none_in more ≡ false → y ≡ false)
    → Begins there P More rs → none_in rs ≡ false → x || y ≡ false
begun false P More rs x y unread one after is off = neither x y (unread refl) (after rs is off)
begun true P More [] x y unread one after is off = absurd is
begun true P More (r ∷ rs) x y unread one after is off =
    let parts = both_false _ _ _ refl off in
    neither x y (one r is.0 parts.0) (after rs is.1 parts.1)

mutual
  of_node : (n : Group) (mask : ℕ → Bool) (k : ℕ) (r : Reading) (x : Rec) → IsReading mask n k r → (out-Reading r).values ≡ false → has_value mask n k x ≡ false
  of_node (group s t) mask k r (rec v p) is off =
      let parts = both_false _ _ _ is.0.values off in
      neither (is_some v && is_any_read mask k (slot_width s)) (part_has_value mask t (k + slot_width s) p)
      (not_there (is_some v) (is_any_read mask k (slot_width s)) (sym is.0.value ∙ parts.0)) (of_part t mask (k + slot_width s) (out-Reading r).inside p is.1 parts.1)

  of_part : (t : Kind) (mask : ℕ → Bool) (k : ℕ) (rs : List Reading) (p : RecPart) → AreInside mask t k rs → none_in rs ≡ false → part_has_value mask t k p ≡ false
  of_part free mask k rs p is off = refl
  of_part (scalar q) mask k rs p is off = refl
  of_part (object_of gs) mask k rs empty is off = refl
  of_part (object_of gs) mask k rs (cell c) is off = refl
  of_part (object_of gs) mask k rs (fields xs) is off = of_fields gs mask 0 k rs xs is off
  of_part (object_of gs) mask k rs (items xs) is off = refl
  of_part (list_of n) mask k rs empty is off = refl
  of_part (list_of n) mask k rs (cell c) is off = refl
  of_part (list_of n) mask k rs (fields xs) is off = refl
  of_part (list_of n) mask k [] (items xs) is off = absurd is
  of_part (list_of n) mask k (r ∷ []) (items xs) is off =
      let parts = both_false (out-Reading r).values false _ refl off in
      none_of (has_value mask n k) (λ x. of_node n mask k r x is parts.0) xs
  of_part (list_of n) mask k (r ∷ other ∷ rs) (items xs) is off = absurd is

  of_fields : (gs : Groups) (mask : ℕ → Bool) (i k : ℕ) (rs : List Reading) (xs : Recs) → AreReadings mask gs i k rs → none_in rs ≡ false → fields_have_value mask gs k xs ≡ false
  of_fields no_groups mask i k rs xs is off = refl
  of_fields (field name n gs) mask i k rs no_recs is off = refl
  of_fields (field name n gs) mask i k rs (recs x xs) is off =
      begun (is_any_read mask k (width n)) (λ r. ((out-Reading r).place ≡ i) × IsReading mask n k r) (λ more. AreReadings mask gs (i + 1) (k + width n) more) rs
      (has_value mask n k x) (fields_have_value mask gs (k + width n) xs) (none_there n mask k x) (λ r this e. of_node n mask k r x this.1 e)
      (λ more those e. of_fields gs mask (i + 1) (k + width n) more xs those e) is off

pub no_value : (n : Group) (mask : ℕ → Bool) (k : ℕ) (r : Reading) (x : Rec) → IsReading mask n k r → (out-Reading r).values ≡ false → false ≡ has_value mask n k x
no_value n mask k r x is off = sym (of_node n mask k r x is off)
