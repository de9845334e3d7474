-- A node of which no leaf is read tells nothing, and has no value that is read.
use Rattle.std.proofs.Common.{◌≡◌, ◌∙◌, sym, ap, refl, ℕ, zero, suc, ◌+◌, List, Bool, true, false, not, ◌&&◌, ◌||◌, Some, None, Ok, zero-add, add-zero, arith}
use Rattle.std.specs.Prelude.{is_some}
use Rattle.shred_schema.specs.Groups.{Group, group, Kind, free, scalar, object_of, list_of, Groups, no_groups, field, slot_width, width, kind_width, groups_width}
use Rattle.shred_schema.specs.Ranges.{none_read, is_any_read}
use Rattle.shred_schema.specs.Recs.{Rec, rec, RecPart, empty, cell, fields, items, Recs, no_recs, recs}
use Rattle.unshredder.specs.Seen.{seen}
use Rattle.unshredder.specs.Rows.{has_value, part_has_value, fields_have_value, any_rec}

parted : (a b c : Bool) → (a && b) && c ≡ a && (b && c)
parted true b c = refl
parted false b c = refl

none_split : (mask : ℕ → Bool) (k a b : ℕ) → none_read mask k (a + b) ≡ none_read mask k a && none_read mask (k + a) b
none_split mask k zero b =
    ap (λ n. none_read mask k n) (zero-add b) ∙ ap (λ i. none_read mask i b) (sym (add-zero k))
none_split mask k (suc a) b =
    let count : suc a + b ≡ suc (a + b) = omega arith in
    let place : k + 1 + a ≡ k + suc a = omega arith in
    ap (λ n. none_read mask k n) count
    ∙ ap (λ rest. not (mask k) && rest) (none_split mask (k + 1) a b ∙ ap (λ i. none_read mask (k + 1) a && none_read mask i b) place)
    ∙ sym (parted (not (mask k)) (none_read mask (k + 1) a) (none_read mask (k + suc a) b))

both_none : (whole left right : Bool) → whole ≡ left && right → not whole ≡ false → (not left ≡ false) × (not right ≡ false)
both_none whole true true e h = (refl, refl)
both_none whole true false e h = absurd (let wrong : true ≡ false = ap not (sym e) ∙ h in cc)
both_none whole false right e h = absurd (let wrong : true ≡ false = ap not (sym e) ∙ h in cc)

neither_read : (mask : ℕ → Bool) (k a b : ℕ) → is_any_read mask k (a + b) ≡ false → (is_any_read mask k a ≡ false) × (is_any_read mask (k + a) b ≡ false)
neither_read mask k a b h = both_none (none_read mask k (a + b)) (none_read mask k a) (none_read mask (k + a) b) (none_split mask k a b) h

pub unread_seen : (mask : ℕ → Bool) (names : List (List ℕ)) (n : Group) (k above : ℕ) (x : Rec) → is_any_read mask k (width n) ≡ false → seen mask names n k above x ≡ Ok None
unread_seen mask names (group s t) k above (rec None p) h =
    let apart = neither_read mask k (slot_width s) (kind_width t) h in
    rw apart.1 refl
unread_seen mask names (group s t) k above (rec (Some bytes) p) h =
    let apart = neither_read mask k (slot_width s) (kind_width t) h in
    rw (apart.0, apart.1) refl

pub not_there : (there read : Bool) → read ≡ false → there && read ≡ false
not_there true read h = h
not_there false read h = refl

pub neither : (b c : Bool) → b ≡ false → c ≡ false → b || c ≡ false
neither b c e f = rw (e, f) refl

pub none_of : (p : Rec → Bool) → ((x : Rec) → p x ≡ false) → (xs : Recs) → any_rec p xs ≡ false
none_of p h no_recs = refl
none_of p h (recs x xs) = neither (p x) (any_rec p xs) (h x) (none_of p h xs)

mutual
  pub none_there : (n : Group) (mask : ℕ → Bool) (k : ℕ) (x : Rec) → is_any_read mask k (width n) ≡ false → has_value mask n k x ≡ false
  none_there (group s t) mask k (rec v p) h =
      let apart = neither_read mask k (slot_width s) (kind_width t) h in
      neither (is_some v && is_any_read mask k (slot_width s)) (part_has_value mask t (k + slot_width s) p)
      (not_there (is_some v) (is_any_read mask k (slot_width s)) apart.0) (none_in_part t mask (k + slot_width s) p apart.1)

  pub none_in_part : (t : Kind) (mask : ℕ → Bool) (k : ℕ) (p : RecPart) → is_any_read mask k (kind_width t) ≡ false → part_has_value mask t k p ≡ false
  none_in_part free mask k p h = refl
  none_in_part (scalar q) mask k p h = refl
  none_in_part (object_of gs) mask k empty h = refl
  none_in_part (object_of gs) mask k (cell c) h = refl
  none_in_part (object_of gs) mask k (fields xs) h = none_in_fields gs mask k xs h
  none_in_part (object_of gs) mask k (items xs) h = refl
  none_in_part (list_of n) mask k empty h = refl
  none_in_part (list_of n) mask k (cell c) h = refl
  none_in_part (list_of n) mask k (fields xs) h = refl
  none_in_part (list_of n) mask k (items xs) h = none_of (has_value mask n k) (λ x. none_there n mask k x h) xs

  none_in_fields : (gs : Groups) (mask : ℕ → Bool) (k : ℕ) (xs : Recs) → is_any_read mask k (groups_width gs) ≡ false → fields_have_value mask gs k xs ≡ false
  none_in_fields no_groups mask k xs h = refl
  none_in_fields (field name n gs) mask k no_recs h = refl
  none_in_fields (field name n gs) mask k (recs x xs) h =
      let apart = neither_read mask k (width n) (groups_width gs) h in
      neither (has_value mask n k x) (fields_have_value mask gs (k + width n) xs) (none_there n mask k x apart.0) (none_in_fields gs mask (k + width n) xs apart.1)

pub unread_part : (read : Bool) (t : Kind) (mask : ℕ → Bool) (k : ℕ) (p : RecPart) → read ≡ is_any_read mask k (kind_width t) → read ≡ false → false ≡ part_has_value mask t k p
unread_part read t mask k p e f = sym (none_in_part t mask k p (sym e ∙ f))
