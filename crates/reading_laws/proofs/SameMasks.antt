-- Masks that agree on the leaves of a column leave the same of its records, and see the same in them.
use Rattle.std.proofs.Common.{◌≡◌, refl, ap, ap₂, ℕ, zero, suc, ◌+◌, Bool, true, not, ◌&&◌, ◌||◌, cond, List, [], ◌∷◌, ◌++◌, map, Option, Some, None, Result, Ok}
use Rattle.std.specs.Prelude.{is_some}
use Rattle.json_tree.specs.Json.{Json}
use Rattle.vs_bytes.specs.Outcome.{◌>>=◌}
use Rattle.vs_bytes.specs.declared.rule.Rule.{Rule}
use Rattle.shred_schema.specs.Groups.{Group, group, Kind, free, scalar, object_of, list_of, Groups, no_groups, field, slot_width, width, kind_width, groups_width}
use Rattle.shred_schema.specs.Ranges.{is_among, none_read, is_any_read}
use Rattle.shred_schema.specs.Recs.{Rec, rec, RecPart, empty, cell, fields, items, Recs, no_recs, recs, recs_in, recs_from, RowRec, absent, present}
use Rattle.shred_schema.proofs.LeafRanges.{among_first, among_left, among_right}
use Rattle.shred_schema.proofs.ReadLeaves.{all_same}
use Rattle.record_assembly.specs.Shown.{shown, part_shown, fields_shown, row_shown}
use Rattle.unshredder.specs.Merging.{or_null, with_items, with_fields, member, element}
use Rattle.unshredder.specs.Rows.{any_rec, has_value, part_has_value, fields_have_value, names_needed, row_seen}
use Rattle.unshredder.specs.Seen.{value_seen, is_part_read, is_tested, items_seen, seen, typed_seen, fields_seen}

-- the masks say the same of `count` leaves from k on
abbrev pub Agree : (ℕ → Bool) → (ℕ → Bool) → ℕ → ℕ → Type 0
Agree p q k count = (j : ℕ) → is_among j k count ≡ true → p j ≡ q j

mapped_same : (f g : Rec → Rec) → ((x : Rec) → f x ≡ g x) → (xs : Recs) → recs_from (map f (recs_in xs)) ≡ recs_from (map g (recs_in xs))
mapped_same f g same no_recs = refl
mapped_same f g same (recs x xs) = ap₂ recs (same x) (mapped_same f g same xs)

any_alike : (f g : Rec → Bool) → ((x : Rec) → f x ≡ g x) → (xs : Recs) → any_rec f xs ≡ any_rec g xs
any_alike f g same no_recs = refl
any_alike f g same (recs x xs) = ap₂ (λ a b. a || b) (same x) (any_alike f g same xs)

items_alike : (a b : Bool) (f g : Rec → Result (Option Json) Rule) → a ≡ b → ((x : Rec) → f x ≡ g x) → (xs : Recs) → items_seen a f xs ≡ items_seen b g xs
items_alike a b f g tests same no_recs = refl
items_alike a b f g tests same (recs x xs) =
    let first : f x ≡ g x = same x in
    let rest : items_seen a f xs ≡ items_seen b g xs = items_alike a b f g tests same xs in
    λ i. first i >>= λ found. element (tests i) found >>= λ j. rest i >>= λ js. Ok (j ∷ js)

module _ (p q : ℕ → Bool) where
  none_same : (k count : ℕ) → Agree p q k count → none_read p k count ≡ none_read q k count
  none_same k count h = all_same k count (λ j. not (p j)) (λ j. not (q j)) (λ j a. ap not (h j a))

  any_same : (k count : ℕ) → Agree p q k count → is_any_read p k count ≡ is_any_read q k count
  any_same k count h = ap not (none_same k count h)

  part_same : (k count : ℕ) → Agree p q k count → is_part_read p k count ≡ is_part_read q k count
  part_same k zero h = refl
  part_same k (suc count) h = any_same k (suc count) h

  on_left : (k a b : ℕ) → Agree p q k (a + b) → Agree p q k a
  on_left k a b h j i = h j (among_left j k a b i)

  on_right : (k a b : ℕ) → Agree p q k (a + b) → Agree p q (k + a) b
  on_right k a b h j i = h j (among_right j k a b i)

  tested_same : (n : Group) (k : ℕ) → Agree p q k (width n) → is_tested p k n ≡ is_tested q k n
  tested_same (group s t) k h = ap₂ (λ a b. a && b) (part_same k (slot_width s) (on_left k (slot_width s) (kind_width t) h)) (part_same (k + slot_width s) (kind_width t) (on_right k (slot_width s) (kind_width t) h))

  mutual
    pub shown_same : (n : Group) (k : ℕ) (x : Rec) → Agree p q k (width n) → shown n k p x ≡ shown n k q x
    shown_same (group s t) k (rec v part) h =
        let left = none_same k (slot_width s) (on_left k (slot_width s) (kind_width t) h) in
        let right = none_same (k + slot_width s) (kind_width t) (on_right k (slot_width s) (kind_width t) h) in
        let inside = part_shown_same t (k + slot_width s) part (on_right k (slot_width s) (kind_width t) h) in
        λ i. rec (cond (left i) None v) (cond (right i) empty (inside i))

    part_shown_same : (t : Kind) (k : ℕ) (x : RecPart) → Agree p q k (kind_width t) → part_shown t k p x ≡ part_shown t k q x
    part_shown_same free k x h = refl
    part_shown_same (scalar kind) k x h = refl
    part_shown_same (object_of gs) k (fields xs) h = ap fields (fields_shown_same gs k xs h)
    part_shown_same (object_of gs) k empty h = refl
    part_shown_same (object_of gs) k (cell c) h = refl
    part_shown_same (object_of gs) k (items xs) h = refl
    part_shown_same (list_of n) k (items xs) h = ap items (mapped_same (shown n k p) (shown n k q) (λ x. shown_same n k x h) xs)
    part_shown_same (list_of n) k empty h = refl
    part_shown_same (list_of n) k (cell c) h = refl
    part_shown_same (list_of n) k (fields xs) h = refl

    fields_shown_same : (gs : Groups) (k : ℕ) (xs : Recs) → Agree p q k (groups_width gs) → fields_shown gs k p xs ≡ fields_shown gs k q xs
    fields_shown_same no_groups k xs h = refl
    fields_shown_same (field name n gs) k no_recs h = refl
    fields_shown_same (field name n gs) k (recs x xs) h = ap₂ recs (shown_same n k x (on_left k (width n) (groups_width gs) h)) (fields_shown_same gs (k + width n) xs (on_right k (width n) (groups_width gs) h))

  mutual
    has_same : (n : Group) (k : ℕ) (x : Rec) → Agree p q k (width n) → has_value p n k x ≡ has_value q n k x
    has_same (group s t) k (rec v part) h =
        let left = any_same k (slot_width s) (on_left k (slot_width s) (kind_width t) h) in
        let inside = part_has_same t (k + slot_width s) part (on_right k (slot_width s) (kind_width t) h) in
        λ i. (is_some v && left i) || inside i

    part_has_same : (t : Kind) (k : ℕ) (x : RecPart) → Agree p q k (kind_width t) → part_has_value p t k x ≡ part_has_value q t k x
    part_has_same free k x h = refl
    part_has_same (scalar kind) k x h = refl
    part_has_same (object_of gs) k (fields xs) h = fields_have_same gs k xs h
    part_has_same (object_of gs) k empty h = refl
    part_has_same (object_of gs) k (cell c) h = refl
    part_has_same (object_of gs) k (items xs) h = refl
    part_has_same (list_of n) k (items xs) h = any_alike (has_value p n k) (has_value q n k) (λ x. has_same n k x h) xs
    part_has_same (list_of n) k empty h = refl
    part_has_same (list_of n) k (cell c) h = refl
    part_has_same (list_of n) k (fields xs) h = refl

    fields_have_same : (gs : Groups) (k : ℕ) (xs : Recs) → Agree p q k (groups_width gs) → fields_have_value p gs k xs ≡ fields_have_value q gs k xs
    fields_have_same no_groups k xs h = refl
    fields_have_same (field name n gs) k no_recs h = refl
    fields_have_same (field name n gs) k (recs x xs) h = ap₂ (λ a b. a || b) (has_same n k x (on_left k (width n) (groups_width gs) h)) (fields_have_same gs (k + width n) xs (on_right k (width n) (groups_width gs) h))

  module _ (names : List (List ℕ)) where
    mutual
      pub seen_alike : (n : Group) (k above : ℕ) (x : Rec) → Agree p q k (width n) → seen p names n k above x ≡ seen q names n k above x
      seen_alike (group s t) k above (rec v part) h =
          let left = any_same k (slot_width s) (on_left k (slot_width s) (kind_width t) h) in
          let right = any_same (k + slot_width s) (kind_width t) (on_right k (slot_width s) (kind_width t) h) in
          let typed : (value : Option Json) → typed_seen p names t (k + slot_width s) above value part ≡ typed_seen q names t (k + slot_width s) above value part = typed_alike t (k + slot_width s) above part (on_right k (slot_width s) (kind_width t) h) in
          λ i. value_seen names above (left i) v >>= λ value. cond (right i) (typed value i) (Ok value)

      typed_alike : (t : Kind) (k above : ℕ) (x : RecPart) → Agree p q k (kind_width t) → (value : Option Json) → typed_seen p names t k above value x ≡ typed_seen q names t k above value x
      typed_alike free k above x h value = refl
      typed_alike (scalar kind) k above (cell c) h value = refl
      typed_alike (scalar kind) k above empty h value = refl
      typed_alike (scalar kind) k above (fields xs) h value = refl
      typed_alike (scalar kind) k above (items xs) h value = refl
      typed_alike (list_of n) k above (items xs) h value = ap (with_items value) (items_alike (is_tested p k n) (is_tested q k n) (seen p names n k (above + 1)) (seen q names n k (above + 1)) (tested_same n k h) (λ x. seen_alike n k (above + 1) x h) xs)
      typed_alike (list_of n) k above empty h value = refl
      typed_alike (list_of n) k above (cell c) h value = refl
      typed_alike (list_of n) k above (fields xs) h value = refl
      typed_alike (object_of gs) k above (fields xs) h value = ap (with_fields gs value) (fields_alike gs k (above + 1) xs h)
      typed_alike (object_of gs) k above empty h value = refl
      typed_alike (object_of gs) k above (cell c) h value = refl
      typed_alike (object_of gs) k above (items xs) h value = refl

      fields_alike : (gs : Groups) (k above : ℕ) (xs : Recs) → Agree p q k (groups_width gs) → fields_seen p names gs k above xs ≡ fields_seen q names gs k above xs
      fields_alike no_groups k above xs h = refl
      fields_alike (field name n gs) k above no_recs h = refl
      fields_alike (field name n gs) k above (recs x xs) h =
          let first : seen p names n k above x ≡ seen q names n k above x = seen_alike n k above x (on_left k (width n) (groups_width gs) h) in
          let rest : fields_seen p names gs (k + width n) above xs ≡ fields_seen q names gs (k + width n) above xs = fields_alike gs (k + width n) above xs (on_right k (width n) (groups_width gs) h) in
          λ i. first i >>= λ found. rest i >>= λ members. Ok (member name found ++ members)

  -- of rows, whose metadata is leaf 0

  pub row_shown_same : (n : Group) (row : RowRec) → Agree p q 0 (1 + width n) → row_shown n p row ≡ row_shown n q row
  row_shown_same n absent h = refl
  row_shown_same n (present meta x) h =
      let first = h 0 (among_left 0 0 1 (width n) (among_first 0 0)) in
      let rest = shown_same n 1 x (on_right 0 1 (width n) h) in
      λ i. present (cond (first i) meta []) (rest i)

  pub row_seen_same : (n : Group) (row : RowRec) → Agree p q 0 (1 + width n) → row_seen p n row ≡ row_seen q n row
  unfolding row_seen
  row_seen_same n absent h = refl
  row_seen_same n (present meta x) h =
      let needed = has_same n 1 x (on_right 0 1 (width n) h) in
      let one : (names : List (List ℕ)) → seen p names n 1 0 x ≡ seen q names n 1 0 x = λ names. seen_alike names n 1 0 x (on_right 0 1 (width n) h) in
      λ i. names_needed (needed i) meta >>= λ names. one names i >>= λ found. Ok (Some (or_null found))
