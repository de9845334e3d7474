-- What is read of a column under a mask is read of the projected column, whose leaves are those that are read.
use Rattle.std.proofs.Common.{◌≡◌, ◌∙◌, refl, sym, ap, ap₂, subst, ℕ, zero, suc, ◌+◌, ◌<◌, ◌≤◌, max, Bool, true, false, cond, List, [], length, Option, Some, None, arith}
use Rattle.std.specs.Option.{option_map}
use Rattle.vs_bytes.specs.declared.leaf_columns.Entry.{Entry}
use Rattle.shred_schema.specs.declared.nodes.Slot.{Slot}
use Rattle.shred_schema.specs.declared.nodes.Slot.TheVariants.{Absent, Required, Optional}
use Rattle.shred_schema.specs.Groups.{Group, group, Kind, free, scalar, object_of, list_of, Groups, no_groups, field, slot_width, width, kind_width, groups_width}
use Rattle.shred_schema.specs.Projection.{count_read, place, projected, kind_kept, groups_projected}
use Rattle.shred_schema.specs.Ranges.{is_among, every, none_read}
use Rattle.shred_schema.specs.Recs.{Rec, empty, fields, items, no_recs, recs_from}
use Rattle.shred_schema.proofs.LeafRanges.{among_first, among_rest, among_left, among_right}
use Rattle.shred_schema.proofs.Projected.{count_split, place_after, place_next, place_stays, tested_at_places, width_projected}
use Rattle.shred_schema.proofs.ReadLeaves.{none_passes}
use Rattle.record_assembly.specs.Cuts.{first_item, later_items, is_nil}
use Rattle.record_assembly.specs.Reading.{is_null, only_cell, value_read, cell_read, with_part, with_field, with_item, items_read, longest, are_nil, are_null, read, part_read, fields_read}
use Rattle.record_taking.proofs.ItemTurns.{longest_later, some_left}

-- the leaves that are read stand at their places
abbrev pub AtPlaces : (ℕ → Bool) → ℕ → ℕ → (ℕ → List Entry) → (ℕ → List Entry) → Type 0
AtPlaces mask k count es fs = (j : ℕ) → is_among j k count ≡ true → mask j ≡ true → fs (place mask j) ≡ es j

slot_kept : (s : Slot) (mask : ℕ → Bool) (k : ℕ) → slot_width (cond (mask k) s Absent) ≡ count_read mask k (slot_width s)
slot_kept Absent mask k = both (mask k) where
  both : (m : Bool) → slot_width (cond m Absent Absent) ≡ 0
  both true = refl
  both false = refl
slot_kept Required mask k = one (mask k) where
  one : (m : Bool) → slot_width (cond m Required Absent) ≡ cond m 1 0
  one true = refl
  one false = refl
slot_kept Optional mask k = one (mask k) where
  one : (m : Bool) → slot_width (cond m Optional Absent) ≡ cond m 1 0
  one true = refl
  one false = refl

-- ---- a value

value_projected : (s : Slot) (k : ℕ) (mask : ℕ → Bool) (r d : ℕ) (es fs : ℕ → List Entry) → AtPlaces mask k (slot_width s) es fs → value_read (cond (mask k) s Absent) true r d (fs (place mask k)) ≡ value_read s (mask k) r d (es k)
value_projected Absent k mask r d es fs at = by (mask k) where
  by : (m : Bool) → value_read (cond m Absent Absent) true r d (fs (place mask k)) ≡ Some None
  by true = refl
  by false = refl
value_projected Required k mask r d es fs at = by (mask k) (at k (among_first k 0)) where
  by : (m : Bool) → (m ≡ true → fs (place mask k) ≡ es k) → value_read (cond m Required Absent) true r d (fs (place mask k)) ≡ value_read Required m r d (es k)
  by true h = ap (value_read Required true r d) (h refl)
  by false h = refl
value_projected Optional k mask r d es fs at = by (mask k) (at k (among_first k 0)) where
  by : (m : Bool) → (m ≡ true → fs (place mask k) ≡ es k) → value_read (cond m Optional Absent) true r d (fs (place mask k)) ≡ value_read Optional m r d (es k)
  by true h = ap (value_read Optional true r d) (h refl)
  by false h = refl

-- ---- items

longest_places : (mask : ℕ → Bool) (k c : ℕ) (es fs : ℕ → List Entry) → AtPlaces mask k c es fs → longest (place mask k) (count_read mask k c) fs ≤ longest k c es
longest_places mask k zero es fs at = omega arith
longest_places mask k (suc c) es fs at = by (mask k) refl (longest_places mask (k + 1) c es fs (λ j a y. at j (among_rest j k c a) y)) where
  by : (m : Bool) → mask k ≡ m → longest (place mask (k + 1)) (count_read mask (k + 1) c) fs ≤ longest (k + 1) c es
      → longest (place mask k) (cond m (suc (count_read mask (k + 1) c)) (count_read mask (k + 1) c)) fs ≤ max (length (es k)) (longest (k + 1) c es)
  by true e rest =
      let here = ap length (at k (among_first k c) e) in
      let next = ap (λ i. longest i (count_read mask (k + 1) c) fs) (place_next mask k e) in
      omega (arith, here, next, rest)
  by false e rest =
      let next = ap (λ i. longest i (count_read mask (k + 1) c) fs) (place_stays mask k e) in
      omega (arith, next, rest)

module _ {A : Type 0} (f g : ℕ → (ℕ → List Entry) → Option A) (mask : ℕ → Bool) (k c m : ℕ) (same : (a : ℕ) (es fs : ℕ → List Entry) → AtPlaces mask k c es fs → f a fs ≡ g a es) where
  items_projected : (n i r : ℕ) (es fs : ℕ → List Entry) → AtPlaces mask k c es fs → longest (place mask k) (count_read mask k c) fs < n → longest (place mask k) (count_read mask k c) fs < i
      → items_read f (are_nil every (place mask k) (count_read mask k c)) m n r fs ≡ items_read g (are_nil mask k c) m i r es
  items_projected zero i r es fs at x y = absurd (omega (arith, x))
  items_projected (suc n) zero r es fs at x y = absurd (omega (arith, y))
  items_projected (suc n) (suc i) r es fs at x y =
      ap₂ with_item first (by (are_nil every (place mask k) (count_read mask k c) (λ j. later_items m (fs j))) refl (λ some. items_projected n i m (λ j. later_items m (es j)) (λ j. later_items m (fs j)) later (omega (arith, x, some, longest_later (place mask k) (count_read mask k c) m fs)) (omega (arith, y, some, longest_later (place mask k) (count_read mask k c) m fs))))
    where
      first : f r (λ j. first_item m (fs j)) ≡ g r (λ j. first_item m (es j))
      first = same r (λ j. first_item m (es j)) (λ j. first_item m (fs j)) (λ j a z. ap (first_item m) (at j a z))

      later : AtPlaces mask k c (λ j. later_items m (es j)) (λ j. later_items m (fs j))
      later = λ j a z. ap (later_items m) (at j a z)

      done : are_nil every (place mask k) (count_read mask k c) (λ j. later_items m (fs j)) ≡ are_nil mask k c (λ j. later_items m (es j))
      done = tested_at_places mask k c (λ j. is_nil (later_items m (es j))) (λ j. is_nil (later_items m (fs j))) (λ j a z. ap is_nil (later j a z))

      by : (b : Bool) → are_nil every (place mask k) (count_read mask k c) (λ j. later_items m (fs j)) ≡ b
          → (1 ≤ longest (place mask k) (count_read mask k c) fs → items_read f (are_nil every (place mask k) (count_read mask k c)) m n m (λ j. later_items m (fs j)) ≡ items_read g (are_nil mask k c) m i m (λ j. later_items m (es j)))
          → cond (are_nil every (place mask k) (count_read mask k c) (λ j. later_items m (fs j))) (Some []) (items_read f (are_nil every (place mask k) (count_read mask k c)) m n m (λ j. later_items m (fs j)))
          ≡ cond (are_nil mask k c (λ j. later_items m (es j))) (Some []) (items_read g (are_nil mask k c) m i m (λ j. later_items m (es j)))
      by true is more = rw (← done, is) refl
      by false is more = rw (← done, is) (more (some_left (place mask k) (count_read mask k c) m fs is))

list_projected : (n : Group) (k : ℕ) (mask : ℕ → Bool) (r m d : ℕ) (es fs : ℕ → List Entry) → AtPlaces mask k (width n) es fs
    → ((a : ℕ) (gs hs : ℕ → List Entry) → AtPlaces mask k (width n) gs hs → read (projected n k mask) (place mask k) every a (m + 1) (d + 2) hs ≡ read n k mask a (m + 1) (d + 2) gs)
    → (w : ℕ) → w ≡ count_read mask k (width n)
    → cond (are_null every (place mask k) w r (d + 1) fs) (Some (items no_recs)) (option_map (λ xs. items (recs_from xs)) (items_read (λ a hs. read (projected n k mask) (place mask k) every a (m + 1) (d + 2) hs) (are_nil every (place mask k) w) (m + 1) (suc (longest (place mask k) w fs)) r fs))
    ≡ part_read (list_of n) k mask r m d es
list_projected n k mask r m d es fs at one w e =
    let null : are_null every (place mask k) (count_read mask k (width n)) r (d + 1) fs ≡ are_null mask k (width n) r (d + 1) es = tested_at_places mask k (width n) (λ j. is_null r (d + 1) (es j)) (λ j. is_null r (d + 1) (fs j)) (λ j a z. ap (is_null r (d + 1)) (at j a z)) in
    let found = items_projected {A = Rec} (λ a hs. read (projected n k mask) (place mask k) every a (m + 1) (d + 2) hs) (λ a gs. read n k mask a (m + 1) (d + 2) gs) mask k (width n) (m + 1) one (suc (longest (place mask k) (count_read mask k (width n)) fs)) (suc (longest k (width n) es)) r es fs at (omega arith) (omega (arith, longest_places mask k (width n) es fs at)) in
    subst (λ (c : ℕ). cond (are_null every (place mask k) c r (d + 1) fs) (Some (items no_recs)) (option_map (λ xs. items (recs_from xs)) (items_read (λ a hs. read (projected n k mask) (place mask k) every a (m + 1) (d + 2) hs) (are_nil every (place mask k) c) (m + 1) (suc (longest (place mask k) c fs)) r fs)) ≡ part_read (list_of n) k mask r m d es) (sym e)
    (ap₂ (λ (b : Bool) (o : Option (List Rec)). cond b (Some (items no_recs)) (option_map (λ xs. items (recs_from xs)) o)) null found)

-- ---- records

only_one : (mask : ℕ → Bool) (k : ℕ) → none_read mask k 1 ≡ false → mask k ≡ true
only_one mask k h = by (mask k) h where
  by : (m : Bool) → none_read (λ j. m) k 1 ≡ false → m ≡ true
  by true g = refl
  by false g = cc

-- a typed part that is kept, where `u` is what is kept of it
typed_kept : (t : Kind) (k : ℕ) (mask : ℕ → Bool) (r m d : ℕ) (es fs : ℕ → List Entry) → AtPlaces mask k (kind_width t) es fs → (u : Kind)
    → (none_read mask k (kind_width t) ≡ false → part_read u (place mask k) every r m d fs ≡ part_read t k mask r m d es)
    → kind_width (cond (none_read mask k (kind_width t)) free u) ≡ count_read mask k (kind_width t)
    → cond (are_null every (place mask k) (kind_width (cond (none_read mask k (kind_width t)) free u)) r d fs) (Some empty) (part_read (cond (none_read mask k (kind_width t)) free u) (place mask k) every r m d fs)
    ≡ cond (are_null mask k (kind_width t) r d es) (Some empty) (part_read t k mask r m d es)
typed_kept t k mask r m d es fs at u there wide = by (none_read mask k (kind_width t)) refl there wide
  where
    by : (b : Bool) → none_read mask k (kind_width t) ≡ b → (b ≡ false → part_read u (place mask k) every r m d fs ≡ part_read t k mask r m d es) → kind_width (cond b free u) ≡ count_read mask k (kind_width t)
        → cond (are_null every (place mask k) (kind_width (cond b free u)) r d fs) (Some empty) (part_read (cond b free u) (place mask k) every r m d fs) ≡ cond (are_null mask k (kind_width t) r d es) (Some empty) (part_read t k mask r m d es)
    by true is f w = rw (none_passes mask k (kind_width t) (λ j. is_null r d (es j)) is) refl
    by false is f w =
        let null : are_null every (place mask k) (count_read mask k (kind_width t)) r d fs ≡ are_null mask k (kind_width t) r d es = tested_at_places mask k (kind_width t) (λ j. is_null r d (es j)) (λ j. is_null r d (fs j)) (λ j a z. ap (is_null r d) (at j a z)) in
        rw (w, null, f refl) refl

mutual
  pub read_projected : (n : Group) (k : ℕ) (mask : ℕ → Bool) (r m d : ℕ) (es fs : ℕ → List Entry) → AtPlaces mask k (width n) es fs → read (projected n k mask) (place mask k) every r m d fs ≡ read n k mask r m d es
  read_projected (group s t) k mask r m d es fs at =
      let value = value_projected s k mask r d es fs (λ j a z. at j (among_left j k (slot_width s) (kind_width t) a) z) in
      let inner : AtPlaces mask (k + slot_width s) (kind_width t) es fs = λ j a z. at j (among_right j k (slot_width s) (kind_width t) a) z in
      let next : place mask k + slot_width (cond (mask k) s Absent) ≡ place mask (k + slot_width s) = ap (λ w. place mask k + w) (slot_kept s mask k) ∙ sym (place_after mask k (slot_width s)) in
      let all = width_projected (group s t) k mask in
      let parts = count_split mask k (slot_width s) (kind_width t) in
      let wide : kind_width (cond (none_read mask (k + slot_width s) (kind_width t)) free (kind_kept t (k + slot_width s) mask)) ≡ count_read mask (k + slot_width s) (kind_width t) = omega (arith, all, parts, slot_kept s mask k) in
      ap₂ with_part value (ap (λ i. cond (are_null every i (kind_width (cond (none_read mask (k + slot_width s) (kind_width t)) free (kind_kept t (k + slot_width s) mask))) r d fs) (Some empty) (part_read (cond (none_read mask (k + slot_width s) (kind_width t)) free (kind_kept t (k + slot_width s) mask)) i every r m d fs)) next
      ∙ typed_kept t (k + slot_width s) mask r m d es fs inner (kind_kept t (k + slot_width s) mask) (λ some. part_projected t (k + slot_width s) mask r m d es fs some inner) wide)

  part_projected : (t : Kind) (k : ℕ) (mask : ℕ → Bool) (r m d : ℕ) (es fs : ℕ → List Entry) → none_read mask k (kind_width t) ≡ false → AtPlaces mask k (kind_width t) es fs → part_read (kind_kept t k mask) (place mask k) every r m d fs ≡ part_read t k mask r m d es
  part_projected free k mask r m d es fs some at = refl
  part_projected (scalar q) k mask r m d es fs some at = ap (λ xs. cell_read q (only_cell r (d + 1) xs)) (at k (among_first k 0) (only_one mask k some))
  part_projected (object_of gs) k mask r m d es fs some at = ap (option_map fields) (fields_projected gs k mask r m (d + 1) es fs at)
  part_projected (list_of n) k mask r m d es fs some at = list_projected n k mask r m d es fs at (λ a gs hs h. read_projected n k mask a (m + 1) (d + 2) gs hs h) (width (projected n k mask)) (width_projected n k mask)

  fields_projected : (gs : Groups) (k : ℕ) (mask : ℕ → Bool) (r m d : ℕ) (es fs : ℕ → List Entry) → AtPlaces mask k (groups_width gs) es fs → fields_read (groups_projected gs k mask) (place mask k) every r m d fs ≡ fields_read gs k mask r m d es
  fields_projected no_groups k mask r m d es fs at = refl
  fields_projected (field name n gs) k mask r m d es fs at =
      let next : place mask k + width (projected n k mask) ≡ place mask (k + width n) = ap (λ w. place mask k + w) (width_projected n k mask) ∙ sym (place_after mask k (width n)) in
      ap₂ with_field
      (read_projected n k mask r m d es fs (λ j a z. at j (among_left j k (width n) (groups_width gs) a) z))
      (ap (λ i. fields_read (groups_projected gs (k + width n) mask) i every r m d fs) next ∙ fields_projected gs (k + width n) mask r m d es fs (λ j a z. at j (among_right j k (width n) (groups_width gs) a) z))
