-- A projected column: its leaves are those that are read, and it nests no deeper than the whole one.
use Rattle.std.proofs.Common.{◌≡◌, ◌∙◌, sym, ap, ap₂, subst, refl, ℕ, zero, suc, ◌+◌, ◌≤◌, cond, Bool, true, false, true≢false, not, ◌&&◌, ◌||◌, zero-add, add-zero, arith}
use Rattle.shred_schema.specs.Groups.{Group, group, Kind, free, scalar, object_of, list_of, Groups, no_groups, field, slot_width, width, kind_width, groups_width, nesting, kind_nesting, groups_nesting, height, kind_height, groups_height}
use Rattle.shred_schema.specs.Lawful.{HasLeaves, KindHasLeaves, GroupsHaveLeaves}
use Rattle.shred_schema.specs.Projection.{count_read, place, projected, kind_kept, groups_projected, kind_projected}
use Rattle.shred_schema.specs.Ranges.{is_among, every, each_read, none_read}
use Rattle.shred_schema.specs.declared.nodes.Slot.{Slot}
use Rattle.shred_schema.specs.declared.nodes.Slot.TheVariants.{Absent, Required, Optional}
use Rattle.shred_schema.proofs.LeafRanges.{among_first, among_rest}

-- Counts and places.

count_more : (b : Bool) (n : ℕ) → cond b (suc n) n ≡ cond b 1 0 + n
count_more true n = omega arith
count_more false n = omega arith

count_one : (mask : ℕ → Bool) (k : ℕ) → count_read mask k 1 ≡ cond (mask k) 1 0
count_one mask k = refl

pub count_split : (mask : ℕ → Bool) (k a b : ℕ) → count_read mask k (a + b) ≡ count_read mask k a + count_read mask (k + a) b
count_split mask k zero b =
    let none : 0 + count_read mask (k + 0) b ≡ count_read mask (k + 0) b = omega arith in
    ap₂ (λ i n. count_read mask i n) (sym (add-zero k)) (zero-add b) ∙ sym none
count_split mask k (suc a) b =
    let count : suc a + b ≡ suc (a + b) = omega arith in
    let place : k + 1 + a ≡ k + suc a = omega arith in
    let rest : count_read mask (k + 1) (a + b) ≡ count_read mask (k + 1) a + count_read mask (k + suc a) b =
    count_split mask (k + 1) a b ∙ ap (λ i. count_read mask (k + 1) a + count_read mask i b) place in
    ap (λ n. count_read mask k n) count ∙ joined (mask k) (count_read mask (k + 1) (a + b)) (count_read mask (k + 1) a) (count_read mask (k + suc a) b) rest
  where
    joined : (m : Bool) (all left right : ℕ) → all ≡ left + right → cond m (suc all) all ≡ cond m (suc left) left + right
    joined true all left right e = omega (arith, e)
    joined false all left right e = omega (arith, e)

-- the place after a range
pub place_after : (mask : ℕ → Bool) (k c : ℕ) → place mask (k + c) ≡ place mask k + count_read mask k c
place_after mask k c = count_split mask 0 k c ∙ ap (λ i. count_read mask 0 k + count_read mask i c) (zero-add k)

pub place_next : (mask : ℕ → Bool) (k : ℕ) → mask k ≡ true → place mask (k + 1) ≡ place mask k + 1
place_next mask k e = place_after mask k 1 ∙ ap (λ m. place mask k + cond m 1 0) e

pub place_stays : (mask : ℕ → Bool) (k : ℕ) → mask k ≡ false → place mask (k + 1) ≡ place mask k
place_stays mask k e =
    let none : place mask k + 0 ≡ place mask k = omega arith in
    place_after mask k 1 ∙ ap (λ m. place mask k + cond m 1 0) e ∙ none

pub count_most : (mask : ℕ → Bool) (k c : ℕ) → count_read mask k c ≤ c
count_most mask k zero = omega arith
count_most mask k (suc c) = most (mask k) (count_read mask (k + 1) c) (count_most mask (k + 1) c) where
  most : (m : Bool) (n : ℕ) → n ≤ c → cond m (suc n) n ≤ suc c
  most true n h = omega (arith, h)
  most false n h = omega (arith, h)

pub count_none : (mask : ℕ → Bool) (k c : ℕ) → none_read mask k c ≡ true → count_read mask k c ≡ 0
count_none mask k zero h = refl
count_none mask k (suc c) h = by (mask k) (none_read mask (k + 1) c) (count_read mask (k + 1) c) h (count_none mask (k + 1) c) where
  by : (m rest : Bool) (n : ℕ) → (not m && rest) ≡ true → (rest ≡ true → n ≡ 0) → cond m (suc n) n ≡ 0
  by true rest n e f = absurd (true≢false (sym e))
  by false rest n e f = f e

pub count_some : (mask : ℕ → Bool) (k c : ℕ) → none_read mask k c ≡ false → 1 ≤ count_read mask k c
count_some mask k zero h = absurd (true≢false h)
count_some mask k (suc c) h = by (mask k) (none_read mask (k + 1) c) (count_read mask (k + 1) c) h (count_some mask (k + 1) c) where
  by : (m rest : Bool) (n : ℕ) → (not m && rest) ≡ false → (rest ≡ false → 1 ≤ n) → 1 ≤ cond m (suc n) n
  by true rest n e f = omega arith
  by false rest n e f = f e

-- A test on the leaves that are read is the same test at their places.
pub tested_at_places : (mask : ℕ → Bool) (k c : ℕ) (p q : ℕ → Bool) → ((j : ℕ) → is_among j k c ≡ true → mask j ≡ true → q (place mask j) ≡ p j)
    → each_read every (place mask k) (count_read mask k c) q ≡ each_read mask k c p
tested_at_places mask k zero p q h = refl
tested_at_places mask k (suc c) p q h = by (mask k) refl (tested_at_places mask (k + 1) c p q (λ j a r. h j (among_rest j k c a) r)) where
  by : (m : Bool) → mask k ≡ m → each_read every (place mask (k + 1)) (count_read mask (k + 1) c) q ≡ each_read mask (k + 1) c p
      → each_read every (place mask k) (cond m (suc (count_read mask (k + 1) c)) (count_read mask (k + 1) c)) q ≡ ((not m || p k) && each_read mask (k + 1) c p)
  by true e rest = ap₂ (λ a b. a && b) (h k (among_first k c) e) (ap (λ i. each_read every i (count_read mask (k + 1) c) q) (sym (place_next mask k e)) ∙ rest)
  by false e rest = ap (λ i. each_read every i (count_read mask (k + 1) c) q) (sym (place_stays mask k e)) ∙ rest

-- The leaves of a projected node are those of the node that are read.

slot_kept : (s : Slot) (mask : ℕ → Bool) (k : ℕ) → slot_width (cond (mask k) s Absent) ≡ count_read mask k (slot_width s)
slot_kept Absent mask k = both (mask k) where
  both : (m : Bool) → slot_width (cond m Absent Absent) ≡ 0
  both true = refl
  both false = refl
slot_kept Required mask k = one (mask k) where
  one : (m : Bool) → slot_width (cond m Required Absent) ≡ cond m 1 0
  one true = refl
  one false = refl
slot_kept Optional mask k = one (mask k) where
  one : (m : Bool) → slot_width (cond m Optional Absent) ≡ cond m 1 0
  one true = refl
  one false = refl

kind_counted : (t : Kind) (k : ℕ) (mask : ℕ → Bool) → kind_width (kind_kept t k mask) ≡ count_read mask k (kind_width t) → (b : Bool) → none_read mask k (kind_width t) ≡ b
    → kind_width (cond b free (kind_kept t k mask)) ≡ count_read mask k (kind_width t)
kind_counted t k mask e true h = sym (count_none mask k (kind_width t) h)
kind_counted t k mask e false h = e

mutual
  pub width_projected : (n : Group) (k : ℕ) (mask : ℕ → Bool) → width (projected n k mask) ≡ count_read mask k (width n)
  width_projected (group s t) k mask =
      ap₂ (λ a b. a + b) (slot_kept s mask k) (kind_projected_width t (k + slot_width s) mask) ∙ sym (count_split mask k (slot_width s) (kind_width t))

  kind_projected_width : (t : Kind) (k : ℕ) (mask : ℕ → Bool) → kind_width (kind_projected t k mask) ≡ count_read mask k (kind_width t)
  kind_projected_width free k mask = kind_counted free k mask refl (none_read mask k 0) refl
  kind_projected_width (scalar q) k mask = scalar_kept (mask k) where
    scalar_kept : (m : Bool) → kind_width (cond (not m && true) free (scalar q)) ≡ cond m 1 0
    scalar_kept true = refl
    scalar_kept false = refl
  kind_projected_width (object_of gs) k mask = kind_counted (object_of gs) k mask (groups_projected_width gs k mask) (none_read mask k (groups_width gs)) refl
  kind_projected_width (list_of n) k mask = kind_counted (list_of n) k mask (width_projected n k mask) (none_read mask k (width n)) refl

  groups_projected_width : (gs : Groups) (k : ℕ) (mask : ℕ → Bool) → groups_width (groups_projected gs k mask) ≡ count_read mask k (groups_width gs)
  groups_projected_width no_groups k mask = refl
  groups_projected_width (field name n gs) k mask =
      ap₂ (λ a b. a + b) (width_projected n k mask) (groups_projected_width gs (k + width n) mask) ∙ sym (count_split mask k (width n) (groups_width gs))

-- An object or a list of which no leaf is read isn't there.

some_kept : (n : ℕ) (mask : ℕ → Bool) (k c : ℕ) → n ≡ count_read mask k c → none_read mask k c ≡ false → 1 ≤ n
some_kept n mask k c e h = subst (λ m. 1 ≤ m) (sym e) (count_some mask k c h)

leaves_kept : (t : Kind) (b : Bool) → (b ≡ false → KindHasLeaves t) → KindHasLeaves (cond b free t)
leaves_kept t true h = tt
leaves_kept t false h = h refl

mutual
  pub leaves_projected : (n : Group) (k : ℕ) (mask : ℕ → Bool) → HasLeaves (projected n k mask)
  leaves_projected (group s t) k mask = kind_leaves_projected t (k + slot_width s) mask

  kind_leaves_projected : (t : Kind) (k : ℕ) (mask : ℕ → Bool) → KindHasLeaves (kind_projected t k mask)
  kind_leaves_projected free k mask = leaves_kept free (none_read mask k 0) (λ e. tt)
  kind_leaves_projected (scalar q) k mask = leaves_kept (scalar q) (none_read mask k 1) (λ e. tt)
  kind_leaves_projected (object_of gs) k mask =
      leaves_kept (kind_kept (object_of gs) k mask) (none_read mask k (groups_width gs))
      (λ e. (some_kept (groups_width (groups_projected gs k mask)) mask k (groups_width gs) (groups_projected_width gs k mask) e, groups_leaves_projected gs k mask))
  kind_leaves_projected (list_of n) k mask =
      leaves_kept (kind_kept (list_of n) k mask) (none_read mask k (width n))
      (λ e. (some_kept (width (projected n k mask)) mask k (width n) (width_projected n k mask) e, leaves_projected n k mask))

  groups_leaves_projected : (gs : Groups) (k : ℕ) (mask : ℕ → Bool) → GroupsHaveLeaves (groups_projected gs k mask)
  groups_leaves_projected no_groups k mask = tt
  groups_leaves_projected (field name n gs) k mask = (leaves_projected n k mask, groups_leaves_projected gs (k + width n) mask)

-- It nests no deeper.

height_kept : (t u : Kind) (b : Bool) → kind_height u ≤ kind_height t → kind_height (cond b free u) ≤ kind_height t
height_kept t u true h = omega arith
height_kept t u false h = h

nesting_kept : (t u : Kind) (b : Bool) → kind_nesting u ≤ kind_nesting t → kind_nesting (cond b free u) ≤ kind_nesting t
nesting_kept t u true h = omega arith
nesting_kept t u false h = h

mutual
  pub height_projected : (n : Group) (k : ℕ) (mask : ℕ → Bool) → height (projected n k mask) ≤ height n
  height_projected (group s t) k mask = omega (arith, kind_height_projected t (k + slot_width s) mask)

  kind_height_projected : (t : Kind) (k : ℕ) (mask : ℕ → Bool) → kind_height (kind_projected t k mask) ≤ kind_height t
  kind_height_projected free k mask = height_kept free free (none_read mask k 0) (omega arith)
  kind_height_projected (scalar q) k mask = height_kept (scalar q) (scalar q) (none_read mask k 1) (omega arith)
  kind_height_projected (object_of gs) k mask = height_kept (object_of gs) (kind_kept (object_of gs) k mask) (none_read mask k (groups_width gs)) (groups_height_projected gs k mask)
  kind_height_projected (list_of n) k mask = height_kept (list_of n) (kind_kept (list_of n) k mask) (none_read mask k (width n)) (height_projected n k mask)

  groups_height_projected : (gs : Groups) (k : ℕ) (mask : ℕ → Bool) → groups_height (groups_projected gs k mask) ≤ groups_height gs
  groups_height_projected no_groups k mask = omega arith
  groups_height_projected (field name n gs) k mask = omega (arith, height_projected n k mask, groups_height_projected gs (k + width n) mask)

mutual
  pub nesting_projected : (n : Group) (k : ℕ) (mask : ℕ → Bool) → nesting (projected n k mask) ≤ nesting n
  nesting_projected (group s t) k mask = kind_nesting_projected t (k + slot_width s) mask

  kind_nesting_projected : (t : Kind) (k : ℕ) (mask : ℕ → Bool) → kind_nesting (kind_projected t k mask) ≤ kind_nesting t
  kind_nesting_projected free k mask = nesting_kept free free (none_read mask k 0) (omega arith)
  kind_nesting_projected (scalar q) k mask = nesting_kept (scalar q) (scalar q) (none_read mask k 1) (omega arith)
  kind_nesting_projected (object_of gs) k mask =
      nesting_kept (object_of gs) (kind_kept (object_of gs) k mask) (none_read mask k (groups_width gs)) (omega (arith, groups_nesting_projected gs k mask))
  kind_nesting_projected (list_of n) k mask = nesting_kept (list_of n) (kind_kept (list_of n) k mask) (none_read mask k (width n)) (omega (arith, nesting_projected n k mask))

  groups_nesting_projected : (gs : Groups) (k : ℕ) (mask : ℕ → Bool) → groups_nesting (groups_projected gs k mask) ≤ groups_nesting gs
  groups_nesting_projected no_groups k mask = omega arith
  groups_nesting_projected (field name n gs) k mask = omega (arith, nesting_projected n k mask, groups_nesting_projected gs (k + width n) mask)
