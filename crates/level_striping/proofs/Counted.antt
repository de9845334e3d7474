-- The entries of a record are as many as they are counted to be.
use Rattle.std.proofs.Common.{◌≡◌, ◌∙◌, refl, sym, ap, ap₂, ℕ, zero, suc, ◌+◌, ◌==◌, Bool, true, List, ◌++◌, length, length-append, Option, Some, None, arith}
use Rattle.std.specs.List.{flat_map}
use Rattle.std.proofs.lemmas.Bool.Decides.{nat_tests}
use Rattle.vs_bytes.specs.declared.leaf_columns.Entry.{Entry}
use Rattle.shred_schema.specs.declared.nodes.Slot.{Slot}
use Rattle.shred_schema.specs.declared.nodes.Slot.TheVariants.{Absent, Required, Optional}
use Rattle.shred_schema.specs.Groups.{Group, group, Kind, free, scalar, object_of, list_of, Groups, no_groups, field, slot_width, width, kind_width, groups_width}
use Rattle.shred_schema.specs.Ranges.{is_among}
use Rattle.shred_schema.specs.Recs.{Rec, rec, RecPart, empty, cell, fields, items, Recs, no_recs, recs, recs_in, RowRec, absent, present}
use Rattle.shred_schema.proofs.LeafRanges.{among_one, among_first, among_rest, left_not_right, right_not_left}
use Rattle.level_striping.specs.Counts.{leaf_sum, items_count, entry_count, part_count, fields_count, row_count}
use Rattle.level_striping.specs.Entries.{in_leaf, null_at, value_entries, cell_entries, entries, part_entries, fields_entries, top_level, row_entries}
use Rattle.level_striping.proofs.OwnLeaves.{in_leaf_true, value_alone, part_alone, field_alone, fields_alone, outside, nil_left, nil_right, in_leaf_false}

-- ---- sums

sum_same : (k c : ℕ) (f g : ℕ → ℕ) → ((j : ℕ) → is_among j k c ≡ true → f j ≡ g j) → leaf_sum k c f ≡ leaf_sum k c g
sum_same k zero f g h = refl
sum_same k (suc c) f g h = ap₂ (λ a b. a + b) (h k (among_first k c)) (sum_same (k + 1) c f g (λ j a. h j (among_rest j k c a)))

sum_split : (k a b : ℕ) (f : ℕ → ℕ) → leaf_sum k (a + b) f ≡ leaf_sum k a f + leaf_sum (k + a) b f
sum_split k zero b f =
    let none : 0 + b ≡ b = omega arith in
    let place : k + 0 ≡ k = omega arith in
    rw (none, place) (omega arith)
sum_split k (suc a) b f =
    let more : suc a + b ≡ suc (a + b) = omega arith in
    let place : k + 1 + a ≡ k + suc a = omega arith in
    rw more (omega (arith, sum_split (k + 1) a b f, ap (λ i. leaf_sum i b f) place))

sum_one : (k : ℕ) (f : ℕ → ℕ) → leaf_sum k 1 f ≡ f k
sum_one k f = omega arith

sum_ones : (k c : ℕ) → leaf_sum k c (λ j. 1) ≡ c
sum_ones k zero = refl
sum_ones k (suc c) = omega (arith, sum_ones (k + 1) c)

sum_none : (k c : ℕ) → leaf_sum k c (λ j. 0) ≡ 0
sum_none k zero = refl
sum_none k (suc c) = omega (arith, sum_none (k + 1) c)

sum_both : (k c : ℕ) (f g : ℕ → ℕ) → leaf_sum k c (λ j. f j + g j) ≡ leaf_sum k c f + leaf_sum k c g
sum_both k zero f g = refl
sum_both k (suc c) f g = omega (arith, sum_both (k + 1) c f g)

-- each leaf has one entry
each_one : (k c : ℕ) (es : ℕ → List Entry) → ((j : ℕ) → is_among j k c ≡ true → length (es j) ≡ 1) → leaf_sum k c (λ j. length (es j)) ≡ c
each_one k c es h = sum_same k c (λ j. length (es j)) (λ j. 1) h ∙ sum_ones k c

value_one : (s : Slot) (r d : ℕ) (v : Option (List ℕ)) (k j : ℕ) → is_among j k (slot_width s) ≡ true → length (in_leaf (j == k) (value_entries s r d v)) ≡ 1
value_one Absent r d v k j a = elim (none_in j k a) [ ]
  where
    none_in : (j k : ℕ) → is_among j k 0 ≡ true → ⊥
    none_in j k = grind (arith, nat_tests)
value_one Required r d None k j a = rw (sym (among_one j k) ∙ a) refl
value_one Required r d (Some bytes) k j a = rw (sym (among_one j k) ∙ a) refl
value_one Optional r d None k j a = rw (sym (among_one j k) ∙ a) refl
value_one Optional r d (Some bytes) k j a = rw (sym (among_one j k) ∙ a) refl

null_one : (b : Bool) (r d : ℕ) → b ≡ true → length (in_leaf b (null_at r d)) ≡ 1
null_one b r d e = rw e refl

cell_one : (r d : ℕ) (p : RecPart) → length (cell_entries r d p) ≡ 1
cell_one r d (cell c) = refl
cell_one r d empty = refl
cell_one r d (fields xs) = refl
cell_one r d (items xs) = refl

-- the later items of a list
later_counted : (k c : ℕ) (gives : Rec → ℕ → List Entry) (f : Rec → ℕ) → ((x : Rec) → leaf_sum k c (λ j. length (gives x j)) ≡ f x) → (xs : Recs) → leaf_sum k c (λ j. length (flat_map (λ x. gives x j) (recs_in xs))) ≡ items_count f xs
later_counted k c gives f h no_recs = sum_none k c
later_counted k c gives f h (recs x xs) =
    sum_same k c (λ j. length (gives x j ++ flat_map (λ y. gives y j) (recs_in xs))) (λ j. length (gives x j) + length (flat_map (λ y. gives y j) (recs_in xs))) (λ j a. length-append (gives x j) (flat_map (λ y. gives y j) (recs_in xs)))
    ∙ (sum_both k c (λ j. length (gives x j)) (λ j. length (flat_map (λ y. gives y j) (recs_in xs)))
    ∙ ap₂ (λ a b. a + b) (h x) (later_counted k c gives f h xs))

list_counted : (k c : ℕ) (first gives : Rec → ℕ → List Entry) (f : Rec → ℕ) → ((x : Rec) → leaf_sum k c (λ j. length (first x j)) ≡ f x) → ((x : Rec) → leaf_sum k c (λ j. length (gives x j)) ≡ f x) → (x : Rec) (xs : Recs) → leaf_sum k c (λ j. length (first x j ++ flat_map (λ y. gives y j) (recs_in xs))) ≡ f x + items_count f xs
list_counted k c first gives f g h x xs =
    sum_same k c (λ j. length (first x j ++ flat_map (λ y. gives y j) (recs_in xs))) (λ j. length (first x j) + length (flat_map (λ y. gives y j) (recs_in xs))) (λ j a. length-append (first x j) (flat_map (λ y. gives y j) (recs_in xs)))
    ∙ (sum_both k c (λ j. length (first x j)) (λ j. length (flat_map (λ y. gives y j) (recs_in xs)))
    ∙ ap₂ (λ a b. a + b) (g x) (later_counted k c gives f h xs))

-- ---- records

mutual
  pub counted : (n : Group) (k r m d : ℕ) (x : Rec) → leaf_sum k (width n) (λ j. length (entries n k r m d x j)) ≡ entry_count n x
  counted (group s t) k r m d (rec v p) =
      sum_split k (slot_width s) (kind_width t) (λ j. length (entries (group s t) k r m d (rec v p) j))
      ∙ ap₂ (λ a b. a + b)
      (each_one k (slot_width s) (entries (group s t) k r m d (rec v p)) (λ j a. ap length (value_alone s t k r m d v p j a) ∙ value_one s r d v k j a))
      (sum_same (k + slot_width s) (kind_width t) (λ j. length (entries (group s t) k r m d (rec v p) j)) (λ j. length (part_entries t (k + slot_width s) r m d p j)) (λ j a. ap length (part_alone s t k r m d v p j a)) ∙ part_counted t (k + slot_width s) r m d p)

  pub part_counted : (t : Kind) (k r m d : ℕ) (p : RecPart) → leaf_sum k (kind_width t) (λ j. length (part_entries t k r m d p j)) ≡ part_count t p
  part_counted free k r m d p = refl
  part_counted (scalar q) k r m d p = each_one k 1 (λ j. in_leaf (j == k) (cell_entries r d p)) (λ j a. ap length (in_leaf_true (j == k) _ (sym (among_one j k) ∙ a)) ∙ cell_one r d p)
  part_counted (object_of gs) k r m d (fields xs) = fields_counted gs k r m (d + 1) xs
  part_counted (object_of gs) k r m d empty = each_one k (groups_width gs) _ (λ j a. null_one _ r d a)
  part_counted (object_of gs) k r m d (cell c) = each_one k (groups_width gs) _ (λ j a. null_one _ r d a)
  part_counted (object_of gs) k r m d (items xs) = each_one k (groups_width gs) _ (λ j a. null_one _ r d a)
  part_counted (list_of n) k r m d (items no_recs) = each_one k (width n) _ (λ j a. null_one _ r (d + 1) a)
  part_counted (list_of n) k r m d (items (recs x xs)) =
      list_counted k (width n) (λ y j. entries n k r (m + 1) (d + 2) y j) (λ y j. entries n k (m + 1) (m + 1) (d + 2) y j) (entry_count n) (λ y. counted n k r (m + 1) (d + 2) y) (λ y. counted n k (m + 1) (m + 1) (d + 2) y) x xs
  part_counted (list_of n) k r m d empty = each_one k (width n) _ (λ j a. null_one _ r d a)
  part_counted (list_of n) k r m d (cell c) = each_one k (width n) _ (λ j a. null_one _ r d a)
  part_counted (list_of n) k r m d (fields xs) = each_one k (width n) _ (λ j a. null_one _ r d a)

  pub fields_counted : (gs : Groups) (k r m d : ℕ) (xs : Recs) → leaf_sum k (groups_width gs) (λ j. length (fields_entries gs k r m d xs j)) ≡ fields_count gs xs
  fields_counted no_groups k r m d xs = refl
  fields_counted (field name n gs) k r m d no_recs = sum_none k (width n + groups_width gs)
  fields_counted (field name n gs) k r m d (recs x xs) =
      sum_split k (width n) (groups_width gs) (λ j. length (fields_entries (field name n gs) k r m d (recs x xs) j))
      ∙ ap₂ (λ a b. a + b)
      (sum_same k (width n) (λ j. length (fields_entries (field name n gs) k r m d (recs x xs) j)) (λ j. length (entries n k r m d x j)) (λ j a. ap length (field_alone name n gs k r m d x xs j a)) ∙ counted n k r m d x)
      (sum_same (k + width n) (groups_width gs) (λ j. length (fields_entries (field name n gs) k r m d (recs x xs) j)) (λ j. length (fields_entries gs (k + width n) r m d xs j)) (λ j a. ap length (fields_alone name n gs k r m d x xs j a)) ∙ fields_counted gs (k + width n) r m d xs)

-- ---- rows

pub row_counted : (o : Bool) (n : Group) (r : ℕ) (row : RowRec) → leaf_sum 0 (1 + width n) (λ j. length (row_entries o n r row j)) ≡ row_count n row
row_counted o n r absent = each_one 0 (1 + width n) _ (λ j a. null_one _ r 0 a)
row_counted o n r (present meta x) =
    sum_split 0 1 (width n) (λ j. length (row_entries o n r (present meta x) j))
    ∙ ap₂ (λ a b. a + b)
    (each_one 0 1 (row_entries o n r (present meta x)) (λ j a. ap length (nil_right _ _ (outside n 1 r 0 (top_level o) x j (left_not_right j 0 1 (width n) a)) ∙ in_leaf_true (j == 0) _ (sym (among_one j 0) ∙ a))))
    (sum_same 1 (width n) (λ j. length (row_entries o n r (present meta x) j)) (λ j. length (entries n 1 r 0 (top_level o) x j)) (λ j a. ap length (nil_left _ _ (in_leaf_false (j == 0) _ (sym (among_one j 0) ∙ right_not_left j 0 1 (width n) a)))) ∙ counted n 1 r 0 (top_level o) x)

pub absent_count : (t : Kind) → part_count t empty ≡ kind_width t
absent_count free = refl
absent_count (scalar q) = refl
absent_count (object_of gs) = refl
absent_count (list_of n) = refl
