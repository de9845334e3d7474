-- The leaves of a part: it gives no entries to any other leaf.
use Rattle.std.proofs.Common.{◌≡◌, ◌∙◌, refl, sym, ap, ℕ, ◌+◌, ◌==◌, Bool, true, false, List, [], ◌∷◌, ◌++◌, Option}
use Rattle.std.specs.List.{flat_map}
use Rattle.std.proofs.lemmas.List.{append-nil}
use Rattle.vs_bytes.specs.declared.leaf_columns.Entry.{Entry}
use Rattle.shred_schema.specs.declared.nodes.Slot.{Slot}
use Rattle.shred_schema.specs.declared.nodes.Slot.TheVariants.{Absent, Required, Optional}
use Rattle.shred_schema.specs.Groups.{Group, group, Kind, free, scalar, object_of, list_of, Groups, no_groups, field, slot_width, width, kind_width, groups_width}
use Rattle.shred_schema.specs.Ranges.{is_among}
use Rattle.shred_schema.specs.Recs.{Rec, rec, RecPart, empty, cell, fields, items, Recs, no_recs, recs, recs_in, recs_from}
use Rattle.shred_schema.proofs.LeafRanges.{among_one, left_not_right, right_not_left, out_left, out_right}
use Rattle.level_striping.specs.Entries.{in_leaf, null_at, value_entries, cell_entries, item_entries, entries, part_entries, fields_entries}

-- ---- lists

pub in_leaf_true : (b : Bool) (es : List Entry) → b ≡ true → in_leaf b es ≡ es
in_leaf_true b es e = rw e refl

pub in_leaf_false : (b : Bool) (es : List Entry) → b ≡ false → in_leaf b es ≡ []
in_leaf_false b es e = rw e refl

in_leaf_nil : (b : Bool) → in_leaf b [] ≡ []
in_leaf_nil true = refl
in_leaf_nil false = refl

both_nil : (xs ys : List Entry) → xs ≡ [] → ys ≡ [] → xs ++ ys ≡ []
both_nil xs ys a b = rw (a, b) refl

pub nil_left : (xs ys : List Entry) → xs ≡ [] → xs ++ ys ≡ ys
nil_left xs ys a = rw a refl

pub nil_right : (xs ys : List Entry) → ys ≡ [] → xs ++ ys ≡ xs
nil_right xs ys a = rw a (append-nil xs)

flat_nil : {A : Type 0} (g : A → List Entry) → ((x : A) → g x ≡ []) → (xs : List A) → flat_map g xs ≡ []
flat_nil g h [] = refl
flat_nil g h (x ∷ xs) = both_nil (g x) (flat_map g xs) (h x) (flat_nil g h xs)

items_nil : {A : Type 0} (none : List Entry) (f g : A → List Entry) → none ≡ [] → ((x : A) → f x ≡ []) → ((x : A) → g x ≡ []) → (xs : List A) → item_entries none f g xs ≡ []
items_nil none f g e h i [] = e
items_nil none f g e h i (x ∷ xs) = both_nil (f x) (flat_map g xs) (h x) (flat_nil g i xs)

pub in_from : (xs : List Rec) → recs_in (recs_from xs) ≡ xs
in_from [] = refl
in_from (x ∷ xs) = ap (λ ys. x ∷ ys) (in_from xs)

-- ---- no entries elsewhere

pub value_outside : (s : Slot) (k r d : ℕ) (v : Option (List ℕ)) (j : ℕ) → is_among j k (slot_width s) ≡ false → in_leaf (j == k) (value_entries s r d v) ≡ []
value_outside Absent k r d v j out = in_leaf_nil (j == k)
value_outside Required k r d v j out = in_leaf_false (j == k) (value_entries Required r d v) (sym (among_one j k) ∙ out)
value_outside Optional k r d v j out = in_leaf_false (j == k) (value_entries Optional r d v) (sym (among_one j k) ∙ out)

mutual
  pub outside : (n : Group) (k r m d : ℕ) (x : Rec) (j : ℕ) → is_among j k (width n) ≡ false → entries n k r m d x j ≡ []
  outside (group s t) k r m d (rec v p) j out = both_nil _ _ (value_outside s k r d v j (out_left j k (slot_width s) (kind_width t) out)) (part_outside t (k + slot_width s) r m d p j (out_right j k (slot_width s) (kind_width t) out))

  pub part_outside : (t : Kind) (k r m d : ℕ) (p : RecPart) (j : ℕ) → is_among j k (kind_width t) ≡ false → part_entries t k r m d p j ≡ []
  part_outside free k r m d p j out = refl
  part_outside (scalar q) k r m d p j out = in_leaf_false (j == k) (cell_entries r d p) (sym (among_one j k) ∙ out)
  part_outside (object_of gs) k r m d (fields xs) j out = fields_outside gs k r m (d + 1) xs j out
  part_outside (object_of gs) k r m d empty j out = in_leaf_false _ (null_at r d) out
  part_outside (object_of gs) k r m d (cell c) j out = in_leaf_false _ (null_at r d) out
  part_outside (object_of gs) k r m d (items xs) j out = in_leaf_false _ (null_at r d) out
  part_outside (list_of n) k r m d (items xs) j out = items_nil _ _ _ (in_leaf_false _ (null_at r (d + 1)) out) (λ x. outside n k r (m + 1) (d + 2) x j out) (λ x. outside n k (m + 1) (m + 1) (d + 2) x j out) (recs_in xs)
  part_outside (list_of n) k r m d empty j out = in_leaf_false _ (null_at r d) out
  part_outside (list_of n) k r m d (cell c) j out = in_leaf_false _ (null_at r d) out
  part_outside (list_of n) k r m d (fields xs) j out = in_leaf_false _ (null_at r d) out

  pub fields_outside : (gs : Groups) (k r m d : ℕ) (xs : Recs) (j : ℕ) → is_among j k (groups_width gs) ≡ false → fields_entries gs k r m d xs j ≡ []
  fields_outside no_groups k r m d xs j out = refl
  fields_outside (field name n gs) k r m d no_recs j out = refl
  fields_outside (field name n gs) k r m d (recs x xs) j out = both_nil _ _ (outside n k r m d x j (out_left j k (width n) (groups_width gs) out)) (fields_outside gs (k + width n) r m d xs j (out_right j k (width n) (groups_width gs) out))

-- ---- which part gives the entries of a leaf

module _ (s : Slot) (t : Kind) (k r m d : ℕ) (v : Option (List ℕ)) (p : RecPart) (j : ℕ) where
  pub value_alone : is_among j k (slot_width s) ≡ true → entries (group s t) k r m d (rec v p) j ≡ in_leaf (j == k) (value_entries s r d v)
  value_alone a = nil_right _ _ (part_outside t (k + slot_width s) r m d p j (left_not_right j k (slot_width s) (kind_width t) a))

  pub part_alone : is_among j (k + slot_width s) (kind_width t) ≡ true → entries (group s t) k r m d (rec v p) j ≡ part_entries t (k + slot_width s) r m d p j
  part_alone a = nil_left _ _ (value_outside s k r d v j (right_not_left j k (slot_width s) (kind_width t) a))

module _ (name : List ℕ) (n : Group) (gs : Groups) (k r m d : ℕ) (x : Rec) (xs : Recs) (j : ℕ) where
  pub field_alone : is_among j k (width n) ≡ true → fields_entries (field name n gs) k r m d (recs x xs) j ≡ entries n k r m d x j
  field_alone a = nil_right _ _ (fields_outside gs (k + width n) r m d xs j (left_not_right j k (width n) (groups_width gs) a))

  pub fields_alone : is_among j (k + width n) (groups_width gs) ≡ true → fields_entries (field name n gs) k r m d (recs x xs) j ≡ fields_entries gs (k + width n) r m d xs j
  fields_alone a = nil_left _ _ (outside n k r m d x j (right_not_left j k (width n) (groups_width gs) a))
