-- How the entries of a part begin in each of its leaves: as those of an item.
use Rattle.std.proofs.Common.{◌≡◌, ◌∙◌, refl, sym, ℕ, ◌+◌, ◌≤◌, ◌==◌, ◌⊎◌, Bool, true, false, List, [], ◌∷◌, Option, Some, None, arith, inl, inr}
use Rattle.std.specs.List.{AllByRecursion}
use Rattle.std.proofs.lemmas.Bool.{both_ways}
use Rattle.std.proofs.lemmas.Bool.Decides.{nat_tests}
use Rattle.vs_bytes.specs.declared.leaf_columns.Cell.{Cell}
use Rattle.vs_bytes.specs.declared.leaf_columns.Entry.{Entry}
use Rattle.shred_schema.specs.declared.nodes.Slot.{Slot}
use Rattle.shred_schema.specs.declared.nodes.Slot.TheVariants.{Absent, Required, Optional}
use Rattle.shred_schema.specs.Groups.{Group, group, Kind, free, scalar, object_of, list_of, Groups, no_groups, field, slot_width, width, kind_width, groups_width}
use Rattle.shred_schema.specs.Ranges.{is_among}
use Rattle.shred_schema.specs.Recs.{Rec, rec, RecPart, empty, cell, fields, items, Recs, no_recs, recs, recs_in, recs_from, EachRec}
use Rattle.shred_schema.specs.Shapes.{Stands, IsOf, PartIsOf, FieldsAreOf}
use Rattle.shred_schema.proofs.LeafRanges.{among_one, among_none}
use Rattle.level_striping.specs.Entries.{in_leaf, null_at, cell_at, value_entries, entries, part_entries, fields_entries}
use Rattle.level_striping.proofs.OwnLeaves.{value_alone, part_alone, field_alone, fields_alone}
use Rattle.record_assembly.proofs.Cutting.{Begins, begins_one, begins_append, begins_lower, begins_above, flat_above}

pub each_in : (P : Rec → Type 0) (xs : Recs) → EachRec P xs → AllByRecursion P (recs_in xs)
each_in P no_recs h = tt
each_in P (recs x xs) h = (h.0, each_in P xs h.1)

pub each_from : (P : Rec → Type 0) (xs : List Rec) → AllByRecursion P xs → EachRec P (recs_from xs)
each_from P [] h = tt
each_from P (x ∷ xs) h = (h.0, each_from P xs h.1)

-- ---- ranges

not_left : (j k a b : ℕ) → is_among j k (a + b) ≡ true → is_among j k a ≡ false → is_among j (k + a) b ≡ true
not_left j k a b = grind (arith, nat_tests)

-- a leaf of two ranges is in the one or in the other
pub either : (j k a b : ℕ) → is_among j k (a + b) ≡ true → (is_among j k a ≡ true) ⊎ (is_among j (k + a) b ≡ true)
either j k a b h = by (is_among j k a) refl
  where
    by : (c : Bool) → is_among j k a ≡ c → (is_among j k a ≡ true) ⊎ (is_among j (k + a) b ≡ true)
    by true e = inl e
    by false e = inr (not_left j k a b h e)

-- ---- how entries begin

none_among : {X : Type 0} (j k : ℕ) → is_among j k 0 ≡ true → X
none_among j k a = absurd (both_ways (is_among j k 0) (among_none j k) a)

begins_there : (r m d : ℕ) (b : Bool) (es : List Entry) → b ≡ true → Begins r m d es → Begins r m d (in_leaf b es)
begins_there r m d b es e h = rw e h

begins_null : (r m d c : ℕ) (b : Bool) → b ≡ true → d ≤ c → Begins r m d (in_leaf b (null_at r c))
begins_null r m d c b e h = begins_there r m d b (null_at r c) e (begins_one r m d _ refl h)

begins_cell : (r m d c : ℕ) (b : Bool) (x : Cell) → b ≡ true → d ≤ c → Begins r m d (in_leaf b (cell_at r c x))
begins_cell r m d c b x e h = begins_there r m d b (cell_at r c x) e (begins_one r m d _ refl h)

value_begins : (s : Slot) (k r m d : ℕ) (v : Option (List ℕ)) (j : ℕ) → Stands s v → is_among j k (slot_width s) ≡ true → Begins r m d (in_leaf (j == k) (value_entries s r d v))
value_begins Absent k r m d v j of a = none_among j k a
value_begins Required k r m d None j of a = absurd of
value_begins Required k r m d (Some bytes) j of a = begins_cell r m d d (j == k) _ (sym (among_one j k) ∙ a) (omega arith)
value_begins Optional k r m d None j of a = begins_null r m d d (j == k) (sym (among_one j k) ∙ a) (omega arith)
value_begins Optional k r m d (Some bytes) j of a = begins_cell r m d (d + 1) (j == k) _ (sym (among_one j k) ∙ a) (omega arith)

-- what a part that is there adds to the definition level in each of its leaves, at least
abbrev pub part_level : RecPart → ℕ
part_level empty = 0
part_level (cell c) = 1
part_level (fields xs) = 1
part_level (items no_recs) = 1
part_level (items (recs x xs)) = 2

mutual
  pub begins : (n : Group) (k r m d : ℕ) (x : Rec) (j : ℕ) → IsOf n x → is_among j k (width n) ≡ true → Begins r m d (entries n k r m d x j)
  begins (group s t) k r m d (rec v p) j of a =
      elim (either j k (slot_width s) (kind_width t) a) [
        | inl b ↦ rw (value_alone s t k r m d v p j b) (value_begins s k r m d v j of.0 b)
        | inr b ↦ rw (part_alone s t k r m d v p j b) (begins_lower r m m d (d + part_level p) _ (omega arith) (omega arith) (part_begins t (k + slot_width s) r m d p j of.1 b))
      ]

  pub part_begins : (t : Kind) (k r m d : ℕ) (p : RecPart) (j : ℕ) → PartIsOf t p → is_among j k (kind_width t) ≡ true → Begins r m (d + part_level p) (part_entries t k r m d p j)
  part_begins free k r m d p j of a = none_among j k a
  part_begins (scalar q) k r m d empty j of a = begins_null r m (d + 0) d (j == k) (sym (among_one j k) ∙ a) (omega arith)
  part_begins (scalar q) k r m d (cell c) j of a = begins_cell r m (d + 1) (d + 1) (j == k) c (sym (among_one j k) ∙ a) (omega arith)
  part_begins (scalar q) k r m d (fields xs) j of a = absurd of
  part_begins (scalar q) k r m d (items xs) j of a = absurd of
  part_begins (object_of gs) k r m d empty j of a = begins_null r m (d + 0) d _ a (omega arith)
  part_begins (object_of gs) k r m d (cell c) j of a = absurd of
  part_begins (object_of gs) k r m d (fields xs) j of a = fields_begin gs k r m (d + 1) xs j of a
  part_begins (object_of gs) k r m d (items xs) j of a = absurd of
  part_begins (list_of n) k r m d empty j of a = begins_null r m (d + 0) d _ a (omega arith)
  part_begins (list_of n) k r m d (cell c) j of a = absurd of
  part_begins (list_of n) k r m d (fields xs) j of a = absurd of
  part_begins (list_of n) k r m d (items no_recs) j of a = begins_null r m (d + 1) (d + 1) _ a (omega arith)
  part_begins (list_of n) k r m d (items (recs x xs)) j of a =
      begins_append r m (d + 2) _ _
      (begins_lower r m (m + 1) (d + 2) (d + 2) _ (omega arith) (omega arith) (begins n k r (m + 1) (d + 2) x j of.0 a))
      (flat_above (IsOf n) m (λ y. entries n k (m + 1) (m + 1) (d + 2) y j) (λ y o. begins_above (m + 1) m (m + 1) (d + 2) _ (omega arith) (omega arith) (begins n k (m + 1) (m + 1) (d + 2) y j o a)) (recs_in xs) (each_in (IsOf n) xs of.1))

  pub fields_begin : (gs : Groups) (k r m d : ℕ) (xs : Recs) (j : ℕ) → FieldsAreOf gs xs → is_among j k (groups_width gs) ≡ true → Begins r m d (fields_entries gs k r m d xs j)
  fields_begin no_groups k r m d xs j of a = none_among j k a
  fields_begin (field name n gs) k r m d no_recs j of a = absurd of
  fields_begin (field name n gs) k r m d (recs x xs) j of a =
      elim (either j k (width n) (groups_width gs) a) [
        | inl b ↦ rw (field_alone name n gs k r m d x xs j b) (begins n k r m d x j of.0 b)
        | inr b ↦ rw (fields_alone name n gs k r m d x xs j b) (fields_begin gs (k + width n) r m d xs j of.1 b)
      ]
