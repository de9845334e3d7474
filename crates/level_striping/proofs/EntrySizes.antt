-- The entries of a record in one leaf are as few and as light as the text that it was made of allows.
use Rattle.std.proofs.Common.{◌≡◌, refl, ℕ, ◌+◌, ◌*◌, ◌≤◌, ◌==◌, Bool, true, false, List, [], ◌∷◌, ◌++◌, length-append, Option, Some, None, arith}
use Rattle.std.specs.List.{flat_map}
use Rattle.std.proofs.lemmas.Bool.{eqb-true}
use Rattle.vs_bytes.specs.declared.leaf_columns.Cell.{Cell}
use Rattle.vs_bytes.specs.declared.leaf_columns.Cell.TheVariants as leaf_cell
use Rattle.vs_bytes.specs.declared.leaf_columns.Entry.{Entry}
use Rattle.shred_schema.specs.declared.nodes.Slot.{Slot}
use Rattle.shred_schema.specs.declared.nodes.Slot.TheVariants.{Absent, Required, Optional}
use Rattle.shred_schema.specs.Groups.{Group, group, Kind, free, scalar, object_of, list_of, Groups, no_groups, field, slot_width, width}
use Rattle.shred_schema.specs.Ranges.{is_among}
use Rattle.shred_schema.specs.Recs.{Rec, rec, RecPart, empty, cell, fields, items, Recs, no_recs, recs, recs_in, RowRec, absent, present}
use Rattle.level_striping.specs.Entries.{in_leaf, null_at, cell_at, value_entries, entries, part_entries, fields_entries, top_level, row_entries, stripes}
use Rattle.level_striping.specs.Sizes.{cell_weight, weight_sum, AreFew, ValueIsWithin, CellIsWithin, ShareSize, IsWithin, PartIsWithin, FieldsAreWithin, RowIsWithin, RowsAreWithin}
use Rattle.level_striping.proofs.OwnLeaves.{nil_left, nil_right, value_outside, outside, value_alone, field_alone}

weight_append : (xs ys : List Entry) → weight_sum (xs ++ ys) ≡ weight_sum xs + weight_sum ys
weight_append [] ys = omega arith
weight_append (e ∷ es) ys = omega (arith, weight_append es ys)

few_none : (size : ℕ) → AreFew size []
few_none size = record { few = omega arith; light = omega arith }

few_more : (a b : ℕ) (es : List Entry) → a ≤ b → AreFew a es → AreFew b es
few_more a b es h f = record { few = omega (arith, f.few); light = omega (arith, f.light) }

few_both : (a b size : ℕ) (xs ys : List Entry) → a + b ≤ size → AreFew a xs → AreFew b ys → AreFew size (xs ++ ys)
few_both a b size xs ys h f g = record {
  few = omega (arith, f.few, g.few, length-append xs ys);
  light = omega (arith, f.light, g.light, weight_append xs ys);
}

few_null : (size r d : ℕ) → 1 ≤ size → AreFew size (null_at r d)
few_null size r d h = record { few = omega arith; light = omega arith }

few_cell : (size r d : ℕ) (c : Cell) → 1 ≤ size → 4 + cell_weight c ≤ 20 * size → AreFew size (cell_at r d c)
few_cell size r d c h w = record { few = omega arith; light = omega arith }

few_in : (size : ℕ) (b : Bool) (es : List Entry) → AreFew size es → AreFew size (in_leaf b es)
few_in size true es f = f
few_in size false es f = few_none size

few_same : (size : ℕ) (xs ys : List Entry) → xs ≡ ys → AreFew size ys → AreFew size xs
few_same size xs ys e f = rw e f

few_value : (s : Slot) (size r d : ℕ) (v : Option (List ℕ)) → 1 ≤ size → ValueIsWithin size v → AreFew size (value_entries s r d v)
few_value Absent size r d v h w = few_none size
few_value Required size r d None h w = few_null size r d h
few_value Required size r d (Some bytes) h w = few_cell size r d (leaf_cell.Bytes bytes) h (omega arith)
few_value Optional size r d None h w = few_null size r d h
few_value Optional size r d (Some bytes) h w = few_cell size r (d + 1) (leaf_cell.Bytes bytes) h (omega arith)

few_held : (size r d : ℕ) (c : Cell) → 1 ≤ size → CellIsWithin size c → AreFew size (cell_at r d c)
few_held size r d (leaf_cell.Bool b) h w = few_cell size r d (leaf_cell.Bool b) h (omega arith)
few_held size r d (leaf_cell.Num z) h w = few_cell size r d (leaf_cell.Num z) h (omega arith)
few_held size r d (leaf_cell.Bytes bytes) h w = few_cell size r d (leaf_cell.Bytes bytes) h (omega arith)

few_shared : (P : ℕ → Rec → Type 0) (g : Rec → List Entry) → ((a : ℕ) (x : Rec) → P a x → AreFew a (g x)) → (size : ℕ) (xs : Recs) → ShareSize P size xs → AreFew size (flat_map g (recs_in xs))
few_shared P g h size no_recs w = few_none size
few_shared P g h size (recs x xs) w = few_both w.0 w.1 size (g x) (flat_map g (recs_in xs)) w.2 (h w.0 x w.3) (few_shared P g h w.1 xs w.4)

mutual
  pub few_entries : (n : Group) (size k r m d : ℕ) (x : Rec) (j : ℕ) → IsWithin n size x → AreFew size (entries n k r m d x j)
  few_entries (group s t) size k r m d (rec v p) j w = by (is_among j k (slot_width s)) refl (few_part t size (k + slot_width s) r m d p j w.0 w.2)
    where
      by : (b : Bool) → is_among j k (slot_width s) ≡ b → AreFew size (part_entries t (k + slot_width s) r m d p j) → AreFew size (entries (group s t) k r m d (rec v p) j)
      by true e part = few_same size _ _ (value_alone s t k r m d v p j e) (few_in size (j == k) (value_entries s r d v) (few_value s size r d v w.0 w.1))
      by false e part = few_same size _ _ (nil_left _ _ (value_outside s k r d v j e)) part

  pub few_part : (t : Kind) (size k r m d : ℕ) (p : RecPart) (j : ℕ) → 1 ≤ size → PartIsWithin t size p → AreFew size (part_entries t k r m d p j)
  few_part free size k r m d p j h w = few_none size
  few_part (scalar q) size k r m d empty j h w = few_in size (j == k) _ (few_null size r d h)
  few_part (scalar q) size k r m d (cell c) j h w = few_in size (j == k) _ (few_held size r (d + 1) c h w)
  few_part (scalar q) size k r m d (fields xs) j h w = few_in size (j == k) _ (few_null size r d h)
  few_part (scalar q) size k r m d (items xs) j h w = few_in size (j == k) _ (few_null size r d h)
  few_part (object_of gs) size k r m d empty j h w = few_in size _ _ (few_null size r d h)
  few_part (object_of gs) size k r m d (cell c) j h w = few_in size _ _ (few_null size r d h)
  few_part (object_of gs) size k r m d (fields xs) j h w = few_fields gs size k r m (d + 1) xs j w
  few_part (object_of gs) size k r m d (items xs) j h w = few_in size _ _ (few_null size r d h)
  few_part (list_of n) size k r m d empty j h w = few_in size _ _ (few_null size r d h)
  few_part (list_of n) size k r m d (cell c) j h w = few_in size _ _ (few_null size r d h)
  few_part (list_of n) size k r m d (fields xs) j h w = few_in size _ _ (few_null size r d h)
  few_part (list_of n) size k r m d (items no_recs) j h w = few_in size _ _ (few_null size r (d + 1) h)
  few_part (list_of n) size k r m d (items (recs x xs)) j h w =
      few_both w.0 w.1 size _ _ w.2 (few_entries n w.0 k r (m + 1) (d + 2) x j w.3)
      (few_shared (IsWithin n) (λ y. entries n k (m + 1) (m + 1) (d + 2) y j) (λ a y o. few_entries n a k (m + 1) (m + 1) (d + 2) y j o) w.1 xs w.4)

  pub few_fields : (gs : Groups) (size k r m d : ℕ) (xs : Recs) (j : ℕ) → FieldsAreWithin gs size xs → AreFew size (fields_entries gs k r m d xs j)
  few_fields no_groups size k r m d xs j w = few_none size
  few_fields (field name n gs) size k r m d no_recs j w = few_none size
  few_fields (field name n gs) size k r m d (recs x xs) j w = by (is_among j k (width n)) refl (few_entries n size k r m d x j w.0) (few_fields gs size (k + width n) r m d xs j w.1)
    where
      by : (b : Bool) → is_among j k (width n) ≡ b → AreFew size (entries n k r m d x j) → AreFew size (fields_entries gs (k + width n) r m d xs j) → AreFew size (fields_entries (field name n gs) k r m d (recs x xs) j)
      by true e one rest = few_same size _ _ (field_alone name n gs k r m d x xs j e) one
      by false e one rest = few_same size _ _ (nil_left _ _ (outside n k r m d x j e)) rest

pub few_row : (o : Bool) (n : Group) (size r : ℕ) (row : RowRec) (j : ℕ) → RowIsWithin n size row → AreFew (size + 1) (row_entries o n r row j)
few_row o n size r absent j w = few_in (size + 1) _ _ (few_null (size + 1) r 0 (omega arith))
few_row o n size r (present meta x) j w = by (j == 0) refl (few_entries n size 1 r 0 (top_level o) x j w.1)
  where
    first : j ≡ 0 → entries n 1 r 0 (top_level o) x j ≡ []
    first e = outside n 1 r 0 (top_level o) x j (low e)
      where
        low : j ≡ 0 → is_among j 1 (width n) ≡ false
        low e = rw e refl

    by : (b : Bool) → (j == 0) ≡ b → AreFew size (entries n 1 r 0 (top_level o) x j) → AreFew (size + 1) (in_leaf b (cell_at r (top_level o) (leaf_cell.Bytes meta)) ++ entries n 1 r 0 (top_level o) x j)
    by true e rest = few_same (size + 1) _ _ (nil_right _ _ (first (eqb-true j 0 e))) (few_cell (size + 1) r (top_level o) (leaf_cell.Bytes meta) (omega arith) (omega (arith, w.0)))
    by false e rest = few_more size (size + 1) _ (omega arith) rest

pub few_rows : (o : Bool) (n : Group) (total : ℕ) (rows : List RowRec) (j : ℕ) → RowsAreWithin n total rows → AreFew total (stripes o n rows j)
few_rows o n total [] j w = few_none total
few_rows o n total (row ∷ rows) j w = few_both (w.0 + 1) w.1 total _ _ w.2 (few_row o n w.0 0 row j w.3) (few_rows o n w.1 rows j w.4)
