-- The rows of a group are those of the records that are read from its entries.
use Rattle.std.proofs.Common.{◌≡◌, ◌∙◌, refl, sym, ap, ℕ, suc, ◌+◌, Bool, true, false, cond, List, [], ◌∷◌, length, Option, Some, None, Ok}
use Rattle.vs_bytes.specs.Outcome.{◌>>=◌}
use Rattle.vs_bytes.specs.declared.leaf_columns.Entry.{Entry}
use Rattle.shred_schema.specs.Groups.{Group, width}
use Rattle.shred_schema.specs.Recs.{RowRec}
use Rattle.record_assembly.specs.Cuts.{first_item, later_items}
use Rattle.record_assembly.specs.Reading.{with_item, items_read, longest, are_nil, row_read, rows_read}
use Rattle.row_assembler.proofs.RowsInTurn.{rows_step}
use Rattle.unshredder.specs.Rows.{row_seen}
use Rattle.group_reading.specs.GroupRows.{at_place, or_mismatch, next_seen, rows_seen}
use Rattle.group_reading.specs.declared.group_faults.PlaceInGroup.TheVariants as place
use Rattle.reading_laws.specs.RowsMeant.{rows_meant}

-- an item and those after it, both of which are read
record BothRead {A : Type 0} (x : Option A) (xs : Option (List A)) (y : A) (ys : List A) : Type 0 where
  first : x ≡ Some y
  rest : xs ≡ Some ys

both_read : {A : Type 0} (x : Option A) (xs : Option (List A)) (y : A) (ys : List A) → with_item x xs ≡ Some (y ∷ ys) → BothRead x xs y ys
both_read None xs y ys h = absurd cc
both_read (Some a) None y ys h = absurd cc
both_read (Some a) (Some others) y ys h =
    let same : a ∷ others ≡ y ∷ ys = cc in
    let one : a ≡ y = cc in
    let rest : others ≡ ys = cc in
    record { first = ap Some one; rest = ap Some rest }

-- where a row is read, entries are left
some_left : (o : Bool) (n : Group) (mask : ℕ → Bool) (es : ℕ → List Entry) (q : RowRec) (qs : List RowRec) → rows_read o n mask es ≡ Some (q ∷ qs) → are_nil mask 0 (1 + width n) es ≡ false
some_left o n mask es q qs h = by (are_nil mask 0 (1 + width n) es) refl h
  where
    by : (b : Bool) → are_nil mask 0 (1 + width n) es ≡ b → cond b (Some []) (items_read (row_read o n mask) (are_nil mask 0 (1 + width n)) 0 (suc (longest 0 (1 + width n) es)) 0 es) ≡ Some (q ∷ qs) → b ≡ false
    by true is g = absurd cc
    by false is g = refl

next_is : (mask : ℕ → Bool) (o : Bool) (n : Group) (es : ℕ → List Entry) (q : RowRec) → row_read o n mask 0 (λ j. first_item 0 (es j)) ≡ Some q → next_seen mask o n es ≡ row_seen mask n q
unfolding next_seen
next_is mask o n es q h = ap (λ (found : Option RowRec). or_mismatch found >>= row_seen mask n) h

pub seen_as_read : (mask : ℕ → Bool) (o : Bool) (n : Group) (qs : List RowRec) (k : ℕ) (es : ℕ → List Entry) → rows_read o n mask es ≡ Some qs → rows_seen mask o n (length qs) k es ≡ rows_meant mask n k qs
unfolding rows_seen rows_meant
seen_as_read mask o n [] k es h = refl
seen_as_read mask o n (q ∷ qs) k es h =
    let both = both_read {A = RowRec} (row_read o n mask 0 (λ j. first_item 0 (es j))) (rows_read o n mask (λ j. later_items 0 (es j))) q qs (sym (rows_step o n mask es (some_left o n mask es q qs h)) ∙ h) in
    let first : next_seen mask o n es ≡ row_seen mask n q = next_is mask o n es q both.first in
    let rest : rows_seen mask o n (length qs) (k + 1) (λ j. later_items 0 (es j)) ≡ rows_meant mask n (k + 1) qs = seen_as_read mask o n qs (k + 1) (λ j. later_items 0 (es j)) both.rest in
    λ i. at_place (place.Row k) (first i) >>= λ row. rest i >>= λ rows. Ok (row ∷ rows)
