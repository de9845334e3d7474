-- The rows of a group, row by row.
use Rattle.std.proofs.Common.{◌≡◌, refl, sym, ap, ℕ, zero, suc, ◌+◌, Bool, true, false, List, [], ◌∷◌, Option, None, Some, Result, Ok, Err}
use Rattle.json_tree.specs.Json.{Json}
use Rattle.vs_bytes.specs.Outcome.{◌>>=◌}
use Rattle.vs_bytes.specs.declared.leaf_columns.Entry.{Entry}
use Rattle.vs_bytes.specs.declared.rule.Rule.{Rule}
use Rattle.vs_bytes.specs.declared.rule.Rule.TheVariants as rule
use Rattle.shred_schema.specs.Groups.{Group, width}
use Rattle.shred_schema.specs.Ranges.{is_among}
use Rattle.shred_schema.specs.Recs.{RowRec}
use Rattle.record_assembly.specs.Cuts.{first_item, later_items}
use Rattle.record_assembly.specs.Laws.{Have}
use Rattle.record_assembly.specs.Reading.{row_read}
use Rattle.record_assembly.proofs.Same.{row_same}
use Rattle.shred_schema.specs.Ranges.{none_read}
use Rattle.unshredder.specs.Rows.{row_seen}
use Rattle.group_reading.specs.declared.group_faults.PlaceInGroup.TheVariants as place
use Rattle.group_reading.specs.GroupRows.{at_place, or_mismatch, next_record, next_seen, rows_seen}

-- entries that agree in the leaves that are read give the same row, and the same rows

next_same : (mask : ℕ → Bool) (o : Bool) (n : Group) (es fs : ℕ → List Entry) → none_read mask 0 (1 + width n) ≡ false → Have mask 0 (1 + width n) es fs → next_seen mask o n es ≡ next_seen mask o n fs
unfolding next_seen
next_same mask o n es fs some same =
    ap (λ (row : Option RowRec). or_mismatch row >>= row_seen mask n) (row_same o n mask 0 (λ j. first_item 0 (es j)) (λ j. first_item 0 (fs j)) some (λ j a y. ap (first_item 0) (same j a y)))

pub rows_same : (mask : ℕ → Bool) (o : Bool) (n : Group) (count k : ℕ) (es fs : ℕ → List Entry) → none_read mask 0 (1 + width n) ≡ false → Have mask 0 (1 + width n) es fs → rows_seen mask o n count k es ≡ rows_seen mask o n count k fs
unfolding rows_seen
rows_same mask o n zero k es fs some same = refl
rows_same mask o n (suc count) k es fs some same =
    let next = next_same mask o n es fs some same in
    let later = rows_same mask o n count (k + 1) (λ j. later_items 0 (es j)) (λ j. later_items 0 (fs j)) some (λ j a y. ap (later_items 0) (same j a y)) in
    λ i. at_place (place.Row k) (next i) >>= λ row. later i >>= λ rows. Ok (row ∷ rows)

-- what comes of one row more

pub rows_end : (mask : ℕ → Bool) (o : Bool) (n : Group) (k : ℕ) (es : ℕ → List Entry) → rows_seen mask o n 0 k es ≡ Ok []
unfolding rows_seen
rows_end mask o n k es = refl

pub row_more : (mask : ℕ → Bool) (o : Bool) (n : Group) (left k : ℕ) (es fs : ℕ → List Entry) (row : Option Json) → none_read mask 0 (1 + width n) ≡ false →
    ((j : ℕ) → is_among j 0 (1 + width n) ≡ true → mask j ≡ true → fs j ≡ later_items 0 (es j)) →
    next_seen mask o n es ≡ Ok row →
    rows_seen mask o n (suc left) k es ≡ (rows_seen mask o n left (k + 1) fs >>= λ rows. Ok (row ∷ rows))
unfolding rows_seen
row_more mask o n left k es fs row some later next =
    let rest = rows_same mask o n left (k + 1) (λ j. later_items 0 (es j)) fs some (λ j a y. sym (later j a y)) in
    λ i. at_place (place.Row k) (next i) >>= λ found. rest i >>= λ rows. Ok (found ∷ rows)

pub row_refused : (mask : ℕ → Bool) (o : Bool) (n : Group) (left k : ℕ) (es : ℕ → List Entry) (broken : Rule) → next_seen mask o n es ≡ Err broken → rows_seen mask o n (suc left) k es ≡ Err (record { rule = broken; place = place.Row k })
unfolding rows_seen
row_refused mask o n left k es broken next =
    λ i. at_place (place.Row k) (next i) >>= λ found. rows_seen mask o n left (k + 1) (λ j. later_items 0 (es j)) >>= λ rows. Ok (found ∷ rows)

-- one row, by its record

pub record_found : (mask : ℕ → Bool) (o : Bool) (n : Group) (es : ℕ → List Entry) (x : RowRec) → row_read o n mask 0 (λ j. first_item 0 (es j)) ≡ Some x → next_record mask o n es ≡ Ok x
record_found mask o n es x read = ap or_mismatch read

pub no_record : (mask : ℕ → Bool) (o : Bool) (n : Group) (es : ℕ → List Entry) → row_read o n mask 0 (λ j. first_item 0 (es j)) ≡ None → next_record mask o n es ≡ Err rule.LevelMismatch
no_record mask o n es read = ap or_mismatch read

pub record_seen : (mask : ℕ → Bool) (o : Bool) (n : Group) (es : ℕ → List Entry) (found : Result RowRec Rule) → next_record mask o n es ≡ found → next_seen mask o n es ≡ (found >>= row_seen mask n)
unfolding next_seen
record_seen mask o n es found is = ap (λ (row : Result RowRec Rule). row >>= row_seen mask n) is
