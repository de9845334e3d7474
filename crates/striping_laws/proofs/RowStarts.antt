-- In each leaf of its column a row begins once.
use Rattle.std.proofs.Common.{◌≡◌, ◌∙◌, refl, ap, ℕ, ◌+◌, ◌<◌, ◌≤◌, ◌==◌, cond, Bool, true, false, List, [], ◌∷◌, ◌++◌, length, arith}
use Rattle.std.specs.List.{AllByRecursion, count_by}
use Rattle.std.proofs.lemmas.Bool.Decides.{nat_tests}
use Rattle.std.proofs.lemmas.List.Sums.{sum_by-cons, sum_by-append}
use Rattle.vs_bytes.specs.declared.leaf_columns.Cell.TheVariants as leaf_cell
use Rattle.vs_bytes.specs.declared.leaf_columns.Entry.{Entry}
use Rattle.shred_schema.specs.Groups.{Group, width}
use Rattle.shred_schema.specs.Ranges.{is_among}
use Rattle.shred_schema.specs.Recs.{RowRec, absent, present}
use Rattle.shred_schema.specs.Shapes.{RowIsOf}
use Rattle.shred_schema.proofs.LeafRanges.{among_from}
use Rattle.level_striping.specs.Entries.{in_leaf, null_at, cell_at, entries, top_level, row_entries, stripes}
use Rattle.level_striping.proofs.OwnLeaves.{in_leaf_true, nil_right, outside}
use Rattle.record_assembly.proofs.Cutting.{AllAbove, Begins, begins_one, begins_lower}
use Rattle.record_assembly.proofs.Leaves.{begins}
use Rattle.record_assembly.proofs.Complete.{begins_at}
use Rattle.striping_laws.specs.Rows.{BeginWithRow}

-- 1 for an entry that begins a row
abbrev is_start : Entry → ℕ
is_start e = cond (e.rep == 0) 1 0

later : (n : ℕ) → 0 < n → (n == 0) ≡ false
later n h = grind (arith, nat_tests)

-- how many rows begin
abbrev starts : List Entry → ℕ
starts es = count_by (λ e. e.rep == 0) es

none_start : (es : List Entry) → AllAbove 0 es → starts es ≡ 0
none_start [] above = refl
none_start (e ∷ es) above = sum_by-cons is_start e es ∙ (rw (later e.rep above.0) (omega (arith, none_start es above.1)))

one_starts : (d : ℕ) (es : List Entry) → Begins 0 0 d es → starts es ≡ 1
one_starts d es b =
    let here : (b.first.rep == 0) ≡ true = rw b.rep refl in
    ap starts b.whole ∙ (sum_by-cons is_start b.first b.rest ∙ rw here (omega (arith, none_start b.rest b.above)))

row_begins : (optional : Bool) (n : Group) (row : RowRec) (j : ℕ) → RowIsOf optional n row → j < 1 + width n → Begins 0 0 0 (row_entries optional n 0 row j)
row_begins optional n absent j of inside = begins_at 0 0 0 _ _ (in_leaf_true _ (null_at 0 0) (among_from j 0 (1 + width n) (omega arith) (omega (arith, inside)))) (begins_one 0 0 0 _ refl (omega arith))
row_begins optional n (present meta x) j of inside = by (j == 0) refl
  where
    d : ℕ
    d = top_level optional

    low : j ≡ 0 → is_among j 1 (width n) ≡ false
    low e = rw e refl

    by : (b : Bool) → (j == 0) ≡ b → Begins 0 0 0 (in_leaf b (cell_at 0 d (leaf_cell.Bytes meta)) ++ entries n 1 0 0 d x j)
    by true e = begins_at 0 0 0 _ _ (nil_right _ _ (outside n 1 0 0 d x j (low (grind (arith, nat_tests))))) (begins_one 0 0 0 _ refl (omega arith))
    by false e =
        let later : 1 ≤ j = grind (arith, nat_tests) in
        begins_lower 0 0 0 0 d _ (omega arith) (omega arith) (begins n 1 0 0 d x j of (among_from j 1 (width n) later (omega (arith, inside))))

begins_row : (d : ℕ) (xs ys : List Entry) → Begins 0 0 d xs → BeginWithRow (xs ++ ys)
begins_row d xs ys b = rw b.whole b.rep

pub first_begins : (optional : Bool) (n : Group) (rows : List RowRec) (j : ℕ) → AllByRecursion (RowIsOf optional n) rows → 0 < length rows → j < 1 + width n → BeginWithRow (stripes optional n rows j)
first_begins optional n [] j of some inside = absurd (omega (arith, some))
first_begins optional n (row ∷ rows) j of some inside = begins_row 0 _ _ (row_begins optional n row j of.0 inside)

pub rows_begin : (optional : Bool) (n : Group) (rows : List RowRec) (j : ℕ) → AllByRecursion (RowIsOf optional n) rows → j < 1 + width n → starts (stripes optional n rows j) ≡ length rows
rows_begin optional n [] j of inside = refl
rows_begin optional n (row ∷ rows) j of inside =
    let first = one_starts 0 (row_entries optional n 0 row j) (row_begins optional n row j of.0 inside) in
    let rest = rows_begin optional n rows j of.1 inside in
    let both = sum_by-append is_start (row_entries optional n 0 row j) (stripes optional n rows j) in
    omega (arith, first, rest, both)
