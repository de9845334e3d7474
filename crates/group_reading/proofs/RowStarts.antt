-- How many rows begin in entries, row by row.
use Rattle.std.proofs.Common.{◌≡◌, ◌∙◌, refl, sym, ap, ℕ, suc, ◌+◌, ◌==◌, nat_lt, Bool, true, false, cond, ◌&&◌, List, [], ◌∷◌, zero-add, arith}
use Rattle.std.proofs.lemmas.Bool.{and_parts}
use Rattle.std.proofs.lemmas.Bool.Decides.{nat_tests}
use Rattle.std.proofs.lemmas.List.Sums.{sum_by-cons}
use Rattle.vs_bytes.specs.declared.leaf_columns.Entry.{Entry}
use Rattle.record_assembly.specs.Cuts.{beyond, later_items, is_nil}
use Rattle.group_reading.specs.ChunkEntries.{row_starts, begins_row, has_rows}

starts_more : (e : Entry) (es : List Entry) → row_starts (e ∷ es) ≡ cond (e.rep == 0) 1 0 + row_starts es
starts_more e es = sum_by-cons (λ (x : Entry). cond (x.rep == 0) 1 0) e es

-- an entry that goes on with a row
starts_same : (e : Entry) (es : List Entry) → nat_lt 0 e.rep ≡ true → row_starts (e ∷ es) ≡ row_starts es
starts_same e es goes =
    let test : (e.rep == 0) ≡ false = grind (arith, nat_tests) in
    starts_more e es ∙ (ap (λ b. cond b 1 0 + row_starts es) test ∙ zero-add (row_starts es))

starts_beyond : (es : List Entry) → row_starts (beyond 0 es) ≡ row_starts es
starts_beyond [] = refl
starts_beyond (e ∷ es) = by (nat_lt 0 e.rep) refl (starts_beyond es)
  where
    by : (b : Bool) → nat_lt 0 e.rep ≡ b → row_starts (beyond 0 es) ≡ row_starts es → row_starts (cond b (beyond 0 es) (e ∷ es)) ≡ row_starts (e ∷ es)
    by true goes rest = rest ∙ sym (starts_same e es goes)
    by false goes rest = refl

begins_beyond : (es : List Entry) → begins_row (beyond 0 es) ≡ true
begins_beyond [] = refl
begins_beyond (e ∷ es) = by (nat_lt 0 e.rep) refl (begins_beyond es)
  where
    by : (b : Bool) → nat_lt 0 e.rep ≡ b → begins_row (beyond 0 es) ≡ true → begins_row (cond b (beyond 0 es) (e ∷ es)) ≡ true
    by true goes rest = rest
    by false goes rest = grind (arith, nat_tests)

pub some_row : (rows : ℕ) (es : List Entry) → has_rows (suc rows) es ≡ true → is_nil es ≡ false
some_row rows [] h = let parts = and_parts true (0 == suc rows) h in absurd (grind (arith, nat_tests))
some_row rows (e ∷ es) h = refl

pub later_rows : (rows : ℕ) (es : List Entry) → has_rows (suc rows) es ≡ true → has_rows rows (later_items 0 es) ≡ true
later_rows rows [] h = let parts = and_parts true (0 == suc rows) h in absurd (grind (arith, nat_tests))
later_rows rows (e ∷ es) h =
    let parts = and_parts (e.rep == 0) (row_starts (e ∷ es) == suc rows) h in
    let sum : row_starts (e ∷ es) ≡ 1 + row_starts es = starts_more e es ∙ ap (λ b. cond b 1 0 + row_starts es) parts.0 in
    let test : (row_starts es == rows) ≡ true = grind (arith, nat_tests) in
    ap (λ b. b && (row_starts (beyond 0 es) == rows)) (begins_beyond es) ∙ (ap (λ n. n == rows) (starts_beyond es) ∙ test)
