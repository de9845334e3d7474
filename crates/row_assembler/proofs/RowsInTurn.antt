-- All rows are the first one and those after it.
use Rattle.std.proofs.Common.{◌≡◌, ◌∙◌, refl, sym, ap, ℕ, zero, suc, ◌+◌, ◌<◌, ◌≤◌, Bool, true, false, cond, List, [], Option, Some, arith}
use Rattle.vs_bytes.specs.declared.leaf_columns.Entry.{Entry}
use Rattle.shred_schema.specs.Groups.{Group, width}
use Rattle.shred_schema.specs.Ranges.{every}
use Rattle.shred_schema.specs.Recs.{RowRec}
use Rattle.shred_schema.proofs.ReadLeaves.{read_at, read_from}
use Rattle.record_assembly.specs.Cuts.{first_item, later_items, is_nil}
use Rattle.record_assembly.specs.Reading.{with_item, items_read, longest, are_nil, row_read, rows_read}
use Rattle.record_taking.proofs.ItemTurns.{longest_later, nil_all}

some_more : (mask : ℕ → Bool) (k c m : ℕ) (es : ℕ → List Entry) → are_nil mask k c (λ j. later_items m (es j)) ≡ false → 1 ≤ longest k c es
some_more mask k c m es h = by (longest k c es) refl
  where
    by : (n : ℕ) → longest k c es ≡ n → 1 ≤ longest k c es
    by zero is =
        let all : are_nil every k c (λ j. later_items m (es j)) ≡ true = nil_all k c (λ j. later_items m (es j)) (omega (arith, is, longest_later k c m es)) in
        let none = read_from mask k c (λ j. is_nil (later_items m (es j))) (λ j a y. read_at every k c (λ i. is_nil (later_items m (es i))) j all a refl) in
        let no : true ≡ false = sym none ∙ h in cc
    by (suc n) is = omega (arith, is)

-- how many items are read doesn't depend on the bound, where that is above the longest leaf
module _ {A : Type 0} (f : ℕ → (ℕ → List Entry) → Option A) (mask : ℕ → Bool) (k c m : ℕ) where
  bound_same : (n i r : ℕ) (es : ℕ → List Entry) → longest k c es < n → longest k c es < i → items_read f (are_nil mask k c) m n r es ≡ items_read f (are_nil mask k c) m i r es
  bound_same zero i r es g h = absurd (omega (arith, g))
  bound_same (suc n) zero r es g h = absurd (omega (arith, h))
  bound_same (suc n) (suc i) r es g h = ap (λ l. with_item (f r (λ j. first_item m (es j))) l) (by (are_nil mask k c (λ j. later_items m (es j))) refl (λ some. bound_same n i m (λ j. later_items m (es j)) (omega (arith, g, some, longest_later k c m es)) (omega (arith, h, some, longest_later k c m es))))
    where
      by : (b : Bool) → are_nil mask k c (λ j. later_items m (es j)) ≡ b → (1 ≤ longest k c es → items_read f (are_nil mask k c) m n m (λ j. later_items m (es j)) ≡ items_read f (are_nil mask k c) m i m (λ j. later_items m (es j)))
          → cond b (Some []) (items_read f (are_nil mask k c) m n m (λ j. later_items m (es j))) ≡ cond b (Some []) (items_read f (are_nil mask k c) m i m (λ j. later_items m (es j)))
      by true is more = refl
      by false is more = more (some_more mask k c m es is)

pub rows_step : (o : Bool) (n : Group) (mask : ℕ → Bool) (es : ℕ → List Entry) → are_nil mask 0 (1 + width n) es ≡ false → rows_read o n mask es ≡ with_item (row_read o n mask 0 (λ j. first_item 0 (es j))) (rows_read o n mask (λ j. later_items 0 (es j)))
rows_step o n mask es some =
    ap (λ b. cond b (Some []) (items_read (row_read o n mask) (are_nil mask 0 (1 + width n)) 0 (suc (longest 0 (1 + width n) es)) 0 es)) some
    ∙ ap (λ l. with_item (row_read o n mask 0 (λ j. first_item 0 (es j))) l) (by (are_nil mask 0 (1 + width n) (λ j. later_items 0 (es j))) refl)
  where
    by : (b : Bool) → are_nil mask 0 (1 + width n) (λ j. later_items 0 (es j)) ≡ b
        → cond b (Some []) (items_read (row_read o n mask) (are_nil mask 0 (1 + width n)) 0 (longest 0 (1 + width n) es) 0 (λ j. later_items 0 (es j)))
        ≡ cond b (Some []) (items_read (row_read o n mask) (are_nil mask 0 (1 + width n)) 0 (suc (longest 0 (1 + width n) (λ j. later_items 0 (es j)))) 0 (λ j. later_items 0 (es j)))
    by true is = refl
    by false is = bound_same {A = RowRec} (row_read o n mask) mask 0 (1 + width n) 0 (longest 0 (1 + width n) es) (suc (longest 0 (1 + width n) (λ j. later_items 0 (es j)))) 0 (λ j. later_items 0 (es j)) (omega (arith, some_more mask 0 (1 + width n) 0 es is, longest_later 0 (1 + width n) 0 es)) (omega arith)
