-- How many items are read doesn't depend on the bound, where that is above the longest leaf.
use Rattle.std.proofs.Common.{◌≡◌, ◌∙◌, refl, sym, ap, ℕ, zero, suc, ◌+◌, ◌-◌, ◌<◌, ◌≤◌, nat_lt, Bool, true, false, cond, List, [], ◌∷◌, length, Option, Some, arith}
use Rattle.vs_bytes.specs.declared.leaf_columns.Entry.{Entry}
use Rattle.shred_schema.specs.Ranges.{every}
use Rattle.record_assembly.specs.Cuts.{beyond, first_item, later_items, is_nil}
use Rattle.record_assembly.specs.Reading.{with_item, items_read, longest, are_nil}

beyond_short : (m : ℕ) (es : List Entry) → length (beyond m es) ≤ length es
beyond_short m [] = omega arith
beyond_short m (e ∷ es) = by (nat_lt m e.rep) (beyond_short m es)
  where
    by : (b : Bool) → length (beyond m es) ≤ length es → length (cond b (beyond m es) (e ∷ es)) ≤ suc (length es)
    by true h = omega (arith, h)
    by false h = omega arith

later_short : (m : ℕ) (es : List Entry) → length (later_items m es) ≤ length es - 1
later_short m [] = omega arith
later_short m (e ∷ es) = omega (arith, beyond_short m es)

longest_later : (k c m : ℕ) (es : ℕ → List Entry) → longest k c (λ j. later_items m (es j)) ≤ longest k c es - 1
longest_later k zero m es = omega arith
longest_later k (suc c) m es = omega (arith, later_short m (es k), longest_later (k + 1) c m es)

nil_one : (es : List Entry) → length es ≡ 0 → is_nil es ≡ true
nil_one [] h = refl
nil_one (e ∷ es) h = absurd (omega (arith, h))

nil_all : (k c : ℕ) (es : ℕ → List Entry) → longest k c es ≡ 0 → are_nil every k c es ≡ true
nil_all k zero es h = refl
nil_all k (suc c) es h = rw (nil_one (es k) (omega (arith, h)), nil_all (k + 1) c es (omega (arith, h))) refl

-- where items are left, some leaf had entries
some_left : (k c m : ℕ) (es : ℕ → List Entry) → are_nil every k c (λ j. later_items m (es j)) ≡ false → 1 ≤ longest k c es
some_left k c m es h = by (longest k c es) refl
  where
    by : (n : ℕ) → longest k c es ≡ n → 1 ≤ longest k c es
    by zero is = let all = nil_all k c (λ j. later_items m (es j)) (omega (arith, is, longest_later k c m es)) in let no : true ≡ false = sym all ∙ h in cc
    by (suc n) is = omega (arith, is)

module _ {A : Type 0} (f : ℕ → (ℕ → List Entry) → Option A) (k c m : ℕ) where
  pub bound_same : (n i r : ℕ) (es : ℕ → List Entry) → longest k c es < n → longest k c es < i → items_read f (are_nil every k c) m n r es ≡ items_read f (are_nil every k c) m i r es
  bound_same zero i r es g h = absurd (omega (arith, g))
  bound_same (suc n) zero r es g h = absurd (omega (arith, h))
  bound_same (suc n) (suc i) r es g h = by (are_nil every k c (λ j. later_items m (es j))) refl (λ some. bound_same n i m (λ j. later_items m (es j)) (omega (arith, g, some, longest_later k c m es)) (omega (arith, h, some, longest_later k c m es)))
    where
      by : (b : Bool) → are_nil every k c (λ j. later_items m (es j)) ≡ b → (1 ≤ longest k c es → items_read f (are_nil every k c) m n m (λ j. later_items m (es j)) ≡ items_read f (are_nil every k c) m i m (λ j. later_items m (es j))) → with_item (f r (λ j. first_item m (es j))) (cond (are_nil every k c (λ j. later_items m (es j))) (Some []) (items_read f (are_nil every k c) m n m (λ j. later_items m (es j)))) ≡ with_item (f r (λ j. first_item m (es j))) (cond (are_nil every k c (λ j. later_items m (es j))) (Some []) (items_read f (are_nil every k c) m i m (λ j. later_items m (es j))))
      by true is more = rw is refl
      by false is more = rw is (ap (with_item (f r (λ j. first_item m (es j)))) (more (some_left k c m es is)))
