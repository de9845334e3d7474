-- Items of a list cut off inside an item of a list round it: m is the outer level, n the inner one.
use Rattle.std.proofs.Common.{◌≡◌, refl, sym, ap, ℕ, ◌≤◌, nat_lt, Bool, true, false, cond, List, [], ◌∷◌, arith}
use Rattle.std.proofs.lemmas.Bool.Decides.{nat_tests}
use Rattle.vs_bytes.specs.declared.leaf_columns.Entry.{Entry}
use Rattle.record_assembly.specs.Cuts.{until, beyond, first_item, later_items}

above_both : (m n x : ℕ) → m ≤ n → nat_lt n x ≡ true → nat_lt m x ≡ true
above_both m n x h = grind (arith, nat_tests)

until_inside : (m n : ℕ) → m ≤ n → (es : List Entry) → until n (until m es) ≡ until n es
until_inside m n h [] = refl
until_inside m n h (e ∷ es) = by (nat_lt m e.rep) (nat_lt n e.rep) refl (above_both m n e.rep h) (until_inside m n h es)
  where
    by : (b c : Bool) → nat_lt n e.rep ≡ c → (c ≡ true → b ≡ true) → until n (until m es) ≡ until n es → until n (cond b (e ∷ until m es) []) ≡ cond c (e ∷ until n es) []
    by true true is both ih = rw is (ap (λ zs. e ∷ zs) ih)
    by true false is both ih = rw is refl
    by false true is both ih = let no : false ≡ true = both refl in cc
    by false false is both ih = refl

beyond_beyond : (m n : ℕ) → m ≤ n → (es : List Entry) → beyond m (beyond n es) ≡ beyond m es
beyond_beyond m n h [] = refl
beyond_beyond m n h (e ∷ es) = by (nat_lt m e.rep) (nat_lt n e.rep) refl (above_both m n e.rep h) (beyond_beyond m n h es)
  where
    by : (b c : Bool) → nat_lt m e.rep ≡ b → (c ≡ true → b ≡ true) → beyond m (beyond n es) ≡ beyond m es → beyond m (cond c (beyond n es) (e ∷ es)) ≡ cond b (beyond m es) (e ∷ es)
    by true true is both ih = ih
    by true false is both ih = rw is refl
    by false true is both ih = let no : false ≡ true = both refl in cc
    by false false is both ih = rw is refl

until_beyond : (m n : ℕ) → m ≤ n → (es : List Entry) → until m (beyond n es) ≡ beyond n (until m es)
until_beyond m n h [] = refl
until_beyond m n h (e ∷ es) = by (nat_lt m e.rep) (nat_lt n e.rep) refl refl (above_both m n e.rep h) (until_beyond m n h es)
  where
    by : (b c : Bool) → nat_lt m e.rep ≡ b → nat_lt n e.rep ≡ c → (c ≡ true → b ≡ true) → until m (beyond n es) ≡ beyond n (until m es) → until m (cond c (beyond n es) (e ∷ es)) ≡ beyond n (cond b (e ∷ until m es) [])
    by true true is less both ih = rw less ih
    by true false is less both ih = rw (is, less) refl
    by false true is less both ih = let no : false ≡ true = both refl in cc
    by false false is less both ih = rw is refl

-- the first inner item is that of the outer item
pub first_inside : (m n : ℕ) → m ≤ n → (es : List Entry) → first_item n (first_item m es) ≡ first_item n es
first_inside m n h [] = refl
first_inside m n h (e ∷ es) = ap (λ zs. e ∷ zs) (until_inside m n h es)

-- its later inner items are those in front of the next outer item
pub later_inside : (m n : ℕ) → m ≤ n → (es : List Entry) → later_items n (first_item m es) ≡ until m (later_items n es)
later_inside m n h [] = refl
later_inside m n h (e ∷ es) = sym (until_beyond m n h es)

-- after its inner items the next outer item begins
pub later_outside : (m n : ℕ) → m ≤ n → (es : List Entry) → beyond m (later_items n es) ≡ later_items m es
later_outside m n h [] = refl
later_outside m n h (e ∷ es) = beyond_beyond m n h es
