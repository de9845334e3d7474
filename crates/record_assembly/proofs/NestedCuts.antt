-- Entries cut at a list and at the lists round it.
use Rattle.std.proofs.Common.{◌≡◌, refl, ap, ℕ, ◌<◌, ◌≤◌, nat_lt, Bool, true, false, cond, List, [], ◌∷◌, arith}
use Rattle.std.proofs.lemmas.Bool.{lt-ltb, le-ltb, ltb-true, ltb-false}
use Rattle.vs_bytes.specs.declared.leaf_columns.Entry.{Entry}
use Rattle.record_assembly.specs.Cuts.{until, beyond, first_item, later_items}

until_until : (m n : ℕ) (es : List Entry) → m ≤ n → until n (until m es) ≡ until n es
until_until m n [] h = refl
until_until m n (e ∷ es) h = by (nat_lt m e.rep) refl (until_until m n es h)
  where
    by : (b : Bool) → nat_lt m e.rep ≡ b → until n (until m es) ≡ until n es → until n (cond b (e ∷ until m es) []) ≡ until n (e ∷ es)
    by true is rest = rw rest refl
    by false is rest = let low : e.rep ≤ n = omega (arith, ltb-false m e.rep is) in rw (le-ltb n e.rep low) refl

beyond_until : (m n : ℕ) (es : List Entry) → m ≤ n → beyond n (until m es) ≡ until m (beyond n es)
beyond_until m n [] h = refl
beyond_until m n (e ∷ es) h = by (nat_lt n e.rep) refl (beyond_until m n es h)
  where
    stays : nat_lt n e.rep ≡ false → (b : Bool) → beyond n (cond b (e ∷ until m es) []) ≡ cond b (e ∷ until m es) []
    stays is true = rw is refl
    stays is false = refl

    by : (b : Bool) → nat_lt n e.rep ≡ b → beyond n (until m es) ≡ until m (beyond n es) → beyond n (until m (e ∷ es)) ≡ until m (cond b (beyond n es) (e ∷ es))
    by true is rest =
        let high : m < e.rep = omega (arith, ltb-true n e.rep is) in
        rw (lt-ltb m e.rep high, is) rest
    by false is rest = stays is (nat_lt m e.rep)

beyond_beyond : (m n : ℕ) (es : List Entry) → m ≤ n → beyond m (beyond n es) ≡ beyond m es
beyond_beyond m n [] h = refl
beyond_beyond m n (e ∷ es) h = by (nat_lt n e.rep) refl (beyond_beyond m n es h)
  where
    by : (b : Bool) → nat_lt n e.rep ≡ b → beyond m (beyond n es) ≡ beyond m es → beyond m (cond b (beyond n es) (e ∷ es)) ≡ beyond m (e ∷ es)
    by true is rest =
        let high : m < e.rep = omega (arith, ltb-true n e.rep is) in
        rw (lt-ltb m e.rep high) rest
    by false is rest = refl

-- an inner list's item is cut off the same from the outer list's item
pub first_first : (m n : ℕ) (es : List Entry) → m ≤ n → first_item n (first_item m es) ≡ first_item n es
first_first m n [] h = refl
first_first m n (e ∷ es) h = ap (λ zs. e ∷ zs) (until_until m n es h)

pub later_first : (m n : ℕ) (es : List Entry) → m ≤ n → later_items n (first_item m es) ≡ until m (later_items n es)
later_first m n [] h = refl
later_first m n (e ∷ es) h = beyond_until m n es h

-- after an inner list's item the outer list's later items are the same
pub beyond_later : (m n : ℕ) (es : List Entry) → m ≤ n → beyond m (later_items n es) ≡ later_items m es
beyond_later m n [] h = refl
beyond_later m n (e ∷ es) h = beyond_beyond m n es h
