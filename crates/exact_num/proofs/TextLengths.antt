-- How long a printed number is.
use Rattle.std.proofs.Common.{◌≡◌, ◌==◌, ℕ, zero, suc, ◌+◌, ◌/◌, ◌%◌, ◌^◌, List, [], ◌∷◌, Bool, true, false, length, length-append, arith, refl, sym, ap, ◌∙◌, eq-eqb, eqb-true}
use Rattle.std.specs.Prelude.{decimal}
use Rattle.exact_num.specs.Text.{padded, size_text}

padded_length : (k n : ℕ) → length (padded k n) ≡ k
unfolding padded
padded_length zero n = refl
padded_length (suc k) n = omega (arith, length-append (padded k (n / 10)) ((48 + n % 10) ∷ []), padded_length k (n / 10))

pub whole_length : (size scale : ℕ) → (scale == 0) ≡ true → length (size_text size scale) ≡ length (decimal (size / 10 ^ scale))
unfolding size_text
whole_length size scale e = rw e (omega (arith, length-append (decimal (size / 10 ^ scale)) []))

pub point_length : (size scale : ℕ) → (scale == 0) ≡ false → length (size_text size scale) ≡ length (decimal (size / 10 ^ scale)) + (scale + 1)
unfolding size_text
point_length size scale e = rw e (omega (arith, length-append (decimal (size / 10 ^ scale)) (46 ∷ padded scale (size % 10 ^ scale)), padded_length scale (size % 10 ^ scale)))

-- the whole part's text, as the code finds it
whole_text : (size scale ten whole : ℕ) (text : List ℕ) → text ≡ decimal whole → whole ≡ size / ten → ten ≡ 10 ^ scale → length (decimal (size / 10 ^ scale)) ≡ length text
whole_text size scale ten whole text e f g = sym (ap length (e ∙ ap decimal (f ∙ ap (λ (n : ℕ). size / n) g)))

pub whole_len : (size scale ten whole : ℕ) (text : List ℕ) → text ≡ decimal whole → whole ≡ size / ten → ten ≡ 10 ^ scale → scale ≡ 0 → length (size_text size scale) ≡ length text
whole_len size scale ten whole text e f g z = whole_length size scale (eq-eqb scale 0 z) ∙ whole_text size scale ten whole text e f g

pub point_len : (size scale ten whole : ℕ) (text : List ℕ) → text ≡ decimal whole → whole ≡ size / ten → ten ≡ 10 ^ scale → (scale == 0) ≡ false → length (size_text size scale) ≡ length text + (scale + 1)
point_len size scale ten whole text e f g z = point_length size scale z ∙ ap (λ (n : ℕ). n + (scale + 1)) (whole_text size scale ten whole text e f g)

pub not_zero : (n : ℕ) → (n ≡ 0 → ⊥) → (n == 0) ≡ false
not_zero n h = by (n == 0) refl
  where
    by : (b : Bool) → (n == 0) ≡ b → b ≡ false
    by true e = absurd (h (eqb-true n 0 e))
    by false e = refl
