-- Powers of ten.
use Rattle.std.proofs.Common.{◌≡◌, ◌∙◌, refl, sym, ℕ, zero, suc, ◌+◌, ◌*◌, ◌^◌, ◌<◌, ◌≤◌, ◌==◌, ◌&&◌, Bool, true, List, [], ◌∷◌, length, get_or, arith, pow-suc, mul_assoc, mul_right_comm, lit<, eqb-true}
use Rattle.std.proofs.lemmas.Bool.{and_parts}
use Rattle.std.proofs.lemmas.Nat.{pow-add}
use Rattle.std.proofs.Math.Nat.{pow-le-pow_right}

pub ten_more : (m k : ℕ) → m * 10 ^ suc k ≡ m * 10 ^ k * 10
ten_more m k = rw (pow-suc, ← mul_assoc) refl

pub ten_times : (m j k : ℕ) → m * 10 ^ (j + k) ≡ m * 10 ^ j * 10 ^ k
ten_times m j k = rw (pow-add, ← mul_assoc) refl

pub ten_some : (k : ℕ) → 0 < 10 ^ k
ten_some zero = lit< tt
ten_some (suc k) = let more = pow-suc 10 k in let some = ten_some k in omega arith

pub ten_rises : (j k : ℕ) → j ≤ k → 10 ^ j ≤ 10 ^ k
ten_rises j k h = pow-le-pow_right {n = 10} (lit< tt) h

pub ten_grows : (m k : ℕ) → m ≤ m * 10 ^ k
ten_grows m k = let some = ten_some k in grind arith

-- a table of powers: each entry is ten times the one before
abbrev pub are_powers : ℕ → List ℕ → Bool
are_powers p [] = true
are_powers p (x ∷ xs) = (x == p) && are_powers (p * 10) xs

pub power_at : (xs : List ℕ) (p i : ℕ) → are_powers p xs ≡ true → i < length xs → get_or xs i 0 ≡ p * 10 ^ i
power_at [] p i t h = absurd (omega arith)
power_at (x ∷ xs) p zero t h = let both = and_parts (x == p) (are_powers (p * 10) xs) t in eqb-true x p both.0 ∙ omega arith
power_at (x ∷ xs) p (suc i) t h =
    let both = and_parts (x == p) (are_powers (p * 10) xs) t in
    let inside : i < length xs = omega arith in
    power_at xs (p * 10) i both.1 inside ∙ sym (ten_more p i ∙ mul_right_comm p (10 ^ i) 10)
