-- Digits and whole numbers: the test and the relation.
use Rattle.std.proofs.Common.{◌≡◌, ◌↔◌, ◌==◌, ◌≤◌, inl, inr, refl, ℕ, zero, suc, List, [], ◌∷◌, Bool, true, false, cond, All, eqb-true, arith}
use Rattle.std.specs.List.{AllByRecursion}
use Rattle.std.proofs.lemmas.Bool.Decides.{nat_tests}
use Rattle.byte_parsing.specs.Parse.{front, Passes}
use Rattle.byte_parsing.specs.Words.{is_digit, IsDigit, is_empty, is_whole, IsWhole}
use Rattle.byte_parsing.proofs.Runs.{front_passes}

pub digit_is : (x : ℕ) → is_digit x ≡ true → IsDigit x
digit_is x h = grind (arith, nat_tests)

pub digit_passes : (x : ℕ) → IsDigit x → is_digit x ≡ true
digit_passes x h = let low = h.0 in let high = h.1 in grind (arith, nat_tests)

pub digits_are : (ds : List ℕ) → Passes is_digit ds → AllByRecursion IsDigit ds
digits_are [] h = tt
digits_are (d ∷ ds) h = (digit_is d h.0, digits_are ds h.1)

pub digits_pass : (ds : List ℕ) → AllByRecursion IsDigit ds → Passes is_digit ds
digits_pass [] h = tt
digits_pass (d ∷ ds) h = (digit_passes d h.0, digits_pass ds h.1)

all_digits : (xs : List ℕ) → Passes is_digit xs → All IsDigit xs
all_digits [] h k d less = absurd (omega arith)
all_digits (x ∷ xs) h zero d less = digit_is x h.0
all_digits (x ∷ xs) h (suc k) d less = all_digits xs h.1 k d (omega arith)

pub front_digits : (xs : List ℕ) → All IsDigit (front is_digit xs)
front_digits xs = all_digits (front is_digit xs) (front_passes is_digit xs)

-- Whole numbers.

first_digit : (d : ℕ) → IsDigit d → (d == 48) ≡ false → (49 ≤ d) × (d ≤ 57)
first_digit d h e = grind (arith, nat_tests)

pub whole_is : (ds : List ℕ) → Passes is_digit ds → is_whole ds ≡ true → IsWhole ds
whole_is [] p h = cc
whole_is (d ∷ ds) p h = by (d == 48) refl ds (digits_are ds p.1) h
  where
    by : (b : Bool) → (d == 48) ≡ b → (es : List ℕ) → AllByRecursion IsDigit es → cond b (is_empty es) true ≡ true → IsWhole (d ∷ es)
    by true e [] all f = inl (eqb-true d 48 e, refl)
    by true e (x ∷ es) all f = cc
    by false e es all f = let more = first_digit d (digit_is d p.0) e in inr (more.0, more.1, all)

pub whole_digits : (ds : List ℕ) → IsWhole ds → AllByRecursion IsDigit ds
whole_digits [] h = absurd h
whole_digits (d ∷ ds) (inl h) = rw (h.0, h.1) ((omega arith, omega arith), tt)
whole_digits (d ∷ ds) (inr h) = ((omega (arith, h.0), h.1), h.2)

pub whole_passes : (ds : List ℕ) → IsWhole ds → Passes is_digit ds
whole_passes ds h = digits_pass ds (whole_digits ds h)

pub whole_is_true : (ds : List ℕ) → IsWhole ds → is_whole ds ≡ true
whole_is_true [] h = absurd h
whole_is_true (d ∷ ds) (inl h) = rw (h.0, h.1) refl
whole_is_true (d ∷ ds) (inr h) = let other : (d == 48) ≡ false = let low = h.0 in grind (arith, nat_tests) in rw other refl

pub whole_numbers : (ds : List ℕ) → (Passes is_digit ds × (is_whole ds ≡ true)) ↔ IsWhole ds
whole_numbers ds = (λ h. whole_is ds h.0 h.1, λ h. (whole_passes ds h, whole_is_true ds h))
