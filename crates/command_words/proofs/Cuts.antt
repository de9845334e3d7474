-- Where an option's word is cut: before and after its first `=`.
use Rattle.std.proofs.Common.{◌≡◌, refl, ap, ℕ, suc, ◌<◌, List, [], ◌∷◌, ◌++◌, true, get_or, length, Some, None, arith}
use Rattle.std.proofs.Common.{◌≢◌}
use Rattle.std.proofs.lemmas.Bool.Decides.{nat_tests}
use Rattle.command_words.specs.Arguments.{is_in_name, name_of, value_in}

-- no byte of a name is the `=`
pub record IsName (name : List ℕ) : Type 0 where
  pub each : (i : ℕ) → i < length name → get_or name i 0 ≢ 61

first_passes : (x : ℕ) (xs : List ℕ) → IsName (x ∷ xs) → is_in_name x ≡ true
first_passes x xs h = let unlike : x ≢ 61 = h.each 0 (omega arith) in grind (arith, nat_tests)

others_pass : (x : ℕ) (xs : List ℕ) → IsName (x ∷ xs) → IsName xs
others_pass x xs h = record { each = λ i less. h.each (suc i) (omega arith) }

pub cut_name : (name value : List ℕ) → IsName name → name_of (name ++ (61 ∷ value)) ≡ name
cut_name [] value h = refl
cut_name (x ∷ xs) value h = rw (first_passes x xs h) (ap (λ ys. x ∷ ys) (cut_name xs value (others_pass x xs h)))

pub cut_value : (name value : List ℕ) → IsName name → value_in (name ++ (61 ∷ value)) ≡ Some value
cut_value [] value h = refl
cut_value (x ∷ xs) value h = rw (first_passes x xs h) (cut_value xs value (others_pass x xs h))

pub whole_name : (name : List ℕ) → IsName name → name_of name ≡ name
whole_name [] h = refl
whole_name (x ∷ xs) h = rw (first_passes x xs h) (ap (λ ys. x ∷ ys) (whole_name xs (others_pass x xs h)))

pub no_value : (name : List ℕ) → IsName name → value_in name ≡ None
no_value [] h = refl
no_value (x ∷ xs) h = rw (first_passes x xs h) (no_value xs (others_pass x xs h))
