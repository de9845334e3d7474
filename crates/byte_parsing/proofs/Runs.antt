-- Runs of bytes that pass a test.
use Rattle.std.proofs.Common.{◌≡◌, ◌≤◌, ◌+◌, ◌++◌, refl, ap, ℕ, suc, List, [], ◌∷◌, Bool, true, false, cond, length, take, drop, arith}
use Rattle.std.specs.List.{prefix_len, list_all}
use Rattle.std.proofs.lemmas.Bool.{and_parts}
use Rattle.std.proofs.lemmas.List.Sums.{prefix_len-le-length}
use Rattle.byte_parsing.specs.Parse.{front, back, Passes, Stops}

-- A run and what stops it are told apart.

pub front_run : (p : ℕ → Bool) (run rest : List ℕ) → Passes p run → Stops p rest → front p (run ++ rest) ≡ run
front_run p [] [] h s = refl
front_run p [] (x ∷ rest) h s = rw s refl
front_run p (x ∷ run) rest h s = rw (h.0, front_run p run rest h.1 s) refl

pub back_run : (p : ℕ → Bool) (run rest : List ℕ) → Passes p run → Stops p rest → back p (run ++ rest) ≡ rest
back_run p [] [] h s = refl
back_run p [] (x ∷ rest) h s = rw s refl
back_run p (x ∷ run) rest h s = rw (h.0, back_run p run rest h.1 s) refl

-- A text is its front and its back.

pub split_run : (p : ℕ → Bool) (xs : List ℕ) → xs ≡ front p xs ++ back p xs
split_run p [] = refl
split_run p (x ∷ xs) = by (p x) (split_run p xs)
  where
    by : (b : Bool) → xs ≡ front p xs ++ back p xs → x ∷ xs ≡ cond b (x ∷ front p xs) [] ++ cond b (back p xs) (x ∷ xs)
    by true e = ap (λ ys. x ∷ ys) e
    by false e = refl

pub front_passes : (p : ℕ → Bool) (xs : List ℕ) → Passes p (front p xs)
front_passes p [] = tt
front_passes p (x ∷ xs) = by (p x) refl (front_passes p xs)
  where
    by : (b : Bool) → p x ≡ b → Passes p (front p xs) → Passes p (cond b (x ∷ front p xs) [])
    by true e h = (e, h)
    by false e h = tt

pub back_stops : (p : ℕ → Bool) (xs : List ℕ) → Stops p (back p xs)
back_stops p [] = tt
back_stops p (x ∷ xs) = by (p x) refl (back_stops p xs)
  where
    by : (b : Bool) → p x ≡ b → Stops p (back p xs) → Stops p (cond b (back p xs) (x ∷ xs))
    by true e h = h
    by false e h = e

pub fronts_are_longest : (p : ℕ → Bool) (xs : List ℕ) → (xs ≡ front p xs ++ back p xs) × Passes p (front p xs) × Stops p (back p xs)
fronts_are_longest p xs = (split_run p xs, front_passes p xs, back_stops p xs)

-- As a test, and by the place where the front ends.

pub all_pass : (p : ℕ → Bool) (xs : List ℕ) → Passes p xs → list_all p xs ≡ true
all_pass p [] h = refl
all_pass p (x ∷ xs) h = rw (h.0, all_pass p xs h.1) refl

pub pass_all : (p : ℕ → Bool) (xs : List ℕ) → list_all p xs ≡ true → Passes p xs
pass_all p [] h = tt
pass_all p (x ∷ xs) h = let both = and_parts (p x) (list_all p xs) h in (both.0, pass_all p xs both.1)

pub passes_append : (p : ℕ → Bool) (xs ys : List ℕ) → Passes p xs → Passes p ys → Passes p (xs ++ ys)
passes_append p [] ys h k = k
passes_append p (x ∷ xs) ys h k = (h.0, passes_append p xs ys h.1 k)

pub prefix_fits : (p : ℕ → Bool) (xs : List ℕ) → prefix_len p xs ≤ length xs
prefix_fits p xs = prefix_len-le-length p xs

pub front_taken : (p : ℕ → Bool) (xs : List ℕ) → take (prefix_len p xs) xs ≡ front p xs
front_taken p [] = refl
front_taken p (x ∷ xs) = by (p x) (front_taken p xs)
  where
    by : (b : Bool) → take (prefix_len p xs) xs ≡ front p xs → take (cond b (1 + prefix_len p xs) 0) (x ∷ xs) ≡ cond b (x ∷ front p xs) []
    by true e = let one : 1 + prefix_len p xs ≡ suc (prefix_len p xs) = omega arith in rw one (ap (λ ys. x ∷ ys) e)
    by false e = refl

pub back_dropped : (p : ℕ → Bool) (xs : List ℕ) → drop (prefix_len p xs) xs ≡ back p xs
back_dropped p [] = refl
back_dropped p (x ∷ xs) = by (p x) (back_dropped p xs)
  where
    by : (b : Bool) → drop (prefix_len p xs) xs ≡ back p xs → drop (cond b (1 + prefix_len p xs) 0) (x ∷ xs) ≡ cond b (back p xs) (x ∷ xs)
    by true e = let one : 1 + prefix_len p xs ≡ suc (prefix_len p xs) = omega arith in rw one e
    by false e = refl
