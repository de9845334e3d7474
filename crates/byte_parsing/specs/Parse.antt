-- What is read at the front of bytes.
use Rattle.std.specs.Prelude.{◌≡◌, ◌==◌, ℕ, List, [], ◌∷◌, Bool, true, false, if◌then◌else◌, Option, Some, None}
use Rattle.std.specs.List.{AllByRecursion}
use Rattle.std.specs.Option.{option_map}

-- what is read, and the bytes after it
abbrev pub Parse : Type 0 → Type 0
Parse A = List ℕ → Option (A × List ℕ)

abbrev pub and_then : {A B : Type 0} → Option A → (A → Option B) → Option B
and_then None f = None
and_then (Some a) f = f a

-- what is read, as its value
abbrev pub read_as : {A B : Type 0} → (A → B) → Option (A × List ℕ) → Option (B × List ℕ)
read_as value read = option_map (λ r. (value r.0, r.1)) read

-- The longest front whose bytes pass a test, and the bytes after it.

abbrev pub front : (ℕ → Bool) → List ℕ → List ℕ
front p [] = []
front p (x ∷ xs) = if p x then x ∷ front p xs else []

abbrev pub back : (ℕ → Bool) → List ℕ → List ℕ
back p [] = []
back p (x ∷ xs) = if p x then back p xs else x ∷ xs

-- each byte passes the test
abbrev pub Passes : (ℕ → Bool) → List ℕ → Type 0
Passes p xs = AllByRecursion (λ x. p x ≡ true) xs

-- the first byte, if there is one, fails the test
abbrev pub Stops : (ℕ → Bool) → List ℕ → Type 0
Stops p [] = Unit {0}
Stops p (x ∷ xs) = p x ≡ false

-- the bytes after one byte, where it stands first
abbrev pub past : ℕ → List ℕ → Option (List ℕ)
past b [] = None
past b (x ∷ xs) = if x == b then Some xs else None

-- the bytes after a word, where it stands first
abbrev pub past_word : List ℕ → List ℕ → Option (List ℕ)
past_word [] xs = Some xs
past_word (b ∷ bs) xs = and_then (past b xs) (λ rest. past_word bs rest)
