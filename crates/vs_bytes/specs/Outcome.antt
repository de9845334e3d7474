-- How a call answers that has a definition: it gives the defined value, seen through `view`, or the defined
-- fault. A call that takes memory may answer that there was none in place of either.
--
-- | The definition gives | The call takes no memory | The call takes memory |
-- |---|---|---|
-- | a value or nothing (`Option`) | `Finds` | `Reads` |
-- | a value or a fault (`Result`) | `Gives` | `Makes` |
use Rattle.std.specs.Prelude.{◌≡◌, ℕ, List, ◌++◌, Option, Some, None, MatchOption, Result, Ok, Err, MatchResult}
use Rattle.vs_bytes.specs.declared.refused.Refused.{Refused}
use Rattle.vs_bytes.specs.declared.refused.Refused.TheVariants.{Fault, NoMemory}

-- the same is found, or nothing
abbrev pub Finds : {A B : Type 0} → (A → B) → Option A → Option B → Type 0
Finds view found defined = MatchOption found (defined ≡ None) (λ a. defined ≡ Some (view a))

-- the same is read, or nothing. Out of memory says nothing
abbrev pub Reads : {A B F : Type 0} → (A → B) → Result A (Refused F) → Option B → Type 0
Reads view (Ok a) defined = defined ≡ Some (view a)
Reads view (Err (Fault fault)) defined = defined ≡ None
Reads view (Err NoMemory) defined = Unit {0}

-- the same value is given, or the same fault
abbrev pub Gives : {A B F : Type 0} → (A → B) → Result A F → Result B F → Type 0
Gives view result defined = MatchResult result (λ a. defined ≡ Ok (view a)) (λ fault. defined ≡ Err fault)

-- the same value is given, or the same fault. Out of memory says nothing
abbrev pub Makes : {A B F : Type 0} → (A → B) → Result A (Refused F) → Result B F → Type 0
Makes view (Ok a) defined = defined ≡ Ok (view a)
Makes view (Err (Fault fault)) defined = defined ≡ Err fault
Makes view (Err NoMemory) defined = Unit {0}

-- what `f` gives of a value, or the fault that stands in its place
infixl 10 ◌>>=◌
abbrev pub ◌>>=◌ : {A B F : Type 0} → Result A F → (A → Result B F) → Result B F
(Ok a) >>= f = f a
(Err fault) >>= f = Err fault

-- an output that was appended to
abbrev pub Grows : List ℕ → List ℕ → Type 0
Grows old new = (more : List ℕ) × (new ≡ old ++ more)
