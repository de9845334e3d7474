-- What is read from entries, found again: a value that has these entries, of which the mask leaves what was read.
use Rattle.std.specs.Prelude.{◌≡◌, ℕ, List, ◌∷◌, ◌++◌, map}
use Rattle.std.specs.List.{AllByRecursion, flat_map}
use Rattle.vs_bytes.specs.declared.leaf_columns.Entry.{Entry}

-- a value of `P` whose entries in the leaves of `L` are these, and of which `shows` gives q
pub record Found {A B : Type 0} (P : A → Type 0) (L : ℕ → Type 0) (gives : A → ℕ → List Entry) (shows : A → B) (es : ℕ → List Entry) (q : B) : Type 0 where
  pub one : A
  pub of : P one
  pub agree : (j : ℕ) → L j → es j ≡ gives one j
  pub is : shows one ≡ q

-- the same of items, of which there is one at least
pub record FoundItems {A B : Type 0} (P : A → Type 0) (L : ℕ → Type 0) (first later : A → ℕ → List Entry) (shows : A → B) (es : ℕ → List Entry) (qs : List B) : Type 0 where
  pub head : A
  pub tail : List A
  pub of : P head
  pub all : AllByRecursion P tail
  pub agree : (j : ℕ) → L j → es j ≡ first head j ++ flat_map (λ x. later x j) tail
  pub is : shows head ∷ map shows tail ≡ qs
