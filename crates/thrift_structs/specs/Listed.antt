-- Lists that are written.
use Rattle.std.specs.Prelude.{ℕ, ◌^◌, ◌<◌, List, [], ◌∷◌, length}
use Rattle.std.specs.List.{All}
use Rattle.thrift_compact.specs.Trees.{Value, Elements, list_value, no_elements, with_element}

-- the values of items
unfoldable pub elements_of : {A : Type 0} → (A → Value) → List A → Elements
elements_of tree [] = no_elements
elements_of tree (x ∷ xs) = with_element (tree x) (elements_of tree xs)

-- a list of items, whose values have the type `kind`
abbrev pub list_tree : {A : Type 0} → ℕ → (A → Value) → List A → Value
list_tree kind tree xs = list_value kind (elements_of tree xs)

-- a list that has bytes: a header can say its size, and each item has bytes
pub record ListFits {A : Type 0} (Fits : A → Type 0) (xs : List A) : Type 0 where
  pub size : length xs < 2 ^ 32
  pub each : All Fits xs
