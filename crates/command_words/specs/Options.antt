-- The options that a command knows, and their values.
use Rattle.std.specs.Prelude.{ℕ, List, [], ◌∷◌, Bool, if◌then◌else◌, Option, None, Some}
use Rattle.std.specs.List.{list_any, list_all}
use Rattle.std.specs.Str.{bytes_eq}

-- each option has one of these names
abbrev pub are_known : List (List ℕ) → List (List ℕ × List ℕ) → Bool
are_known names options = list_all (λ option. list_any (λ name. bytes_eq name option.0) names) options

-- the values of the options of that name
abbrev pub values_of : List ℕ → List (List ℕ × List ℕ) → List (List ℕ)
values_of name [] = []
values_of name (option ∷ options) = if bytes_eq option.0 name then option.1 ∷ values_of name options else values_of name options

-- one at most: no option is given twice
abbrev pub at_most_one : List (List ℕ) → Option (Option (List ℕ))
at_most_one [] = Some None
at_most_one (value ∷ []) = Some (Some value)
at_most_one (value ∷ (other ∷ values)) = None

-- the value of the option of that name, where it is given
abbrev pub value_of : List ℕ → List (List ℕ × List ℕ) → Option (Option (List ℕ))
value_of name options = at_most_one (values_of name options)
