-- The values of an option, one by one.
use Rattle.std.proofs.Common.{ℕ, List, ◌∷◌, Option, Some, None}

-- the value that was found, before others
abbrev pub found_before : Option (List ℕ) → List (List ℕ) → List (List ℕ)
found_before None values = values
found_before (Some value) values = value ∷ values
