-- The count of open brackets, by the place where a byte stands.
use Rattle.std.specs.Prelude.{ℕ, List, Bool, true, Option, Some, None}
use Rattle.exact_json.specs.Brackets.{outside, inside, escaped}
use Rattle.exact_json.specs.declared.brackets.Place.{Place}
use Rattle.exact_json.specs.declared.brackets.Place.TheVariants.{Outside, Inside, Escaped}

abbrev pub scan : Place → List ℕ → ℕ → Bool
scan Outside xs left = outside xs left
scan Inside xs left = inside xs left
scan Escaped xs left = escaped xs left

-- after a byte
abbrev pub scan_on : Option (Place × ℕ) → List ℕ → Bool
scan_on None xs = true
scan_on (Some next) xs = scan next.0 xs next.1
