-- What the words after `scan` give.
use Rattle.std.specs.Prelude.{ℕ, nat_le, List, [], ◌∷◌, Bool, ◌&&◌, if◌then◌else◌, codes, length, Option, None}
use Rattle.std.specs.Option.{option_map}
use Rattle.byte_parsing.specs.Parse.{and_then}
use Rattle.command_words.specs.Arguments.{Arguments, arguments_of}
use Rattle.command_words.specs.Limits.{most_paths}
use Rattle.command_words.specs.Options.{are_known, value_of}

-- the text of the filter, where one is given, and the texts of the paths in order
pub record Given : Type 0 where
  pub filter : Option (List ℕ)
  pub paths : List (List ℕ)

-- one path at least, and no more than a query may have
abbrev pub has_paths : List (List ℕ) → Bool
has_paths paths = nat_le 1 (length paths) && nat_le (length paths) most_paths

-- the paths, and the filter that options give
abbrev pub paths_given : List (List ℕ) → List (List ℕ × List ℕ) → Option Given
paths_given paths options = if has_paths paths then option_map (λ filter. record { filter = filter; paths = paths }) (value_of (codes "--where") options) else None

-- a filter may be given, and the operands are paths
abbrev pub scan_given : Arguments → Option Given
scan_given given = if are_known (codes "--where" ∷ []) given.options then paths_given given.operands given.options else None

-- what the words after `scan` give, or none where they aren't its words
abbrev pub scan_words : List (List ℕ) → Option Given
scan_words words = and_then (arguments_of words) scan_given
