-- The numbers that options take.
use Rattle.std.specs.Prelude.{ℕ, ◌≤◌, nat_le, List, length, Bool, ◌&&◌, if◌then◌else◌, Option, Some, None}
use Rattle.std.specs.Str.{all_ascii_digits}
use Rattle.std.specs.Str.Parse.{digits_value}
use Rattle.byte_parsing.specs.Parse.{and_then}
use Rattle.command_words.specs.Limits.{most_digits}
use Rattle.command_words.specs.Options.{value_of}
use Rattle.command_words.specs.declared.numbers.NumberRange.{NumberRange}

-- the default is one of the range
abbrev pub HasDefault : NumberRange → Type 0
HasDefault range = (range.least ≤ range.default) × (range.default ≤ range.most)

-- 1 to 10 digits, of which the first may be 0
abbrev pub is_number : List ℕ → Bool
is_number text = nat_le 1 (length text) && (nat_le (length text) most_digits && all_ascii_digits text)

abbrev pub number_of : List ℕ → ℕ
number_of text = digits_value 10 text

abbrev pub is_within : NumberRange → ℕ → Bool
is_within range number = nat_le range.least number && nat_le number range.most

-- the number that a text is, where it is one of the range
abbrev pub number_within : NumberRange → List ℕ → Option ℕ
number_within range text = if is_number text && is_within range (number_of text) then Some (number_of text) else None

-- the default where no text is given
abbrev pub number_or_default : NumberRange → Option (List ℕ) → Option ℕ
number_or_default range None = Some range.default
number_or_default range (Some text) = number_within range text

-- the number that the option of that name gives
abbrev pub number_given : List ℕ → NumberRange → List (List ℕ × List ℕ) → Option ℕ
number_given name range options = and_then (value_of name options) (number_or_default range)
