-- Widths of offsets and of field ids, in bytes.
use Rattle.std.specs.Prelude.{ℕ, List, codes, Option}
use Rattle.std.specs.Option.{option_map}
use Rattle.byte_parsing.specs.Parse.{and_then}
use Rattle.command_words.specs.Numbers.{number_given}
use Rattle.command_words.specs.declared.numbers.NumberRange.{NumberRange}

-- the least widths
pub record WidthsGiven : Type 0 where
  pub offset : ℕ
  pub id : ℕ

abbrev pub widths_range : NumberRange
widths_range = record { least = 1; most = 4; default = 1 }

-- the widths that options give
abbrev pub widths_given : List (List ℕ × List ℕ) → Option WidthsGiven
widths_given options =
    and_then (number_given (codes "--offset-width") widths_range options) (λ offset. option_map (λ id. record { offset = offset; id = id }) (number_given (codes "--id-width") widths_range options))
