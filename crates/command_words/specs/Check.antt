-- What the words after `check` give.
use Rattle.std.specs.Prelude.{ℕ, List, [], ◌∷◌, if◌then◌else◌, codes, Option, None}
use Rattle.std.specs.Option.{option_map}
use Rattle.byte_parsing.specs.Parse.{and_then}
use Rattle.command_words.specs.Arguments.{Arguments, arguments_of}
use Rattle.command_words.specs.Files.{only_file, column_given}
use Rattle.command_words.specs.Options.{are_known}

pub record CheckGiven : Type 0 where
  pub file : List ℕ
  pub column : List ℕ

-- a column may be given, and the operand is a file
abbrev pub check_given : Arguments → Option CheckGiven
check_given given =
    if are_known (codes "--column" ∷ []) given.options
    then and_then (only_file given.operands) (λ file. option_map (λ column. record { file = file; column = column }) (column_given given.options)) else None

-- what the words after `check` give, or none where they aren't its words
abbrev pub check_words : List (List ℕ) → Option CheckGiven
check_words words = and_then (arguments_of words) check_given
