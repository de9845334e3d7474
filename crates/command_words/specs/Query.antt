-- What the words after `query` give.
use Rattle.std.specs.Prelude.{ℕ, List, [], ◌∷◌, if◌then◌else◌, codes, Option, None}
use Rattle.std.specs.Option.{option_map}
use Rattle.byte_parsing.specs.Parse.{and_then}
use Rattle.command_words.specs.Arguments.{Arguments, arguments_of}
use Rattle.command_words.specs.Files.{first_file, column_given}
use Rattle.command_words.specs.Options.{are_known}
use Rattle.command_words.specs.Scan.{Given, paths_given}

-- a file, its column, and what is asked of it
pub record QueryGiven : Type 0 where
  pub file : List ℕ
  pub column : List ℕ
  pub asked : Given

-- a column and a filter may be given; the first operand is a file, and the others are paths
abbrev pub query_given : Arguments → Option QueryGiven
query_given given =
    if are_known (codes "--column" ∷ (codes "--where" ∷ [])) given.options
    then and_then (first_file given.operands) (λ f. and_then (column_given given.options) (λ column. option_map (λ asked. record { file = f.0; column = column; asked = asked }) (paths_given f.1 given.options))) else None

-- what the words after `query` give, or none where they aren't its words
abbrev pub query_words : List (List ℕ) → Option QueryGiven
query_words words = and_then (arguments_of words) query_given
