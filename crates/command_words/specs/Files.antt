-- The operands of commands over files, and their columns.
use Rattle.std.specs.Prelude.{ℕ, List, [], ◌∷◌, codes, Option, Some, None}
use Rattle.std.specs.Option.{option_map}
use Rattle.command_words.specs.Options.{value_of}

-- one file, and no other operand
abbrev pub only_file : List (List ℕ) → Option (List ℕ)
only_file [] = None
only_file (file ∷ []) = Some file
only_file (file ∷ (other ∷ operands)) = None

-- a file, and the operands after it
abbrev pub first_file : List (List ℕ) → Option (List ℕ × List (List ℕ))
first_file [] = None
first_file (file ∷ operands) = Some (file, operands)

-- the text of an option, or the one that stands for it
abbrev pub or_text : List ℕ → Option (List ℕ) → List ℕ
or_text default None = default
or_text default (Some text) = text

-- the column that options name
abbrev pub column_given : List (List ℕ × List ℕ) → Option (List ℕ)
column_given options = option_map (or_text (codes "doc")) (value_of (codes "--column") options)
