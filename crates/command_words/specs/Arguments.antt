-- The words after a command's name: options with their values, and operands.
use Rattle.std.specs.Prelude.{◌==◌, ℕ, List, [], ◌∷◌, Bool, false, not, ◌&&◌, if◌then◌else◌, codes, Option, None, Some}
use Rattle.std.specs.Option.{option_map}
use Rattle.std.specs.Str.{bytes_eq}
use Rattle.byte_parsing.specs.Bytes.{minus_sign, equals_sign}
use Rattle.byte_parsing.specs.Parse.{front, back, past}

-- each option's name, with its dashes, and its value; and the operands. Both are in order
pub record Arguments : Type 0 where
  pub options : List (List ℕ × List ℕ)
  pub operands : List (List ℕ)

-- a word of more than one byte that begins with `-`: `-` alone is a word like others
abbrev pub is_dashed : List ℕ → Bool
is_dashed [] = false
is_dashed (x ∷ []) = false
is_dashed (x ∷ (y ∷ word)) = x == minus_sign

-- a word that begins with `--`
abbrev pub is_option : List ℕ → Bool
is_option [] = false
is_option (x ∷ []) = false
is_option (x ∷ (y ∷ word)) = (x == minus_sign) && (y == minus_sign)

-- An option's name ends before the first `=`, and its value is what comes after that.

abbrev pub is_in_name : ℕ → Bool
is_in_name x = not (x == equals_sign)

abbrev pub name_of : List ℕ → List ℕ
name_of word = front is_in_name word

abbrev pub value_in : List ℕ → Option (List ℕ)
value_in word = past equals_sign (back is_in_name word)

-- where no words stand
abbrev pub nothing_given : Option Arguments
nothing_given = Some (record { options = []; operands = [] })

-- no value begins with `-`
abbrev pub with_option : List ℕ → List ℕ → Option Arguments → Option Arguments
with_option name value given = if is_dashed value then None else option_map (λ g. record { options = (name, value) ∷ g.options; operands = g.operands }) given

abbrev pub with_operand : List ℕ → Option Arguments → Option Arguments
with_operand word given = option_map (λ g. record { options = g.options; operands = word ∷ g.operands }) given

-- the value that stands in an option's word, or else the next word
abbrev pub by_value : List ℕ → Option (List ℕ) → Option Arguments → Option Arguments → Option Arguments
by_value name None next others = next
by_value name (Some value) next others = with_option name value others

-- From the left: `--` ends the options, and all words after it are operands; any other word that begins with
-- `--` is an option; `-` and other bytes are no word that a command takes.
abbrev mutual
  pub arguments_of : List (List ℕ) → Option Arguments
  arguments_of [] = nothing_given
  arguments_of (word ∷ words) =
      if bytes_eq word (codes "--") then Some (record { options = []; operands = words })
      else (if is_option word then by_value (name_of word) (value_in word) (option_next (name_of word) words) (arguments_of words)
      else (if is_dashed word then None else with_operand word (arguments_of words)))

  -- after an option's name
  pub option_next : List ℕ → List (List ℕ) → Option Arguments
  option_next name [] = None
  option_next name (value ∷ words) = with_option name value (arguments_of words)
