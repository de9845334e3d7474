-- Digits, names, words and the spaces between them.
use Rattle.std.specs.Prelude.{◌≡◌, ◌==◌, nat_le, ℕ, ◌≤◌, ◌⊎◌, List, [], ◌∷◌, Bool, true, false, ◌&&◌, ◌||◌, if◌then◌else◌, Option, Some, None}
use Rattle.std.specs.List.{AllByRecursion, list_all}
use Rattle.std.specs.Option.{option_map}
use Rattle.byte_parsing.specs.Bytes.{space, plus_sign, minus_sign, dot, digit_zero, digit_one, digit_nine, underscore, upper_a, upper_e, upper_z, lower_a, lower_e, lower_z}
use Rattle.byte_parsing.specs.Parse.{and_then, front, back, past_word}

abbrev pub is_empty : List ℕ → Bool
is_empty [] = true
is_empty (x ∷ xs) = false

-- Digits, and whole numbers: 0, or digits of which the first isn't 0.

abbrev pub is_digit : ℕ → Bool
is_digit x = nat_le digit_zero x && nat_le x digit_nine

abbrev pub IsDigit : ℕ → Type 0
IsDigit x = (digit_zero ≤ x) × (x ≤ digit_nine)

-- whether digits are a whole number
abbrev pub is_whole : List ℕ → Bool
is_whole [] = false
is_whole (x ∷ xs) = if x == digit_zero then is_empty xs else true

abbrev pub IsWhole : List ℕ → Type 0
IsWhole [] = ⊥
IsWhole (x ∷ xs) = ((x ≡ digit_zero) × (xs ≡ [])) ⊎ ((digit_one ≤ x) × (x ≤ digit_nine) × AllByRecursion IsDigit xs)

-- the bytes of which JSON's numbers consist: 0-9 + - . e E
abbrev pub is_numeric : ℕ → Bool
is_numeric x = is_digit x || (x == plus_sign || (x == minus_sign || (x == dot || (x == upper_e || x == lower_e))))

-- Names that may stand without quotes: a letter or `_`, then letters, digits and `_`.

-- a letter or `_`
abbrev pub is_name_start : ℕ → Bool
is_name_start x = (nat_le upper_a x && nat_le x upper_z) || ((nat_le lower_a x && nat_le x lower_z) || (x == underscore))

-- a letter, a digit or `_`
abbrev pub is_name_byte : ℕ → Bool
is_name_byte x = is_name_start x || is_digit x

abbrev pub is_name : List ℕ → Bool
is_name [] = false
is_name (x ∷ xs) = is_name_start x && list_all is_name_byte xs

-- the bytes begin as a name does
abbrev pub starts_name : List ℕ → Bool
starts_name [] = false
starts_name (x ∷ xs) = is_name_start x

-- no byte of a name stands first, so that a name or a word before it ends
abbrev pub EndsName : List ℕ → Type 0
EndsName [] = Unit {0}
EndsName (x ∷ xs) = is_name_byte x ≡ false

-- Gaps: spaces between the parts of a text.

abbrev pub is_space : ℕ → Bool
is_space x = x == space

abbrev pub AreSpaces : List ℕ → Type 0
AreSpaces xs = AllByRecursion (λ x. x ≡ space) xs

abbrev pub gap_of : List ℕ → List ℕ
gap_of xs = front is_space xs

abbrev pub past_gap : List ℕ → List ℕ
past_gap xs = back is_space xs

-- Whole words: no byte of a name stands directly after one.

abbrev pub word_end : List ℕ → Option (List ℕ)
word_end [] = Some []
word_end (x ∷ xs) = if is_name_byte x then None else Some (x ∷ xs)

abbrev pub past_whole_word : List ℕ → List ℕ → Option (List ℕ)
past_whole_word word xs = and_then (past_word word xs) word_end

-- a value that a word stands for
abbrev pub word_value : {A : Type 0} → A → Option (List ℕ) → Option (A × List ℕ)
word_value value rest = option_map (λ xs. (value, xs)) rest
