-- The number at the front of a text: all leading bytes of which number texts consist.
use Rattle.std.specs.Prelude.{◌≡◌, ℕ, Bool, true, not, List, [], ◌∷◌, ◌++◌, Ok}
use Rattle.byte_parsing.specs.Parse.{front, back}
use Rattle.exact_num.specs.Decimal.{Decimal}
use Rattle.exact_num.specs.Parsing.{is_numeric}
use Rattle.exact_num.specs.Reading.{read_of}
use Rattle.exact_num.specs.Spelling.{sign_text}

-- the leading bytes of which number texts consist, and the bytes after them
abbrev pub number_run : List ℕ → List ℕ
number_run xs = front is_numeric xs

abbrev pub after_number : List ℕ → List ℕ
after_number xs = back is_numeric xs

-- no byte of a number leads
abbrev pub is_ended : List ℕ → Bool
is_ended [] = true
is_ended (x ∷ xs) = not (is_numeric x)

-- the number of the sign and the leading bytes, and the bytes after them
pub record IsLeading (negative : Bool) (text : List ℕ) (d : Decimal) (rest : List ℕ) : Type 0 where
  pub number : read_of (sign_text negative ++ number_run text) ≡ Ok d
  pub after : rest ≡ after_number text
