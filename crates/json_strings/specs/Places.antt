-- A quoted string within bytes.
use Rattle.std.specs.Prelude.{◌≡◌, ℕ, ◌≤◌, List, ◌∷◌, Bool, length, drop}
use Rattle.json_strings.specs.Pieces.{Piece, pieces_spelled}
use Rattle.json_strings.specs.Meaning.{IsString, text_of, lone_of}

-- a string begins with its quote at the place `at`, and what is after its closing quote begins at `after`
pub record IsStringAt (bytes : List ℕ) (at after : ℕ) (text : List ℕ) (lone : Bool) : Type 0 where
  pub pieces : List Piece
  pub spelled : drop at bytes ≡ 34 ∷ pieces_spelled pieces (drop after bytes)
  pub inside : after ≤ length bytes
  pub is_string : IsString pieces
  pub text_is : text ≡ text_of pieces
  pub lone_is : lone ≡ lone_of pieces
