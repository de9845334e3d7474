-- The reading of a string as functions on its bytes, after its opening quote. They give its
-- pieces and the bytes after its closing quote.
use Rattle.std.specs.Prelude.{◌==◌, nat_le, nat_lt, ℕ, List, [], ◌∷◌, Bool, not, ◌&&◌, cond, if◌then◌else◌, Option, Some, None, option_and_then}
use Rattle.std.specs.Option.{option_map}
use Rattle.std.specs.List.{list_any}
use Rattle.std.specs.Char.{digit_value}
use Rattle.std.specs.Str.{is_utf8}
use Rattle.byte_parsing.specs.Parse.{and_then}
use Rattle.json_strings.specs.Pieces.{Piece, byte, short, unit, short_escapes}
use Rattle.json_strings.specs.Meaning.{text_of, lone_of}

-- a byte that stands for itself
unfoldable pub is_plain : ℕ → Bool
is_plain x = nat_le 32 x && (not (x == 34) && not (x == 92))

-- after a backslash, a byte that makes an escape of two characters
unfoldable pub is_short : ℕ → Bool
is_short x = list_any (λ y. x == y) short_escapes

abbrev pub is_hex : ℕ → Bool
is_hex x = nat_lt (digit_value x) 16

-- four hexadecimal digits
unfoldable pub are_hex : ℕ → ℕ → ℕ → ℕ → Bool
are_hex a b c d = is_hex a && (is_hex b && (is_hex c && is_hex d))

abbrev pub with_piece : Piece → List Piece × List ℕ → List Piece × List ℕ
with_piece piece read = (piece ∷ read.0, read.1)

abbrev mutual
  pub pieces_at : List ℕ → Option (List Piece × List ℕ)
  pieces_at [] = None
  pieces_at (x ∷ xs) =
      cond (is_plain x) (option_map (with_piece (byte x)) (pieces_at xs))
      (cond (x == 34) (Some ([], xs))
      (cond (x == 92) (pieces_behind xs) None))

  -- after a backslash
  pub pieces_behind : List ℕ → Option (List Piece × List ℕ)
  pieces_behind [] = None
  pieces_behind (x ∷ xs) =
      cond (x == 117) (pieces_unit xs)
      (cond (is_short x) (option_map (with_piece (short x)) (pieces_at xs)) None)

  -- after \u
  pub pieces_unit : List ℕ → Option (List Piece × List ℕ)
  pieces_unit (a ∷ (b ∷ (c ∷ (d ∷ xs)))) = cond (are_hex a b c d) (option_map (with_piece (unit a b c d)) (pieces_at xs)) None
  pieces_unit (a ∷ (b ∷ (c ∷ []))) = None
  pieces_unit (a ∷ (b ∷ [])) = None
  pieces_unit (a ∷ []) = None
  pieces_unit [] = None

-- a string whose text is UTF-8
unfoldable pub string_at : List ℕ → Option (List Piece × List ℕ)
string_at xs = option_and_then (λ read. cond (is_utf8 (text_of read.0)) (Some read) None) (pieces_at xs)

-- its text, whether some surrogate has no partner, and the bytes after it
abbrev pub quoted_at : List ℕ → Option (List ℕ × Bool × List ℕ)
quoted_at xs = option_map (λ read. (text_of read.0, lone_of read.0, read.1)) (string_at xs)

-- a string in which each surrogate has its partner
abbrev pub paired_string_at : List ℕ → Option (List Piece × List ℕ)
paired_string_at xs = and_then (string_at xs) (λ read. if lone_of read.0 then None else Some read)

-- its text, and the bytes after it
abbrev pub paired_text_at : List ℕ → Option (List ℕ × List ℕ)
paired_text_at xs = option_map (λ read. (text_of read.0, read.1)) (paired_string_at xs)
