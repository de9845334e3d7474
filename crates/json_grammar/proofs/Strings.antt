-- Strings: what is spelled is read, and what is read is spelled.
use Rattle.std.proofs.Common.{◌≡◌, ℕ, ◌≤◌, List, [], ◌∷◌, length, arith}
use Rattle.json_strings.specs.Pieces.{Piece, byte, short, unit, pieces_spelled}
use Rattle.json_strings.specs.Meaning.{IsString}
use Rattle.json_strings.specs.Reading.{string_at}
use Rattle.json_strings.proofs.Strings as strings
use Rattle.byte_parsing.proofs.Holds.{Holds}

pub string_sound : (xs : List ℕ) → Holds (λ read. (xs ≡ pieces_spelled read.0 read.1) × IsString read.0) (string_at xs)
string_sound xs = record { here = λ read e. strings.string_sound xs read.0 read.1 e }

-- the bytes after a string stay after it
pub pieces_longer : (ps : List Piece) (after : List ℕ) → length after ≤ length (pieces_spelled ps after)
pieces_longer [] after = omega arith
pieces_longer (byte x ∷ ps) after = omega (arith, pieces_longer ps after)
pieces_longer (short x ∷ ps) after = omega (arith, pieces_longer ps after)
pieces_longer (unit a b c d ∷ ps) after = omega (arith, pieces_longer ps after)
