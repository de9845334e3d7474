-- How a string is written (RFC 8259, section 7): its pieces in turn, and their bytes.
use Rattle.std.specs.Prelude.{◌≢◌, ℕ, ◌≤◌, ◌⊎◌, List, [], ◌∷◌, Contains}
use Rattle.std.specs.List.{AllByRecursion}

-- one byte of a string as it stands, an escape of two characters, or \u with its four digits
pub data Piece : Type 0 where
  byte : ℕ → Piece
  short : ℕ → Piece
  unit : ℕ → ℕ → ℕ → ℕ → Piece

-- the rest of a string after its opening quote, its closing quote, and what is after that
abbrev pub pieces_spelled : List Piece → List ℕ → List ℕ
pieces_spelled [] after = 34 ∷ after
pieces_spelled (byte x ∷ ps) after = x ∷ pieces_spelled ps after
pieces_spelled (short x ∷ ps) after = 92 ∷ (x ∷ pieces_spelled ps after)
pieces_spelled (unit a b c d ∷ ps) after = 92 ∷ (117 ∷ (a ∷ (b ∷ (c ∷ (d ∷ pieces_spelled ps after)))))

-- 0-9, A-F, a-f
abbrev pub IsHexDigit : ℕ → Type 0
IsHexDigit x = ((48 ≤ x) × (x ≤ 57)) ⊎ (((65 ≤ x) × (x ≤ 70)) ⊎ ((97 ≤ x) × (x ≤ 102)))

-- the bytes that make an escape of two characters: \" \\ \/ \b \f \n \r \t
abbrev pub short_escapes : List ℕ
short_escapes = 34 ∷ (92 ∷ (47 ∷ (98 ∷ (102 ∷ (110 ∷ (114 ∷ (116 ∷ [])))))))

-- a byte that stands for itself is no control byte, no quote and no backslash. That the bytes are
-- UTF-8 is asked of the text (section 8.1)
abbrev pub IsPiece : Piece → Type 0
IsPiece (byte x) = (32 ≤ x) × (x ≢ 34) × (x ≢ 92)
IsPiece (short x) = Contains short_escapes x
IsPiece (unit a b c d) = IsHexDigit a × IsHexDigit b × IsHexDigit c × IsHexDigit d

abbrev pub ArePieces : List Piece → Type 0
ArePieces ps = AllByRecursion IsPiece ps
