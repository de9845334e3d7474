-- What a string means: the text that its pieces stand for, in UTF-8 (RFC 8259, sections 7 and 8.2).
use Rattle.std.specs.Prelude.{◌≡◌, ◌==◌, ℕ, ◌+◌, ◌*◌, List, [], ◌∷◌, ◌++◌, Bool, true, not, ◌||◌, cond, Option, Some, None, is_some}
use Rattle.std.specs.Char.{digit_value, encode_utf8}
use Rattle.std.specs.Char.Utf16.{is_high_surrogate, is_low_surrogate, surrogate_pair_char}
use Rattle.std.specs.Str.{is_utf8}
use Rattle.json_strings.specs.Pieces.{Piece, byte, short, unit, ArePieces}

-- the character of an escape of two characters: \b \f \n \r \t, and any other stands for itself
unfoldable pub short_char : ℕ → ℕ
short_char x = cond (x == 98) 8 (cond (x == 102) 12 (cond (x == 110) 10 (cond (x == 114) 13 (cond (x == 116) 9 x))))

-- the UTF-16 unit of four hexadecimal digits
unfoldable pub unit_of : ℕ → ℕ → ℕ → ℕ → ℕ
unit_of a b c d = ((digit_value a * 16 + digit_value b) * 16 + digit_value c) * 16 + digit_value d

-- What the pieces that follow mean goes by the high surrogate that stands right before them, if one does.

-- the high surrogate that a unit is
unfoldable pub high_of : ℕ → Option ℕ
high_of u = cond (is_high_surrogate u) (Some u) None

-- the text that a low surrogate adds: the character of its pair
abbrev pub pair_text : Option ℕ → ℕ → List ℕ
pair_text None low = []
pair_text (Some high) low = encode_utf8 (surrogate_pair_char high low)

-- the text that a unit adds. A surrogate with no partner adds nothing
unfoldable pub unit_text : Option ℕ → ℕ → List ℕ
unit_text high u = cond (is_high_surrogate u) [] (cond (is_low_surrogate u) (pair_text high u) (encode_utf8 u))

-- whether a unit shows a surrogate with no partner: a low one with no high one before it, or a high one
-- before it where this is no low one
unfoldable pub is_unpaired : Option ℕ → ℕ → Bool
is_unpaired None u = is_low_surrogate u
is_unpaired (Some high) u = not (is_low_surrogate u)

-- the text of the pieces after a high surrogate, or after none
abbrev pub text_after : Option ℕ → List Piece → List ℕ
text_after high [] = []
text_after high (byte x ∷ ps) = x ∷ text_after None ps
text_after high (short x ∷ ps) = short_char x ∷ text_after None ps
text_after high (unit a b c d ∷ ps) = unit_text high (unit_of a b c d) ++ text_after (high_of (unit_of a b c d)) ps

-- whether a surrogate has no partner: that high one, or one of the pieces
abbrev pub lone_after : Option ℕ → List Piece → Bool
lone_after high [] = is_some high
lone_after high (byte x ∷ ps) = is_some high || lone_after None ps
lone_after high (short x ∷ ps) = is_some high || lone_after None ps
lone_after high (unit a b c d ∷ ps) = is_unpaired high (unit_of a b c d) || lone_after (high_of (unit_of a b c d)) ps

-- the bytes of the text
abbrev pub text_of : List Piece → List ℕ
text_of ps = text_after None ps

-- whether some surrogate has no partner
abbrev pub lone_of : List Piece → Bool
lone_of ps = lone_after None ps

-- the pieces of a string, whose text is UTF-8
abbrev pub IsString : List Piece → Type 0
IsString ps = ArePieces ps × (is_utf8 (text_of ps) ≡ true)
