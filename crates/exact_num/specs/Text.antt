-- The text that a number is printed as.
use Rattle.std.specs.Prelude.{◌==◌, ℕ, zero, suc, ◌+◌, ◌/◌, ◌%◌, ◌^◌, cond, List, [], ◌∷◌, ◌++◌, pos, int_lt, unsigned_abs, decimal, ◌≡◌}
use Rattle.exact_num.specs.Decimal.{Decimal}
use Rattle.exact_num.specs.Spelling.{sign_text}

-- the last k digits of n
unfoldable pub padded : ℕ → ℕ → List ℕ
padded zero n = []
padded (suc k) n = padded k (n / 10) ++ (48 + n % 10) ∷ []

abbrev pub point_text : ℕ → ℕ → List ℕ
point_text scale n = cond (scale == 0) [] (46 ∷ padded scale n)

-- the whole part, and as many digits after the point as the scale says
unfoldable pub size_text : ℕ → ℕ → List ℕ
size_text size scale = decimal (size / 10 ^ scale) ++ point_text scale (size % 10 ^ scale)

abbrev pub text_of : Decimal → List ℕ
text_of d = sign_text (int_lt d.unscaled (pos 0)) ++ size_text (unsigned_abs d.unscaled) d.scale

-- an output that was appended to
abbrev pub Grows : List ℕ → List ℕ → Type 0
Grows old new = (more : List ℕ) × (new ≡ old ++ more)
