-- The bytes of values that hold no others (VariantEncoding.md, "Value encoding"), in the form that is written.
use Rattle.std.specs.Prelude.{ℕ, ◌+◌, ◌*◌, ◌^◌, ◌==◌, nat_lt, nat_le, Bool, if◌then◌else◌, List, ◌∷◌, ◌++◌, length, ℤ, unsigned_abs}
use Rattle.exact_num.specs.Decimal.{Decimal}
use Rattle.exact_num.specs.Unscaled.{half, reach, little_integer_bytes}
use Rattle.vs_bytes.specs.Numbers.{number_bytes}
use Rattle.variant_meta.specs.TypeIds.{short_string_type, int8_id, int16_id, int32_id, int64_id, decimal4_id, decimal8_id, decimal16_id, string_id}

-- byte 0 of a type id, whose basic type is `primitive_type`, and of a short string of so many bytes
abbrev pub primitive_head : ℕ → ℕ
primitive_head type_id = 4 * type_id

abbrev pub short_string_head : ℕ → ℕ
short_string_head len = short_string_type + 4 * len

-- an integer of `width` bytes
unfoldable pub integer_bytes : ℕ → ℕ → ℤ → List ℕ
integer_bytes type_id width z = primitive_head type_id ∷ little_integer_bytes width z

-- a scale, and an unscaled integer of `width` bytes
unfoldable pub decimal_bytes : ℕ → ℕ → Decimal → List ℕ
decimal_bytes type_id width d = primitive_head type_id ∷ (d.scale ∷ little_integer_bytes width d.unscaled)

-- the integer has `width` bytes at most
abbrev pub fits_bytes : ℕ → ℤ → Bool
fits_bytes width z = nat_lt (reach z) (half width)

-- a whole number: the narrowest of int8, int16, int32 and int64, else decimal16
unfoldable pub whole_bytes : Decimal → List ℕ
whole_bytes d =
    if fits_bytes 1 d.unscaled then integer_bytes int8_id 1 d.unscaled
    else if fits_bytes 2 d.unscaled then integer_bytes int16_id 2 d.unscaled
    else if fits_bytes 4 d.unscaled then integer_bytes int32_id 4 d.unscaled
    else if fits_bytes 8 d.unscaled then integer_bytes int64_id 8 d.unscaled
    else decimal_bytes decimal16_id 16 d

-- a fraction: decimal4 for up to 9 digits, decimal8 for up to 18, else decimal16
unfoldable pub fraction_bytes : Decimal → List ℕ
fraction_bytes d =
    if nat_lt (unsigned_abs d.unscaled) (10 ^ 9) then decimal_bytes decimal4_id 4 d
    else if nat_lt (unsigned_abs d.unscaled) (10 ^ 18) then decimal_bytes decimal8_id 8 d
    else decimal_bytes decimal16_id 16 d

unfoldable pub decimal_coded : Decimal → List ℕ
decimal_coded d = if d.scale == 0 then whole_bytes d else fraction_bytes d

-- the longest text that is written as a short string
abbrev pub max_short_string : ℕ
max_short_string = 63

unfoldable pub text_coded : List ℕ → List ℕ
text_coded s =
    if nat_le (length s) max_short_string then short_string_head (length s) ∷ s
    else primitive_head string_id ∷ (number_bytes 4 (length s) ++ s)
