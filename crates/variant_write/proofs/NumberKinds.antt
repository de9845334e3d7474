-- Which kind of number holds an integer.
use Rattle.std.proofs.Common.{◌≡◌, refl, ◌^◌, ◌<◌, ◌≤◌, ℤ, pos, negsuc, unsigned_abs, arith}
use Rattle.std.proofs.lemmas.Bool.{le-ltb, lt-ltb}
use Rattle.exact_num.specs.Decimal.{Decimal}
use Rattle.exact_num.specs.Unscaled.{half, reach, FitsBytes}
use Rattle.variant_meta.specs.TypeIds.{int8_id, int16_id, int32_id, int64_id, decimal4_id, decimal8_id, decimal16_id}
use Rattle.variant_write.specs.Primitives.{integer_bytes, decimal_bytes, whole_bytes, fraction_bytes}

-- A whole number, by how far it reaches.

pub fits_int8 : (z : ℤ) → reach z < 128 → FitsBytes 1 z
unfolding half
fits_int8 z h = h

pub fits_int16 : (z : ℤ) → reach z < 32768 → FitsBytes 2 z
unfolding half
fits_int16 z h = h

pub fits_int32 : (z : ℤ) → reach z < 2147483648 → FitsBytes 4 z
unfolding half
fits_int32 z h = h

pub fits_int64 : (z : ℤ) → reach z < 9223372036854775808 → FitsBytes 8 z
unfolding half
fits_int64 z h = h

pub in_int8 : (d : Decimal) → reach d.unscaled < 128 → whole_bytes d ≡ integer_bytes int8_id 1 d.unscaled
unfolding whole_bytes half
in_int8 d h = rw (lt-ltb (reach d.unscaled) 128 h) refl

pub in_int16 : (d : Decimal) → 128 ≤ reach d.unscaled → reach d.unscaled < 32768 → whole_bytes d ≡ integer_bytes int16_id 2 d.unscaled
unfolding whole_bytes half
in_int16 d g h = rw (le-ltb (reach d.unscaled) 128 g, lt-ltb (reach d.unscaled) 32768 h) refl

pub in_int32 : (d : Decimal) → 32768 ≤ reach d.unscaled → reach d.unscaled < 2147483648 → whole_bytes d ≡ integer_bytes int32_id 4 d.unscaled
unfolding whole_bytes half
in_int32 d g h =
    rw (le-ltb (reach d.unscaled) 128 (omega (arith, g)), le-ltb (reach d.unscaled) 32768 g, lt-ltb (reach d.unscaled) 2147483648 h) refl

pub in_int64 : (d : Decimal) → 2147483648 ≤ reach d.unscaled → reach d.unscaled < 9223372036854775808 → whole_bytes d ≡ integer_bytes int64_id 8 d.unscaled
unfolding whole_bytes half
in_int64 d g h =
    rw (le-ltb (reach d.unscaled) 128 (omega (arith, g)), le-ltb (reach d.unscaled) 32768 (omega (arith, g)), le-ltb (reach d.unscaled) 2147483648 g, lt-ltb (reach d.unscaled) 9223372036854775808 h)
    refl

pub past_int64 : (d : Decimal) → 9223372036854775808 ≤ reach d.unscaled → whole_bytes d ≡ decimal_bytes decimal16_id 16 d
unfolding whole_bytes half
past_int64 d g =
    rw (le-ltb (reach d.unscaled) 128 (omega (arith, g)), le-ltb (reach d.unscaled) 32768 (omega (arith, g)), le-ltb (reach d.unscaled) 2147483648 (omega (arith, g)), le-ltb (reach d.unscaled) 9223372036854775808 g)
    refl

-- A fraction, by its digits.

size_reach : (z : ℤ) → reach z ≤ unsigned_abs z
size_reach (pos n) = omega arith
size_reach (negsuc n) = omega arith

pub fits_decimal4 : (z : ℤ) → unsigned_abs z < 1000000000 → FitsBytes 4 z
unfolding half
fits_decimal4 z h = let e = size_reach z in omega (arith, e, h)

pub fits_decimal8 : (z : ℤ) → unsigned_abs z < 1000000000000000000 → FitsBytes 8 z
unfolding half
fits_decimal8 z h = let e = size_reach z in omega (arith, e, h)

pub fits_decimal16 : (z : ℤ) → unsigned_abs z < 10 ^ 38 → FitsBytes 16 z
unfolding half
fits_decimal16 z h = let e = size_reach z in omega (arith, e, h)

pub in_decimal4 : (d : Decimal) → unsigned_abs d.unscaled < 1000000000 → fraction_bytes d ≡ decimal_bytes decimal4_id 4 d
unfolding fraction_bytes
in_decimal4 d h = rw (lt-ltb (unsigned_abs d.unscaled) 1000000000 h) refl

pub in_decimal8 : (d : Decimal) → 1000000000 ≤ unsigned_abs d.unscaled → unsigned_abs d.unscaled < 1000000000000000000 → fraction_bytes d ≡ decimal_bytes decimal8_id 8 d
unfolding fraction_bytes
in_decimal8 d g h =
    rw (le-ltb (unsigned_abs d.unscaled) 1000000000 g, lt-ltb (unsigned_abs d.unscaled) 1000000000000000000 h) refl

pub past_decimal8 : (d : Decimal) → 1000000000000000000 ≤ unsigned_abs d.unscaled → fraction_bytes d ≡ decimal_bytes decimal16_id 16 d
unfolding fraction_bytes
past_decimal8 d g =
    rw (le-ltb (unsigned_abs d.unscaled) 1000000000 (omega (arith, g)), le-ltb (unsigned_abs d.unscaled) 1000000000000000000 g) refl
