-- Unsigned numbers of a stated count of bytes, the lowest byte first, and parts of bytes.
use Rattle.std.specs.Prelude.{◌≡◌, ℕ, ◌^◌, nat_lt, if◌then◌else◌, List, ◌++◌, take, drop}
use Rattle.byteorder.specs.Endian.{little_number, little_bytes}

-- the number in the `width` bytes from `at` on
abbrev pub number : List ℕ → ℕ → ℕ → ℕ
number bytes at width = little_number width (drop at bytes)

-- the `width` bytes of a number
abbrev pub number_bytes : ℕ → ℕ → List ℕ
number_bytes width n = little_bytes width n

-- the least count of bytes, from 1 to 4, that holds a number
unfoldable pub width_of : ℕ → ℕ
width_of n = if nat_lt n (256 ^ 1) then 1 else if nat_lt n (256 ^ 2) then 2 else if nat_lt n (256 ^ 3) then 3 else 4

-- the `len` bytes from `at` on
abbrev pub part : List ℕ → ℕ → ℕ → List ℕ
part bytes at len = take len (drop at bytes)

-- some bytes lie within others, in one piece
pub record IsPart (piece whole : List ℕ) : Type 0 where
  pub before : List ℕ
  pub after : List ℕ
  pub joined : whole ≡ before ++ (piece ++ after)
