-- Integers of a stated count of bytes: two's complement, in either order of the bytes.
use Rattle.std.specs.Prelude.{ℕ, ◌-◌, ◌/◌, ◌^◌, nat_lt, ◌<◌, if◌then◌else◌, ℤ, pos, negsuc, List, reverse}
use Rattle.vs_bytes.specs.Numbers.{number, number_bytes, part}

-- how far the integers of `width` bytes reach: half of all numbers of as many bytes
unfoldable pub half : ℕ → ℕ
half width = 256 ^ width / 2

-- a number of `width` bytes as two's complement: from one half on it stands for the number less 256 ^ width
unfoldable pub signed_number : ℕ → ℕ → ℤ
signed_number width n = if nat_lt n (half width) then pos n else negsuc (256 ^ width - 1 - n)

-- the number of `width` bytes that stands for an integer
unfoldable pub unsigned_number : ℕ → ℤ → ℕ
unsigned_number width (pos n) = n
unsigned_number width (negsuc n) = 256 ^ width - 1 - n

-- how far an integer reaches: both -1 and 0 reach 0
abbrev pub reach : ℤ → ℕ
reach (pos n) = n
reach (negsuc n) = n

-- the integer has `width` bytes at most
abbrev pub FitsBytes : ℕ → ℤ → Type 0
FitsBytes width z = reach z < half width

-- the integer in the `width` bytes from `at` on, the lowest first, and the highest first
abbrev pub little_integer : List ℕ → ℕ → ℕ → ℤ
little_integer bytes at width = signed_number width (number bytes at width)

abbrev pub big_integer : List ℕ → ℕ → ℕ → ℤ
big_integer bytes at width = signed_number width (number (reverse (part bytes at width)) 0 width)

-- the `width` bytes of an integer, the lowest first, and the highest first
abbrev pub little_integer_bytes : ℕ → ℤ → List ℕ
little_integer_bytes width z = number_bytes width (unsigned_number width z)

abbrev pub big_integer_bytes : ℕ → ℤ → List ℕ
big_integer_bytes width z = reverse (number_bytes width (unsigned_number width z))
