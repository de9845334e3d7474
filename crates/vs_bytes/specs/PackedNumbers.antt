-- Numbers of a count of bits each, packed into one number: the first one in its lowest bits.
use Rattle.std.specs.Prelude.{ℕ, zero, suc, ◌+◌, ◌*◌, ◌/◌, ◌%◌, ◌^◌, List, [], ◌∷◌}

-- `count` numbers of `width` bits, from the low end of a number
abbrev pub unpacked : ℕ → ℕ → ℕ → List ℕ
unpacked width zero n = []
unpacked width (suc count) n = n % 2 ^ width ∷ unpacked width count (n / 2 ^ width)

-- numbers below 2 ^ width as one number
abbrev pub packed : ℕ → List ℕ → ℕ
packed width [] = 0
packed width (n ∷ ns) = n + 2 ^ width * packed width ns

-- bytes as one number, the lowest first
abbrev pub little : List ℕ → ℕ
little bytes = packed 8 bytes
