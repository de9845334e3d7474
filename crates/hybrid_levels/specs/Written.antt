-- The parts that are written for numbers: at each place a run of the numbers that are equal from there on, where
-- they are 8 or more, else a group of the next 8 numbers, filled up with 0.
use Rattle.std.specs.Prelude.{ℕ, zero, suc, ◌+◌, ◌*◌, ◌/◌, ◌%◌, ◌==◌, nat_lt, nat_le, if◌then◌else◌, List, [], ◌∷◌, ◌++◌, length, take, drop, slice_index}
use Rattle.std.specs.List.{prefix_len}
use Rattle.vs_bytes.specs.Numbers.{number_bytes}
use Rattle.vs_bytes.specs.PackedNumbers.{unpacked, packed}

-- a number in as few bytes of 7 bits as it needs, at most `most`. All but the last have their high bit set
abbrev pub varint_bytes : ℕ → ℕ → List ℕ
varint_bytes zero n = []
varint_bytes (suc most) n = if nat_lt n 128 then n ∷ [] else (128 + n % 128) ∷ varint_bytes most (n / 128)

-- a run of `copies` of n
unfoldable pub run : ℕ → ℕ → ℕ → List ℕ
run width copies n = varint_bytes 5 (2 * copies) ++ number_bytes ((width + 7) / 8) n

-- one group of at most 8 numbers. What isn't there is 0, since no bits of it are set
unfoldable pub group : ℕ → List ℕ → List ℕ
group width ns = 3 ∷ unpacked 8 width (packed width ns)

-- how many numbers at the front are equal
unfoldable pub stretch : List ℕ → ℕ
stretch ns = prefix_len (λ n. n == slice_index ns 0) ns

-- the part for the front, and how many numbers it is for
unfoldable pub piece : ℕ → List ℕ → List ℕ
piece width ns = if nat_le 8 (stretch ns) then run width (stretch ns) (slice_index ns 0) else group width (take 8 ns)

unfoldable pub piece_count : List ℕ → ℕ
piece_count ns = if nat_le 8 (stretch ns) then stretch ns else 8

-- at most `most` parts
abbrev pub pieces : ℕ → ℕ → List ℕ → List ℕ
pieces width zero ns = []
pieces width (suc most) [] = []
pieces width (suc most) (n ∷ ns) = piece width (n ∷ ns) ++ pieces width most (drop (piece_count (n ∷ ns)) (n ∷ ns))

-- the bytes of numbers. A part is for one number or more, so there are no more parts than numbers
abbrev pub encoded : ℕ → List ℕ → List ℕ
encoded width ns = pieces width (length ns) ns
