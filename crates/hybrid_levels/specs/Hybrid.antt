-- The RLE/bit-packing hybrid (Encodings.md, "Run Length Encoding / Bit-Packing Hybrid"): numbers of `width`
-- bits in parts, each a run of one number or groups of 8 numbers.
--
-- | Part | Header | Content |
-- |---|---|---|
-- | a run of n copies | 2 * n | the number, in (width + 7) / 8 bytes |
-- | n groups | 2 * n + 1 | 8 * n numbers of `width` bits each, the first one in the lowest bits |
--
-- A header is below 2 ^ 32 and takes at most 5 bytes. The last part may have up to 7 numbers more than are asked
-- for, to fill up its last group. Bytes after it are passed over.
use Rattle.std.specs.Prelude.{ℕ, zero, suc, ◌+◌, ◌-◌, ◌*◌, ◌/◌, ◌%◌, ◌^◌, ◌==◌, nat_lt, nat_le, Bool, if◌then◌else◌, List, [], ◌∷◌, length, take, drop, replicate, Result, Ok, Err}
use Rattle.vs_bytes.specs.Numbers.{part}
use Rattle.vs_bytes.specs.Outcome.{◌>>=◌}
use Rattle.vs_bytes.specs.PackedNumbers.{unpacked, little}
use Rattle.vs_bytes.specs.PartsInTurn.{after}
use Rattle.vs_bytes.specs.declared.rule.Rule.{Rule}
use Rattle.vs_bytes.specs.declared.rule.Rule.TheVariants.{RunShort, RunTooLong}

-- The header.

-- a number in at most `most` bytes of 7 bits each, the lowest first, and how many bytes that took. Where the
-- high bit of a byte is set, more follow
abbrev pub varint : ℕ → List ℕ → Result (ℕ × ℕ) Rule
varint zero bytes = Err RunTooLong
varint (suc most) [] = Err RunShort
varint (suc most) (byte ∷ bytes) =
    if nat_lt byte 128 then Ok (byte, 1)
    else varint most bytes >>= (λ v. Ok (byte - 128 + 128 * v.0, v.1 + 1))

-- the header at the front, and how many bytes that took
unfoldable pub header : List ℕ → Result (ℕ × ℕ) Rule
header bytes = varint 5 bytes >>= (λ h. if nat_lt h.0 (2 ^ 32) then Ok h else Err RunTooLong)

abbrev pub is_run : ℕ → Bool
is_run h = h % 2 == 0

-- The content after a header.

-- how many bytes it takes
abbrev pub content_len : ℕ → ℕ → ℕ
content_len width h = if is_run h then (width + 7) / 8 else h / 2 * width

-- how many numbers it has
abbrev pub content_count : ℕ → ℕ
content_count h = if is_run h then h / 2 else 8 * (h / 2)

-- its numbers
abbrev pub content_numbers : ℕ → ℕ → List ℕ → List ℕ
content_numbers width h bytes =
    if is_run h then replicate (content_count h) (little bytes) else unpacked width (content_count h) (little bytes)

-- whether it has more numbers than `left`, a last group's filling aside
abbrev pub passes : ℕ → ℕ → Bool
passes h left = if is_run h then nat_lt left (content_count h) else nat_le (left + 8) (content_count h)

-- Parts.

-- the header of the part at the front, where the whole part is there and has no number too many
unfoldable pub part_header : ℕ → ℕ → List ℕ → Result (ℕ × ℕ) Rule
part_header width left bytes = header bytes >>= (λ h.
    if nat_lt (length bytes) (h.1 + content_len width h.0) then Err RunShort
    else if passes h.0 left then Err RunTooLong
    else Ok h)

-- the numbers of the part at the front, at most `left`, and how many bytes it takes
unfoldable pub front_part : ℕ → ℕ → List ℕ → Result (List ℕ × ℕ) Rule
front_part width left bytes = part_header width left bytes >>= (λ h.
    Ok (take left (content_numbers width h.0 (part bytes h.1 (content_len width h.0))), h.1 + content_len width h.0))

-- `left` numbers from at most `most` parts
abbrev pub parts : ℕ → ℕ → ℕ → List ℕ → Result (List ℕ × ℕ) Rule
parts width most zero bytes = Ok ([], 0)
parts width zero (suc left) bytes = Err RunShort
parts width (suc most) (suc left) bytes =
    front_part width (suc left) bytes >>= (λ p. after p.0 p.1 (parts width most (suc left - length p.0) (drop p.1 bytes)))

-- `count` numbers from the front, and how many bytes they take, or the first rule that is violated. Each part
-- takes a byte or more, so there are no more parts than bytes
abbrev pub decoded : ℕ → ℕ → List ℕ → Result (List ℕ × ℕ) Rule
decoded width count bytes = parts width (length bytes) count bytes

-- The same with lengths in place of numbers.

-- how many numbers and how many bytes the part at the front has
abbrev pub front_size : ℕ → ℕ → List ℕ → Result (ℕ × ℕ) Rule
front_size width left bytes = front_part width left bytes >>= (λ p. Ok (length p.0, p.1))

-- how many bytes `count` numbers take
abbrev pub decoded_len : ℕ → ℕ → List ℕ → Result ℕ Rule
decoded_len width count bytes = decoded width count bytes >>= (λ p. Ok p.1)
