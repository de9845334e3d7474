-- PLAIN (Encodings.md, "Plain"): cells one after the other.
--
-- | Physical type | A cell |
-- |---|---|
-- | BOOLEAN | one bit, the first cell in the lowest bit |
-- | INT32, INT64 | 4 or 8 bytes, two's complement, the lowest byte first |
-- | BYTE_ARRAY | how many bytes there are, in 4 bytes, then the bytes |
-- | FIXED_LEN_BYTE_ARRAY | the bytes |
--
-- The bytes of a decimal are two's complement, the highest byte first. A cell is judged whole before the next one:
-- first whether its bytes are there, then what they hold.
use Rattle.std.specs.Prelude.{ℕ, zero, suc, ◌+◌, ◌*◌, ◌^◌, ◌==◌, nat_lt, ◌||◌, if◌then◌else◌, ℤ, unsigned_abs, List, [], ◌∷◌, length, take, drop, map, Result, Ok, Err}
use Rattle.std.specs.Str.{is_utf8}
use Rattle.exact_num.specs.Decimal.{max_digits}
use Rattle.exact_num.specs.Unscaled.{little_integer, big_integer}
use Rattle.vs_bytes.specs.Numbers.{number, part}
use Rattle.vs_bytes.specs.Outcome.{◌>>=◌}
use Rattle.vs_bytes.specs.PackedNumbers.{unpacked, little}
use Rattle.vs_bytes.specs.declared.leaf_columns.Cell.{Cell}
use Rattle.vs_bytes.specs.declared.leaf_columns.Cell.TheVariants as cell
use Rattle.vs_bytes.specs.declared.leaf_columns.Phys.{Phys}
use Rattle.vs_bytes.specs.declared.leaf_columns.Phys.TheVariants as phys
use Rattle.vs_bytes.specs.declared.leaf_columns.PrimKind.{PrimKind}
use Rattle.vs_bytes.specs.declared.leaf_columns.PrimKind.TheVariants as prim
use Rattle.vs_bytes.specs.declared.rule.Rule.{Rule}
use Rattle.vs_bytes.specs.declared.rule.Rule.TheVariants.{PlainShort, DecimalDigits, TextUtf8}

-- What bytes hold.

-- the longest decimal in bytes
abbrev pub most_decimal_bytes : ℕ
most_decimal_bytes = 16

abbrev pub admitted : ℤ → Result Cell Rule
admitted z = if nat_lt (unsigned_abs z) (10 ^ max_digits) then Ok (cell.Num z) else Err DecimalDigits

unfoldable pub decimal : List ℕ → Result Cell Rule
decimal bytes =
    if length bytes == 0 || nat_lt most_decimal_bytes (length bytes) then Err DecimalDigits
    else admitted (big_integer bytes 0 (length bytes))

unfoldable pub text : List ℕ → Result Cell Rule
text bytes = if is_utf8 bytes then Ok (cell.Bytes bytes) else Err TextUtf8

-- the bytes of a BYTE_ARRAY, by the kind of its values
abbrev pub array_held : PrimKind → List ℕ → Result Cell Rule
array_held prim.Text bytes = text bytes
array_held (prim.Decimal p s) bytes = decimal bytes
array_held kind bytes = Ok (cell.Bytes bytes)

-- The cell at the front, and how many bytes it takes.

unfoldable pub integer : ℕ → List ℕ → Result (Cell × ℕ) Rule
integer size bytes = if nat_lt (length bytes) size then Err PlainShort else Ok (cell.Num (little_integer bytes 0 size), size)

unfoldable pub fixed : ℕ → List ℕ → Result (Cell × ℕ) Rule
fixed size bytes = if nat_lt (length bytes) size then Err PlainShort else (decimal (take size bytes) >>= (λ c. Ok (c, size)))

-- how many bytes a BYTE_ARRAY has
unfoldable pub array_len : List ℕ → ℕ
array_len bytes = number bytes 0 4

unfoldable pub array : PrimKind → List ℕ → Result (Cell × ℕ) Rule
array kind bytes =
    if nat_lt (length bytes) 4 then Err PlainShort
    else if nat_lt (length bytes) (4 + array_len bytes) then Err PlainShort
    else (array_held kind (part bytes 4 (array_len bytes)) >>= (λ c. Ok (c, 4 + array_len bytes)))

-- the cell of any type but BOOLEAN
abbrev pub front_cell : Phys → PrimKind → List ℕ → Result (Cell × ℕ) Rule
front_cell phys.Int32 kind bytes = integer 4 bytes
front_cell phys.Int64 kind bytes = integer 8 bytes
front_cell (phys.Fixed size) kind bytes = fixed size bytes
front_cell type kind bytes = array kind bytes

-- a cell with how many bytes it takes
abbrev pub with_len : ℕ → Result Cell Rule → Result (Cell × ℕ) Rule
with_len len held = held >>= (λ c. Ok (c, len))

-- how many bytes a cell takes that was read
abbrev pub len_of : Result (Cell × ℕ) Rule → Result ℕ Rule
len_of read = read >>= (λ c. Ok c.1)

-- how many bytes the cell of any type but BOOLEAN takes
abbrev pub front_len : Phys → PrimKind → List ℕ → Result ℕ Rule
front_len type kind bytes = len_of (front_cell type kind bytes)

-- Cells.

-- `count` cells that are read one by one
abbrev pub cells : (List ℕ → Result (Cell × ℕ) Rule) → ℕ → List ℕ → Result (List Cell) Rule
cells front zero bytes = Ok []
cells front (suc count) bytes = front bytes >>= (λ c. cells front count (drop c.1 bytes) >>= (λ cs. Ok (c.0 ∷ cs)))

abbrev pub truth : ℕ → Cell
truth bit = cell.Bool (bit == 1)

unfoldable pub booleans : ℕ → List ℕ → Result (List Cell) Rule
booleans count bytes =
    if nat_lt (8 * length bytes) count then Err PlainShort else Ok (map truth (unpacked 1 count (little bytes)))

-- `count` cells from the front. Bytes after them are passed over
abbrev pub plain_cells : Phys → PrimKind → ℕ → List ℕ → Result (List Cell) Rule
plain_cells phys.Boolean kind count bytes = booleans count bytes
plain_cells type kind count bytes = cells (front_cell type kind) count bytes
