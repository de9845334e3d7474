-- The bytes that are written for cells, and which cells a leaf column can have.
use Rattle.std.specs.Prelude.{ℕ, ◌+◌, ◌/◌, ◌^◌, ◌<◌, ◌≤◌, if◌then◌else◌, ℤ, unsigned_abs, List, [], ◌++◌, length, map}
use Rattle.std.specs.List.{flat_map}
use Rattle.std.specs.Str.{IsUtf8}
use Rattle.exact_num.specs.Decimal.{max_digits}
use Rattle.exact_num.specs.Unscaled.{FitsBytes, little_integer_bytes, big_integer_bytes}
use Rattle.vs_bytes.specs.Numbers.{number_bytes}
use Rattle.vs_bytes.specs.PackedNumbers.{unpacked, packed}
use Rattle.vs_bytes.specs.declared.leaf_columns.Cell.{Cell}
use Rattle.vs_bytes.specs.declared.leaf_columns.Cell.TheVariants as cell
use Rattle.vs_bytes.specs.declared.leaf_columns.Phys.{Phys}
use Rattle.vs_bytes.specs.declared.leaf_columns.Phys.TheVariants as phys
use Rattle.vs_bytes.specs.declared.leaf_columns.PrimKind.{PrimKind}
use Rattle.vs_bytes.specs.declared.leaf_columns.PrimKind.TheVariants as prim

-- The cells of a leaf column.

abbrev pub HoldsTruth : Cell → Type 0
HoldsTruth (cell.Bool b) = Unit {0}
HoldsTruth (cell.Num z) = ⊥
HoldsTruth (cell.Bytes bs) = ⊥

abbrev pub HoldsNumber : (ℤ → Type 0) → Cell → Type 0
HoldsNumber P (cell.Bool b) = ⊥
HoldsNumber P (cell.Num z) = P z
HoldsNumber P (cell.Bytes bs) = ⊥

abbrev pub HoldsBytes : (List ℕ → Type 0) → Cell → Type 0
HoldsBytes P (cell.Bool b) = ⊥
HoldsBytes P (cell.Num z) = ⊥
HoldsBytes P (cell.Bytes bs) = P bs

-- a decimal has as many digits at most
abbrev pub IsDecimal : ℤ → Type 0
IsDecimal z = unsigned_abs z < 10 ^ max_digits

-- a count of bytes fits 4 bytes
abbrev pub IsShort : List ℕ → Type 0
IsShort bs = length bs < 2 ^ 32

-- the cells of a FIXED_LEN_BYTE_ARRAY
pub record IsFixed (size : ℕ) (c : Cell) : Type 0 where
  pub least : 1 ≤ size
  pub most : size ≤ 16
  pub decimal : HoldsNumber (λ z. FitsBytes size z × IsDecimal z) c

-- the cells of a BYTE_ARRAY
abbrev pub IsArray : PrimKind → Cell → Type 0
IsArray prim.Text c = HoldsBytes (λ bs. IsShort bs × IsUtf8 bs) c
IsArray (prim.Decimal p s) c = HoldsNumber IsDecimal c
IsArray kind c = HoldsBytes IsShort c

abbrev pub IsCell : Phys → PrimKind → Cell → Type 0
IsCell phys.Boolean kind c = HoldsTruth c
IsCell phys.Int32 kind c = HoldsNumber (FitsBytes 4) c
IsCell phys.Int64 kind c = HoldsNumber (FitsBytes 8) c
IsCell (phys.Fixed size) kind c = IsFixed size c
IsCell type kind c = IsArray kind c

-- Their bytes.

-- the bytes of a number, where the cell has one
abbrev pub number_written : (ℤ → List ℕ) → Cell → List ℕ
number_written bytes (cell.Bool b) = []
number_written bytes (cell.Num z) = bytes z
number_written bytes (cell.Bytes bs) = []

-- the bytes of a decimal, the highest first
unfoldable pub decimal_written : ℕ → ℤ → List ℕ
decimal_written size z = big_integer_bytes size z

-- how many bytes a decimal has in a BYTE_ARRAY
abbrev pub decimal_bytes : ℕ
decimal_bytes = 16

unfoldable pub array_written : Cell → List ℕ
array_written (cell.Bool b) = []
array_written (cell.Num z) = number_bytes 4 decimal_bytes ++ decimal_written decimal_bytes z
array_written (cell.Bytes bs) = number_bytes 4 (length bs) ++ bs

-- a cell of any type but BOOLEAN, whose cells are bits
abbrev pub cell_written : Phys → Cell → List ℕ
cell_written phys.Boolean c = []
cell_written phys.Int32 c = number_written (little_integer_bytes 4) c
cell_written phys.Int64 c = number_written (little_integer_bytes 8) c
cell_written (phys.Fixed size) c = number_written (decimal_written size) c
cell_written type c = array_written c

abbrev pub bit : Cell → ℕ
bit (cell.Bool b) = if b then 1 else 0
bit (cell.Num z) = 0
bit (cell.Bytes bs) = 0

-- truth values, eight a byte. What isn't there in the last byte is 0
unfoldable pub booleans_written : List Cell → List ℕ
booleans_written cs = unpacked 8 ((length cs + 7) / 8) (packed 1 (map bit cs))

abbrev pub plain_written : Phys → List Cell → List ℕ
plain_written phys.Boolean cs = booleans_written cs
plain_written type cs = flat_map (cell_written type) cs
