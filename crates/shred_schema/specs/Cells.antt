-- Which cells a kind of values has (VariantShredding.md, "Shredded Value Types").
use Rattle.std.specs.Prelude.{◌<◌, ◌^◌, nat_lt, Bool, true, false, ℤ, unsigned_abs}
use Rattle.std.specs.Str.{IsUtf8, is_utf8}
use Rattle.exact_num.specs.Decimal.{max_digits}
use Rattle.exact_num.specs.Unscaled.{FitsBytes, reach, half}
use Rattle.vs_bytes.specs.declared.leaf_columns.Cell.{Cell}
use Rattle.vs_bytes.specs.declared.leaf_columns.Cell.TheVariants as cell
use Rattle.vs_bytes.specs.declared.leaf_columns.PrimKind.{PrimKind}
use Rattle.vs_bytes.specs.declared.leaf_columns.PrimKind.TheVariants as prim

-- a decimal has so many digits at most
abbrev pub IsWithinDigits : ℤ → Type 0
IsWithinDigits z = unsigned_abs z < 10 ^ max_digits

-- the cells of a kind. A kind that isn't read has none
abbrev pub IsCell : PrimKind → Cell → Type 0
IsCell prim.Raw (cell.Bytes bs) = Unit {0}
IsCell prim.Boolean (cell.Bool b) = Unit {0}
IsCell prim.Int8 (cell.Num z) = FitsBytes 4 z
IsCell prim.Int16 (cell.Num z) = FitsBytes 4 z
IsCell prim.Int32 (cell.Num z) = FitsBytes 4 z
IsCell prim.Int64 (cell.Num z) = FitsBytes 8 z
IsCell (prim.Decimal p s) (cell.Num z) = IsWithinDigits z
IsCell prim.Text (cell.Bytes bs) = IsUtf8 bs
IsCell q c = ⊥

-- the same as a test
abbrev pub is_of_prim : PrimKind → Cell → Bool
is_of_prim prim.Raw (cell.Bytes bs) = true
is_of_prim prim.Boolean (cell.Bool b) = true
is_of_prim prim.Int8 (cell.Num z) = nat_lt (reach z) (half 4)
is_of_prim prim.Int16 (cell.Num z) = nat_lt (reach z) (half 4)
is_of_prim prim.Int32 (cell.Num z) = nat_lt (reach z) (half 4)
is_of_prim prim.Int64 (cell.Num z) = nat_lt (reach z) (half 8)
is_of_prim (prim.Decimal p s) (cell.Num z) = nat_lt (unsigned_abs z) (10 ^ max_digits)
is_of_prim prim.Text (cell.Bytes bs) = is_utf8 bs
is_of_prim q c = false
