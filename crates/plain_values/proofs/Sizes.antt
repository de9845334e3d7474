-- What fits.
use Rattle.std.proofs.Common.{ℕ, ℤ, pos, negsuc, List, arith}
use Rattle.exact_num.specs.Unscaled.{half, FitsBytes}
use Rattle.vs_bytes.specs.declared.leaf_columns.Cell.TheVariants as cell
use Rattle.vs_bytes.specs.declared.leaf_columns.PrimKind.{PrimKind}
use Rattle.vs_bytes.specs.declared.leaf_columns.PrimKind.TheVariants as prim
use Rattle.plain_values.specs.Written.{IsDecimal, IsShort, IsArray}

pub decimal_fits : (z : ℤ) → IsDecimal z → FitsBytes 16 z
unfolding half
decimal_fits (pos n) h = omega (arith, h)
decimal_fits (negsuc n) h = omega (arith, h)

-- what an array's cell holds, by what it is

pub array_decimal : (kind : PrimKind) (z : ℤ) → IsArray kind (cell.Num z) → IsDecimal z
array_decimal prim.Raw z h = elim h [ ]
array_decimal prim.Boolean z h = elim h [ ]
array_decimal prim.Int8 z h = elim h [ ]
array_decimal prim.Int16 z h = elim h [ ]
array_decimal prim.Int32 z h = elim h [ ]
array_decimal prim.Int64 z h = elim h [ ]
array_decimal (prim.Decimal p s) z h = h
array_decimal prim.Text z h = elim h [ ]
array_decimal (prim.Refused rule) z h = elim h [ ]

pub array_short : (kind : PrimKind) (bs : List ℕ) → IsArray kind (cell.Bytes bs) → IsShort bs
array_short prim.Raw bs h = h
array_short prim.Boolean bs h = h
array_short prim.Int8 bs h = h
array_short prim.Int16 bs h = h
array_short prim.Int32 bs h = h
array_short prim.Int64 bs h = h
array_short (prim.Decimal p s) bs h = elim h [ ]
array_short prim.Text bs h = h.0
array_short (prim.Refused rule) bs h = h
