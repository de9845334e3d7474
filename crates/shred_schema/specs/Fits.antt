-- Which values fit a kind of cells, and the value that a cell stands for (VariantShredding.md, "Shredded Value
-- Types"). A kind that is added later is a row in each table.
use Rattle.std.specs.Prelude.{ℕ, ◌-◌, ◌*◌, ◌^◌, ◌==◌, ◌&&◌, nat_le, nat_lt, cond, ℤ, pos, negsuc, int_lt, int_le, unsigned_abs, List, Bool, Option, Some, None, option_map, option_and_then}
use Rattle.exact_num.specs.Decimal.{Decimal, signed, least}
use Rattle.json_tree.specs.Json as json
use Rattle.json_tree.specs.Json.{Json}
use Rattle.vs_bytes.specs.declared.leaf_columns.Cell.{Cell}
use Rattle.vs_bytes.specs.declared.leaf_columns.Cell.TheVariants as cell
use Rattle.vs_bytes.specs.declared.leaf_columns.PrimKind.{PrimKind}
use Rattle.vs_bytes.specs.declared.leaf_columns.PrimKind.TheVariants as prim

abbrev pub truth_in : Json → Option Bool
truth_in (json.boolean b) = Some b
truth_in j = None

abbrev pub number_in : Json → Option Decimal
number_in (json.number d) = Some d
number_in j = None

abbrev pub text_in : Json → Option (List ℕ)
text_in (json.text s) = Some s
text_in j = None

-- the integer that a number is, if it is one from `low` to `high`
abbrev pub within : ℤ → ℤ → Decimal → Option ℤ
within low high d = cond (d.scale == 0 && (int_le low d.unscaled && int_le d.unscaled high)) (Some d.unscaled) None

-- the signed integers of so many bits
abbrev pub signed_within : ℕ → Decimal → Option ℤ
signed_within bits = within (negsuc (2 ^ (bits - 1) - 1)) (pos (2 ^ (bits - 1) - 1))

-- a number's digits with zeros at the end, so that `s` of them stand after the point
abbrev pub raised : ℕ → Decimal → ℕ
raised s d = unsigned_abs d.unscaled * 10 ^ (s - d.scale)

-- the integer that is the number times 10 ^ s, if there is one of p digits at most. Nothing is rounded
abbrev pub over_in : ℕ → ℕ → Decimal → Option ℤ
over_in p s d = cond (nat_le d.scale s && nat_lt (raised s d) (10 ^ p)) (Some (signed (int_lt d.unscaled (pos 0)) (raised s d))) None

abbrev pub number_cell : (Decimal → Option ℤ) → Json → Option Cell
number_cell f j = option_map cell.Num (option_and_then f (number_in j))

-- the cell of a value, where it fits
abbrev pub fit : PrimKind → Json → Option Cell
fit prim.Raw j = None
fit prim.Boolean j = option_map cell.Bool (truth_in j)
fit prim.Int8 j = number_cell (signed_within 8) j
fit prim.Int16 j = number_cell (signed_within 16) j
fit prim.Int32 j = number_cell (signed_within 32) j
fit prim.Int64 j = number_cell (signed_within 64) j
fit (prim.Decimal p s) j = number_cell (over_in p s) j
fit prim.Text j = option_map cell.Bytes (text_in j)
fit (prim.Refused why) j = None

-- how many digits of a cell's integer stand after the point
abbrev pub places_of : PrimKind → ℕ
places_of (prim.Decimal p s) = s
places_of q = 0

-- the value that a cell stands for
abbrev pub tree_of : PrimKind → Cell → Json
tree_of q (cell.Bool b) = json.boolean b
tree_of q (cell.Num u) = json.number (least (int_lt u (pos 0)) (unsigned_abs u) (places_of q))
tree_of q (cell.Bytes bs) = json.text bs
