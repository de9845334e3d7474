-- Which statistics of a column chunk are accurate (parquet.thrift, Statistics), and those that are built.
use Rattle.std.specs.Prelude.{◌≡◌, ℕ, Bool, true, false, not, ◌||◌, ◌==◌, if◌then◌else◌, int_le, List, [], ◌∷◌, length, Option, None, Some, IfSome, IsSome, is_none, count_by}
use Rattle.std.specs.Cmp.Lexicographic.{slice_cmp}
use Rattle.std.specs.List.{AllByRecursion}
use Rattle.std.specs.Ordering.{nat_cmp, is_le}
use Rattle.std.specs.Result.{result_ok}
use Rattle.exact_num.specs.Unscaled.{little_integer}
use Rattle.vs_bytes.specs.declared.leaf_columns.Cell.{Cell}
use Rattle.vs_bytes.specs.declared.leaf_columns.Cell.TheVariants as cell
use Rattle.vs_bytes.specs.declared.leaf_columns.Entry.{Entry}
use Rattle.vs_bytes.specs.declared.leaf_columns.Leaf.{Leaf}
use Rattle.vs_bytes.specs.declared.leaf_columns.Phys.{Phys}
use Rattle.vs_bytes.specs.declared.leaf_columns.Phys.TheVariants as phys
use Rattle.vs_bytes.specs.declared.leaf_columns.PrimKind.{PrimKind}
use Rattle.vs_bytes.specs.declared.leaf_columns.PrimKind.TheVariants as prim
use Rattle.plain_values.specs.Plain.{decimal}
use Rattle.thrift_structs.specs.declared.column_chunks.Stats.{Stats}

-- Bounds: min_value and max_value.
--
-- A bound is one PLAIN value, without the length that a BYTE_ARRAY has in front of it.
--
-- | Physical type | The bytes of a bound |
-- |---|---|
-- | BOOLEAN | one, 0 or 1 |
-- | INT32, INT64 | 4 or 8, two's complement, the lowest first |
-- | BYTE_ARRAY, of decimals | 1 to 16, two's complement, the highest first |
-- | BYTE_ARRAY, of others | any: a text's bound may end within a letter |
-- | FIXED_LEN_BYTE_ARRAY | as many as a cell has, else as in a BYTE_ARRAY of decimals |

abbrev pub truth_of : ℕ → Option Cell
truth_of byte = if byte == 0 then Some (cell.Bool false) else if byte == 1 then Some (cell.Bool true) else None

abbrev pub truth_bound : List ℕ → Option Cell
truth_bound (byte ∷ []) = truth_of byte
truth_bound bytes = None

unfoldable pub integer_bound : ℕ → List ℕ → Option Cell
integer_bound size bytes = if length bytes == size then Some (cell.Num (little_integer bytes 0 size)) else None

-- of at most 38 digits
abbrev pub decimal_bound : List ℕ → Option Cell
decimal_bound bytes = result_ok (decimal bytes)

abbrev pub array_bound : PrimKind → List ℕ → Option Cell
array_bound (prim.Decimal p s) bytes = decimal_bound bytes
array_bound kind bytes = Some (cell.Bytes bytes)

-- no cell is read of the other types, so none of their bounds is
abbrev pub bound_of_type : Phys → PrimKind → List ℕ → Option Cell
bound_of_type phys.Boolean kind bytes = truth_bound bytes
bound_of_type phys.Int32 kind bytes = integer_bound 4 bytes
bound_of_type phys.Int64 kind bytes = integer_bound 8 bytes
bound_of_type phys.ByteArray kind bytes = array_bound kind bytes
bound_of_type (phys.Fixed size) kind bytes = if length bytes == size then decimal_bound bytes else None
bound_of_type phys.Float kind bytes = None
bound_of_type phys.Double kind bytes = None
bound_of_type phys.Other kind bytes = None

-- the cell that a bound spells, where it spells one
abbrev pub bound_cell : Leaf → List ℕ → Option Cell
bound_cell leaf bytes = bound_of_type leaf.phys leaf.prim bytes

-- The order of cells (parquet.thrift, TypeDefinedOrder): false before true, numbers by value, texts and raw bytes by
-- unsigned bytes. Cells of two kinds aren't in order.
abbrev pub at_most : Cell → Cell → Bool
at_most (cell.Bool a) (cell.Bool b) = not a || b
at_most (cell.Num a) (cell.Num b) = int_le a b
at_most (cell.Bytes a) (cell.Bytes b) = is_le (slice_cmp nat_cmp a b)
at_most c d = false

pub record Bounds : Type 0 where
  pub least : Cell
  pub greatest : Cell

abbrev pub both_bounds : Option Cell → Option Cell → Option Bounds
both_bounds (Some least) (Some greatest) = Some (record { least = least; greatest = greatest })
both_bounds (Some least) None = None
both_bounds None greatest = None

-- the bounds, where both are there and spell cells
abbrev pub bounds_of : Leaf → Option (List ℕ) → Option (List ℕ) → Option Bounds
bounds_of leaf (Some least) (Some greatest) = both_bounds (bound_cell leaf least) (bound_cell leaf greatest)
bounds_of leaf (Some least) None = None
bounds_of leaf None greatest = None

-- the entry has no value, or its value lies between the bounds
abbrev pub IsBetween : Bounds → Entry → Type 0
IsBetween bounds e = IfSome e.value (λ c. (at_most bounds.least c ≡ true) × (at_most c bounds.greatest ≡ true))

-- how many entries have no value
abbrev pub null_count : List Entry → ℕ
null_count entries = count_by (λ e. is_none e.value) entries

-- The statistics are true of the entries of a leaf's chunk: a null count, where there is one, is exact; each bound spells
-- a cell; and where the column order of the leaf is that of its type, known bounds enclose each value. Under any other
-- order nothing is known of what bounds enclose.
pub record AreAccurate (leaf : Leaf) (ordered : Bool) (entries : List Entry) (stats : Stats) : Type 0 where
  pub nulls : IfSome stats.nulls (λ n. n ≡ null_count entries)
  pub least : IfSome stats.least (λ bytes. IsSome (bound_cell leaf bytes))
  pub greatest : IfSome stats.greatest (λ bytes. IsSome (bound_cell leaf bytes))
  pub enclosed : ordered ≡ true → IfSome (bounds_of leaf stats.least stats.greatest) (λ bounds. AllByRecursion (IsBetween bounds) entries)

-- the statistics that are built: the null count alone
abbrev pub stats_of : List Entry → Stats
stats_of entries = record { nulls = Some (null_count entries); least = None; greatest = None }
