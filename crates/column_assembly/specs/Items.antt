-- What is asked of the first item of a leaf's entries.
use Rattle.std.specs.Prelude.{ℕ, List, [], ◌∷◌, Bool, true, false, ◌&&◌, ◌||◌, not, cond, Option, Some, None, ℤ}
use Rattle.vs_bytes.specs.declared.leaf_columns.Cell.{Cell}
use Rattle.vs_bytes.specs.declared.leaf_columns.Cell.TheVariants as leaf_cell
use Rattle.vs_bytes.specs.declared.leaf_columns.PrimKind.{PrimKind}
use Rattle.shred_schema.specs.Cells.{is_of_prim}
use Rattle.vs_bytes.specs.declared.leaf_columns.Entry.{Entry}
use Rattle.record_assembly.specs.Cuts.{later_items, is_nil}
use Rattle.record_assembly.specs.Reading.{has_levels}

-- it is one entry, which has these levels
abbrev pub is_one : ℕ → ℕ → List Entry → Bool
is_one r d [] = false
is_one r d (e ∷ []) = has_levels r d e
is_one r d (e ∷ f ∷ es) = false

-- a row's entries are all there: another row begins after them, or the leaf has ended
abbrev pub is_whole : Bool → List Entry → Bool
is_whole ended es = not (is_nil es) && (ended || not (is_nil (later_items 0 es)))

-- a cell, where it is one of the kind
abbrev pub cell_of : PrimKind → Option Cell → Option Cell
cell_of q None = None
cell_of q (Some c) = cond (is_of_prim q c) (Some c) None

-- the number that a cell holds
abbrev pub number_in : Option Cell → Option ℤ
number_in None = None
number_in (Some (leaf_cell.Bool b)) = None
number_in (Some (leaf_cell.Num n)) = Some n
number_in (Some (leaf_cell.Bytes bytes)) = None

-- the value of the first entry
abbrev pub first_value : List Entry → Option Cell
first_value [] = None
first_value (e ∷ es) = e.value

-- what is read of a slot is that there is no value
abbrev pub is_no_value : Option (Option (List ℕ)) → Bool
is_no_value None = false
is_no_value (Some None) = true
is_no_value (Some (Some bytes)) = false
