-- Entries of a leaf column, taken apart: levels and values.
use Rattle.std.specs.Prelude.{ℕ, ◌≤◌, ◌==◌, Bool, true, false, List, [], ◌∷◌, map, Option, None, Some}
use Rattle.vs_bytes.specs.declared.leaf_columns.Cell.{Cell}
use Rattle.vs_bytes.specs.declared.leaf_columns.Entry.{Entry}
use Rattle.vs_bytes.specs.declared.leaf_columns.Leaf.{Leaf}
use Rattle.plain_values.specs.Written.{IsCell}

abbrev pub rep_levels : List Entry → List ℕ
rep_levels entries = map (λ e. e.rep) entries

abbrev pub def_levels : List Entry → List ℕ
def_levels entries = map (λ e. e.def) entries

abbrev pub with_value : Option Cell → List Cell → List Cell
with_value None cells = cells
with_value (Some cell) cells = cell ∷ cells

-- the values of those that have one
abbrev pub values : List Entry → List Cell
values [] = []
values (e ∷ entries) = with_value e.value (values entries)

-- a value is there exactly where it is due
abbrev pub HasDue : (Cell → Type 0) → Bool → Option Cell → Type 0
HasDue IsKind true None = ⊥
HasDue IsKind true (Some cell) = IsKind cell
HasDue IsKind false None = Unit {0}
HasDue IsKind false (Some cell) = ⊥

-- an entry of a leaf column: no level is above its maximum, and a value of its kind is there exactly at the maximum
-- definition level
pub record IsEntry (leaf : Leaf) (e : Entry) : Type 0 where
  pub rep : e.rep ≤ leaf.rep
  pub def : e.def ≤ leaf.def
  pub value : HasDue (IsCell leaf.phys leaf.prim) (e.def == leaf.def) e.value
