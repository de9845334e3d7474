use Rattle.std.proofs.Common.{◌≡◌, ◌++◌, drop}
use Rattle.std.specs.List.{flat_map}
use Rattle.vs_bytes.specs.Outcome.{Grows}
use Rattle.plain_values.specs.Written.{cell_written}
use Rattle.plain_values.proofs.encoding.append_cells.Given as goal

-- the bytes that were appended, then those of the cells that are left
abbrev pub invariant-loop-cell : goal.invariant-loop-cell
invariant-loop-cell l = record {
  bytes : l.into.items ++ flat_map (cell_written l.leaf.phys) (drop l.cell-index l.cells) ≡ l.fn.into.items ++ flat_map (cell_written l.leaf.phys) l.cells;
  grows : Grows l.fn.into.items l.into.items;
}
