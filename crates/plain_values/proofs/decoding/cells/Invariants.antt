use Rattle.std.proofs.Common.{◌≡◌, ◌-◌}
use Rattle.plain_values.specs.Plain.{front_cell, cells}
use Rattle.plain_values.proofs.CellsInTurn.{joined}
use Rattle.plain_values.proofs.decoding.cells.Given as goal

-- the cells in front, then those that are left
abbrev pub invariant-loop-i : goal.invariant-loop-i
invariant-loop-i l = record {
  whole : joined l.found.items (cells (front_cell l.leaf.phys l.leaf.prim) (l.count - l._i) l.left) ≡ cells (front_cell l.leaf.phys l.leaf.prim) l.count l.bytes;
}
