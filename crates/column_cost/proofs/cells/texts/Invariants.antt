use Rattle.std.specs.List.{All}
use Rattle.plain_values.specs.Written.{IsCell}
use Rattle.column_cost.specs.Columns.{texts}
use Rattle.column_cost.proofs.cells.texts.Given as goal

abbrev pub invariant-loop-i : goal.invariant-loop-i
invariant-loop-i l = All (IsCell texts.phys texts.prim) l.cells.items
