use Rattle.std.specs.List.{All}
use Rattle.plain_values.specs.Written.{IsCell}
use Rattle.column_cost.specs.Columns.{integers}
use Rattle.column_cost.proofs.cells.integers.Given as goal

abbrev pub invariant-loop-i : goal.invariant-loop-i
invariant-loop-i l = All (IsCell integers.phys integers.prim) l.cells.items
