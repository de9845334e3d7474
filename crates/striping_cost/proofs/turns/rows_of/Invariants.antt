use Rattle.std.proofs.Common.{map}
use Rattle.std.specs.List.{AllByRecursion}
use Rattle.shred_schema.specs.Shapes.{RowIsOf}
use Rattle.shred_schema.specs.Views.{group_of, row_rec_of}
use Rattle.striping_cost.proofs.turns.rows_of.Given as goal

abbrev pub invariant-loop-row : goal.invariant-loop-row
invariant-loop-row l = AllByRecursion (RowIsOf l.column.optional (group_of l.column.node)) (map row_rec_of l.rows)
