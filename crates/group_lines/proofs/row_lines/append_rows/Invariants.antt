use Rattle.query_tree.specs.Asked.{query_of}
use Rattle.shred_schema.specs.Views.{group_of}
use Rattle.group_reading.specs.RowsAhead.{StandsFor}
use Rattle.group_lines.specs.Lines.{rows_left}
use Rattle.group_lines.proofs.RowsDone.{Printed}
use Rattle.group_lines.proofs.row_lines.append_rows.Given as goal

abbrev pub invariant-loop-row : goal.invariant-loop-row
invariant-loop-row l = record {
  stands : StandsFor l.column.optional (group_of l.column.node) l.mask l.rows;
  printed : Printed (query_of l.query) (rows_left l.column.optional (group_of l.column.node) l.mask l.initial.rows) (rows_left l.column.optional (group_of l.column.node) l.mask l.rows) l.initial.into.items l.into.items;
}

abbrev pub decreases-loop-row : goal.decreases-loop-row
decreases-loop-row l = l.rows.left
