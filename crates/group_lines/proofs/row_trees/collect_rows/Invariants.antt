use Rattle.std.proofs.Common.{◌≡◌}
use Rattle.shred_schema.specs.Views.{group_of}
use Rattle.group_reading.specs.RowsAhead.{StandsFor}
use Rattle.group_lines.specs.Lines.{rows_left, trees_of}
use Rattle.group_lines.proofs.RowsDone.{put_before}
use Rattle.group_lines.proofs.row_trees.collect_rows.Given as goal

abbrev pub invariant-loop-row : goal.invariant-loop-row
invariant-loop-row l = record {
  stands : StandsFor l.column.optional (group_of l.column.node) l.mask l.rows;
  ahead : rows_left l.column.optional (group_of l.column.node) l.mask l.initial.rows ≡ put_before (trees_of l.trees) (rows_left l.column.optional (group_of l.column.node) l.mask l.rows);
}

abbrev pub decreases-loop-row : goal.decreases-loop-row
decreases-loop-row l = l.rows.left
