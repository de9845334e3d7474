use Rattle.std.proofs.Common.{◌+◌, ◌≤◌}
use Rattle.shred_schema.specs.Views.{group_of}
use Rattle.group_reading.specs.RowsAhead.{StandsFor}
use Rattle.group_lines.specs.Lines.{rows_left}
use Rattle.store_file.proofs.GroupsRead.{Counted}
use Rattle.store_file.proofs.checking.count_rows.Given as goal

abbrev pub invariant-loop-row : goal.invariant-loop-row
invariant-loop-row l = record {
  stands : StandsFor l.column.optional (group_of l.column.node) l.mask l.rows;
  counted : Counted (rows_left l.column.optional (group_of l.column.node) l.mask l.initial.rows) (rows_left l.column.optional (group_of l.column.node) l.mask l.rows) l.count;
  fits : l.count + l.rows.left ≤ l.initial.rows.left;
}

abbrev pub decreases-loop-row : goal.decreases-loop-row
decreases-loop-row l = l.rows.left
