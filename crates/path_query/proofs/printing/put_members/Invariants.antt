use Rattle.std.proofs.Common.{◌≡◌, ◌++◌, map, drop}
use Rattle.std.specs.Io.{StartsWith}
use Rattle.query_tree.specs.View.{steps_of}
use Rattle.path_query.specs.Answer.{members, after_commas}
use Rattle.path_query.specs.Rows.{row_of}
use Rattle.path_query.proofs.printing.put_members.Given as goal

abbrev pub invariant-loop-path : goal.invariant-loop-path
invariant-loop-path l = record {
  text : l.into.items ++ after_commas (members (map steps_of (drop l.path-index l.paths)) (row_of l.row)) ≡ l.fn.into.items ++ after_commas (members (map steps_of l.paths) (row_of l.fn.row));
  grows : StartsWith l.into.items l.fn.into.items;
}
