use Rattle.std.proofs.Common.{◌≡◌, drop, false}
use Rattle.json_tree.specs.View.{view}
use Rattle.query_tree.specs.PathText.{has_star}
use Rattle.path_query.specs.Matches.{matches, at}
use Rattle.path_query.specs.Rows.{row_of}
use Rattle.path_query.proofs.printing.only.Given as goal

abbrev pub invariant-loop-step : goal.invariant-loop-step
invariant-loop-step l = record {
  starless : has_star (drop l.step-index l.steps) ≡ false;
  found : matches (drop l.step-index l.steps) (view l.here) ≡ at l.fn.steps (row_of l.fn.row);
}
