use Rattle.std.proofs.Common.{◌≡◌, ◌++◌, map, drop, length}
use Rattle.std.specs.Prelude.{flat_map}
use Rattle.json_tree.specs.View.{view}
use Rattle.path_query.specs.Matches.{matches}
use Rattle.path_query.specs.Rows.{found_of}
use Rattle.path_query.proofs.matching.+collect.Given as goal

abbrev pub decreases-collect : goal.decreases-collect
decreases-collect l = length l.steps.now

abbrev pub invariant-loop-part : goal.invariant-loop-part
invariant-loop-part l =
    found_of l.into.items ++ flat_map (matches l.others) (map view (drop l.part-index l.part-items)) ≡ found_of l.fn.into.items ++ matches l.fn.steps (view l.fn.tree)
