use Rattle.std.proofs.Common.{◌≡◌, map, drop, length}
use Rattle.std.specs.Prelude.{flat_map}
use Rattle.std.specs.List.{list_any}
use Rattle.json_tree.specs.View.{view}
use Rattle.query_tree.specs.View.{claim_of}
use Rattle.path_query.specs.Matches.{matches}
use Rattle.path_query.specs.Serves.{serves}
use Rattle.path_query.proofs.truth.+any_match.Given as goal

abbrev pub decreases-any_match : goal.decreases-any_match
decreases-any_match l = length l.steps.now

abbrev pub invariant-loop-part : goal.invariant-loop-part
invariant-loop-part l =
    list_any (serves (claim_of l.test)) (flat_map (matches l.others) (map view (drop l.part-index l.part-items))) ≡ list_any (serves (claim_of l.test)) (matches l.fn.steps (view l.fn.tree))
