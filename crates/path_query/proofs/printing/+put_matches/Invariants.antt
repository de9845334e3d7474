use Rattle.std.proofs.Common.{◌≡◌, ◌++◌, map, drop, length}
use Rattle.std.specs.Prelude.{flat_map}
use Rattle.std.specs.Io.{StartsWith}
use Rattle.json_tree.specs.Json.{parts_of}
use Rattle.json_tree.specs.Text.{more_parts}
use Rattle.json_tree.specs.View.{view}
use Rattle.path_query.specs.Matches.{matches}
use Rattle.path_query.proofs.printing.+put_matches.Given as goal

abbrev pub decreases-put_matches : goal.decreases-put_matches
decreases-put_matches l = length l.steps.now

abbrev pub invariant-loop-part : goal.invariant-loop-part
invariant-loop-part l = record {
  text : l.into.items ++ more_parts (parts_of (flat_map (matches l.others) (map view (drop l.part-index l.part-items)))) ≡ l.fn.into.items ++ more_parts (parts_of (matches l.fn.steps (view l.fn.tree)));
  grows : StartsWith l.into.items l.fn.into.items;
}
