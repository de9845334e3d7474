use Rattle.std.proofs.Common.{◌≡◌, ◌≤◌, ◌-◌, ◌^◌, map, drop, min}
use Rattle.std.specs.Prelude.{max}
use Rattle.json_tree.specs.Json.{parts_depth, fields_depth, parts_of, fields_of}
use Rattle.json_tree.specs.View.{view, seen}
use Rattle.json_tree.proofs.depths.+depth.Given as goal

abbrev pub invariant-items_depth-loop-tree : goal.invariant-items_depth-loop-tree
invariant-items_depth-loop-tree l = record {
  within : l.most ≤ 2 ^ 32 - 1;
  depth : min (max l.most (parts_depth (parts_of (map view (drop l.tree-index l.trees))))) (2 ^ 32 - 1) ≡ min (parts_depth (parts_of (map view l.trees))) (2 ^ 32 - 1);
}

abbrev pub invariant-members_depth-loop-pair : goal.invariant-members_depth-loop-pair
invariant-members_depth-loop-pair l = record {
  within : l.most ≤ 2 ^ 32 - 1;
  depth : min (max l.most (fields_depth (fields_of (map seen (drop l.pair-index l.pairs))))) (2 ^ 32 - 1) ≡ min (fields_depth (fields_of (map seen l.pairs))) (2 ^ 32 - 1);
}
