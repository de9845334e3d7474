use Rattle.std.proofs.Common.{map, drop}
use Rattle.json_tree.specs.Json.{parts_of}
use Rattle.json_tree.specs.Valid.{AreValid}
use Rattle.json_tree.specs.View.{view}
use Rattle.json_tree.proofs.validity.each_is_valid.Given as goal

abbrev pub invariant-loop-tree : goal.invariant-loop-tree
invariant-loop-tree l = AreValid (parts_of (map view (drop l.tree-index l.trees))) → AreValid (parts_of (map view l.trees))
