use Rattle.std.proofs.Common.{◌≡◌, ◌++◌, map, drop}
use Rattle.json_tree.specs.Json.{parts_of, fields_of}
use Rattle.json_tree.specs.View.{view, seen}
use Rattle.variant_write.specs.Dictionaries.{elements_names, fields_names}
use Rattle.variant_write.proofs.collecting.+collect.Given as goal

-- what was collected, and what is left, is all
abbrev pub invariant-collect_elements-loop-tree : goal.invariant-collect_elements-loop-tree
invariant-collect_elements-loop-tree l = l.names.items ++ elements_names (parts_of (map view (drop l.tree-index l.trees))) ≡ l.fn.names.items ++ elements_names (parts_of (map view l.trees))

abbrev pub invariant-collect_members-loop-pair : goal.invariant-collect_members-loop-pair
invariant-collect_members-loop-pair l = l.names.items ++ fields_names (fields_of (map seen (drop l.pair-index l.pairs))) ≡ l.fn.names.items ++ fields_names (fields_of (map seen l.pairs))
