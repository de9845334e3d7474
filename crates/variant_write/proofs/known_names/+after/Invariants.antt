use Rattle.std.proofs.Common.{◌≡◌, ◌++◌, ℕ, List, map, drop}
use Rattle.json_tree.specs.Json.{parts_of, fields_of}
use Rattle.json_tree.specs.View.{view, seen}
use Rattle.variant_write.specs.Dictionaries.{elements_names, fields_names}
use Rattle.variant_write.proofs.known_names.+after.Given as goal

-- what stands after the names of the elements that are left, stands after those of all
abbrev pub invariant-after_elements-loop-tree : goal.invariant-after_elements-loop-tree
invariant-after_elements-loop-tree l = (rest : List (List ℕ)) → l.left ≡ elements_names (parts_of (map view (drop l.tree-index l.trees))) ++ rest → l.names ≡ elements_names (parts_of (map view l.trees)) ++ rest

abbrev pub invariant-after_members-loop-pair : goal.invariant-after_members-loop-pair
invariant-after_members-loop-pair l = (rest : List (List ℕ)) → l.left ≡ fields_names (fields_of (map seen (drop l.pair-index l.pairs))) ++ rest → l.names ≡ fields_names (fields_of (map seen l.pairs)) ++ rest
