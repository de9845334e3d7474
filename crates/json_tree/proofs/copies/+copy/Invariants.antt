use Rattle.std.proofs.Common.{◌≡◌, map, take}
use Rattle.json_tree.specs.View.{view, seen}
use Rattle.json_tree.proofs.copies.+copy.Given as goal

abbrev pub invariant-copy_items-loop-tree : goal.invariant-copy_items-loop-tree
invariant-copy_items-loop-tree l = map view l.copies.items ≡ map view (take l.tree-index l.trees)

abbrev pub invariant-copy_members-loop-pair : goal.invariant-copy_members-loop-pair
invariant-copy_members-loop-pair l = map seen l.copies.items ≡ map seen (take l.pair-index l.pairs)
