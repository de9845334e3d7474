use Rattle.std.proofs.Common.{◌≡◌, ◌++◌, map, drop}
use Rattle.file_columns.specs.declared.places.PlacedLeaf.{PlacedLeaf}
use Rattle.file_columns.proofs.columns.leaf_list.Given as goal

abbrev pub invariant-loop-leaf : goal.invariant-loop-leaf
invariant-loop-leaf l = l.leaves ++ map (λ (p : PlacedLeaf). p.leaf) (drop l.leaf-index l.placed) ≡ map (λ (p : PlacedLeaf). p.leaf) l.fn.placed
