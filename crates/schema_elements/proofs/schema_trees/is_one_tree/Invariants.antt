use Rattle.std.proofs.Common.{◌≡◌, ◌+◌, ◌*◌, ◌^◌, ◌≤◌, drop}
use Rattle.schema_elements.specs.SchemaTrees.{are_trees}
use Rattle.schema_elements.proofs.schema_trees.is_one_tree.Given as goal

-- the elements that are left are as many trees as are wanted, where all are one
abbrev pub invariant-loop-element : goal.invariant-loop-element
invariant-loop-element l = record {
  trees : are_trees l.wanted (drop l.element-index l.elements) ≡ are_trees 1 l.elements;
  small : l.wanted ≤ 1 + l.element-index * 2 ^ 31;
}
