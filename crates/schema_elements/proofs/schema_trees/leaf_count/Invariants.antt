use Rattle.std.proofs.Common.{◌≡◌, ◌+◌, ◌≤◌, drop}
use Rattle.schema_elements.specs.SchemaTrees.{leaf_count}
use Rattle.schema_elements.proofs.schema_trees.leaf_count.Given as goal

abbrev pub invariant-loop-element : goal.invariant-loop-element
invariant-loop-element l = record {
  leaves : l.count + leaf_count (drop l.element-index l.elements) ≡ leaf_count l.elements;
  small : l.count ≤ l.element-index;
}
