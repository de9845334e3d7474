use Rattle.std.proofs.Common.{◌≡◌, ◌++◌, map, drop}
use Rattle.file_columns.specs.Columns.{is_ordered}
use Rattle.file_columns.proofs.columns.order_list.Given as goal

abbrev pub invariant-loop-leaf : goal.invariant-loop-leaf
invariant-loop-leaf l = l.ordered ++ map (is_ordered l.orders) (drop l.leaf-index l.placed) ≡ map (is_ordered l.orders) l.fn.placed
