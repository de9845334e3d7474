use Rattle.std.proofs.Common.{◌≡◌, ◌+◌, ◌*◌, ◌++◌, drop, map}
use Rattle.json_tree.specs.View.{view, seen}
use Rattle.variant_meta.specs.MetaRefs.{names_of}
use Rattle.variant_read.specs.Items.{items_held, members_held}
use Rattle.variant_read.proofs.owned.+owned.Given as goal

abbrev pub decreases-tree_at : goal.decreases-tree_at
decreases-tree_at l = 3 * l.room + 1

abbrev pub decreases-container_tree : goal.decreases-container_tree
decreases-container_tree l = 3 * l.room + 3

abbrev pub decreases-items : goal.decreases-items
decreases-items l = 3 * l.room + 2

abbrev pub decreases-members : goal.decreases-members
decreases-members l = 3 * l.room + 2

abbrev pub invariant-items-loop-k : goal.invariant-items-loop-k
invariant-items-loop-k l = map view l.trees.items ++ drop l.k (items_held (names_of l.meta) l.room l.layout.bytes.now) ≡ items_held (names_of l.meta) l.room l.layout.bytes.now

abbrev pub invariant-members-loop-k : goal.invariant-members-loop-k
invariant-members-loop-k l = map seen l.pairs.items ++ drop l.k (members_held (names_of l.meta) l.room l.layout.bytes.now) ≡ members_held (names_of l.meta) l.room l.layout.bytes.now
