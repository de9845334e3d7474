use Rattle.std.proofs.Common.{◌≡◌, ◌++◌, map, drop}
use Rattle.json_tree.specs.View.{seen}
use Rattle.variant_read.specs.View.{members_of}
use Rattle.unshredder.proofs.merging.pairs.Given as goal

abbrev pub invariant-loop-k : goal.invariant-loop-k
invariant-loop-k l = map seen l.pairs.items ++ drop l.k (members_of l.fn.object) ≡ members_of l.fn.object
