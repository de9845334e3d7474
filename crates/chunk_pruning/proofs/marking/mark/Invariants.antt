use Rattle.chunk_pruning.specs.Marks.{IsMarked}
use Rattle.chunk_pruning.proofs.Marks.{is_before}
use Rattle.chunk_pruning.proofs.marking.mark.Given as goal

abbrev pub invariant-loop-leaf : goal.invariant-loop-leaf
invariant-loop-leaf l = IsMarked l.fn.mask (is_before l.first l.leaf) l.mask
