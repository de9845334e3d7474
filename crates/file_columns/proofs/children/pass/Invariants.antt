use Rattle.std.proofs.Common.{length}
use Rattle.file_columns.proofs.Passing.{IsPassed}
use Rattle.file_columns.proofs.children.pass.Given as goal

abbrev pub invariant-trees : goal.invariant-trees
invariant-trees l = IsPassed l.fn.ahead l.rest l.count l.left l.leaves

abbrev pub decreases-trees : goal.decreases-trees
decreases-trees l = length l.rest
