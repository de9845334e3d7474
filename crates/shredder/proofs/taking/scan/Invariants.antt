use Rattle.shredder.specs.Taken.{IsPast}
use Rattle.shredder.proofs.taking.scan.Given as goal

abbrev pub invariant-loop-place : goal.invariant-loop-place
invariant-loop-place l = IsPast l.fn.name l.pairs l.place
