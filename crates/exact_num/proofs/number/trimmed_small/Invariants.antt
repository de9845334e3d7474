use Rattle.std.proofs.Common.{◌≡◌}
use Rattle.exact_num.specs.Decimal.{shortened}
use Rattle.exact_num.proofs.number.trimmed_small.Given as goal

abbrev pub invariant-loop-scale : goal.invariant-loop-scale
invariant-loop-scale l = shortened l.left l.scale ≡ shortened l.size l.places

abbrev pub decreases-loop-scale : goal.decreases-loop-scale
decreases-loop-scale l = l.scale
