use Rattle.std.specs.Prelude.{IsPermutation}
use Rattle.unshredder.proofs.places.apply.Given as goal

abbrev pub invariant-loop-k : goal.invariant-loop-k
invariant-loop-k l = IsPermutation l.fn.pairs.items l.pairs.items
