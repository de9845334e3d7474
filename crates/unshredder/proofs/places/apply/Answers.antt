use Rattle.std.proofs.lemmas.List.Sorted.{IsPermutation-trans}
use Rattle.unshredder.proofs.places.apply.Goals as goal

pub loop-k-preserved : goal.loop-k-preserved
loop-k-preserved c = IsPermutation-trans _ _ _ c.loop-k.invariant c.change_places.ensures
