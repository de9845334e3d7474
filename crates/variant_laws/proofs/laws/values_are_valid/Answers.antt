use Rattle.variant_laws.proofs.ValidValues.{read_valid}
use Rattle.variant_laws.proofs.laws.values_are_valid.Goals as goal

pub returns : goal.returns
returns c = λ ns bytes above json size utf8 are h. let is = read_valid ns bytes above json size utf8 are h in (is.valid, is.named, is.depth, is.inside)
