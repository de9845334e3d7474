use Rattle.std.proofs.Common.{◌≡◌, ◌∙◌, sym, Some}
use Rattle.exact_num.proofs.Complete.{parsed_complete}
use Rattle.exact_num.proofs.laws.spelled_once.Goals as goal

pub returns : goal.returns
returns c = λ text v w h g. let same : Some v ≡ Some w = sym (parsed_complete text v h) ∙ parsed_complete text w g in cc
