use Rattle.filter_parsing.proofs.Texts.{filter_one}
use Rattle.filter_parsing.proofs.laws.filters_are_one.Goals as goal

pub returns : goal.returns
returns c = filter_one
