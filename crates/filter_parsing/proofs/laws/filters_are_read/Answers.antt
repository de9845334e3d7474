use Rattle.filter_parsing.proofs.Texts.{filter_complete}
use Rattle.filter_parsing.proofs.laws.filters_are_read.Goals as goal

pub returns : goal.returns
returns c = filter_complete
