use Rattle.exact_num.proofs.Complete.{parsed_complete}
use Rattle.exact_num.proofs.laws.parsing_is_complete.Goals as goal

pub returns : goal.returns
returns c = parsed_complete
