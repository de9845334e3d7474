use Rattle.path_parsing.proofs.Complete.{path_complete}
use Rattle.path_parsing.proofs.laws.paths_are_complete.Goals as goal

pub returns : goal.returns
returns c = path_complete
