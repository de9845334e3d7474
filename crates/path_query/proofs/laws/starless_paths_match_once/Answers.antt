use Rattle.path_query.proofs.Starless.{match_once}
use Rattle.path_query.proofs.laws.starless_paths_match_once.Goals as goal

pub returns : goal.returns
returns c = match_once
