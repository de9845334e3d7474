use Rattle.path_parsing.proofs.Texts as texts
use Rattle.path_parsing.proofs.laws.paths_are_one.Goals as goal

pub returns : goal.returns
returns c = texts.paths_are_one
