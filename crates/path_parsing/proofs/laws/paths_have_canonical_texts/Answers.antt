use Rattle.path_parsing.proofs.CanonicalLengths.{canonical_of_path}
use Rattle.path_parsing.proofs.laws.paths_have_canonical_texts.Goals as goal

pub returns : goal.returns
returns c = canonical_of_path
