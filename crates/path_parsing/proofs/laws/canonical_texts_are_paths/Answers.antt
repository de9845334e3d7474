use Rattle.path_parsing.proofs.CanonicalTexts.{canonical_is_path}
use Rattle.path_parsing.proofs.laws.canonical_texts_are_paths.Goals as goal

pub returns : goal.returns
returns c = canonical_is_path
