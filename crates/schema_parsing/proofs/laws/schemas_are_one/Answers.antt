use Rattle.schema_parsing.proofs.Texts as lemmas
use Rattle.schema_parsing.proofs.laws.schemas_are_one.Goals as goal

pub returns : goal.returns
returns c = lemmas.schemas_are_one
