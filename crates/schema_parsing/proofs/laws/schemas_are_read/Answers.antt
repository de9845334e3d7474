use Rattle.schema_parsing.proofs.Texts as lemmas
use Rattle.schema_parsing.proofs.laws.schemas_are_read.Goals as goal

pub returns : goal.returns
returns c = lemmas.text_complete
