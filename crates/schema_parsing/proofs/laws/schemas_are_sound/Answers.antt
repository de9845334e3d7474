use Rattle.schema_parsing.proofs.Texts as lemmas
use Rattle.schema_parsing.proofs.laws.schemas_are_sound.Goals as goal

pub returns : goal.returns
returns c = lemmas.is_schema
