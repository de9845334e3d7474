use Rattle.schema_parsing.proofs.WrittenNodes as lemmas
use Rattle.schema_parsing.proofs.laws.schemas_are_written.Goals as goal

pub returns : goal.returns
returns c = lemmas.schema_written
