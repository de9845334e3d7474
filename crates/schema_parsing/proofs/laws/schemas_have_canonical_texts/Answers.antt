use Rattle.schema_parsing.proofs.Canonical as lemmas
use Rattle.schema_parsing.proofs.laws.schemas_have_canonical_texts.Goals as goal

pub returns : goal.returns
returns c = lemmas.canonical_is_schema
