use Rattle.exact_json.proofs.TextDocuments.{text_spells}
use Rattle.exact_json.proofs.laws.text_is_read_back.Goals as goal

pub returns : goal.returns
returns c = text_spells
