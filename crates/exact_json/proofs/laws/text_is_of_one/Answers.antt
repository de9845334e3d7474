use Rattle.exact_json.proofs.TextDocuments.{text_spells_one}
use Rattle.exact_json.proofs.laws.text_is_of_one.Goals as goal

pub returns : goal.returns
returns c = text_spells_one
