use Rattle.exact_json.proofs.TextDocuments.{text_denotes_one}
use Rattle.exact_json.proofs.laws.canonical_text_denotes_one.Goals as goal

pub returns : goal.returns
returns c = text_denotes_one
