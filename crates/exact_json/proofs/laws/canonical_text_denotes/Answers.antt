use Rattle.exact_json.proofs.TextDocuments.{text_denotes}
use Rattle.exact_json.proofs.laws.canonical_text_denotes.Goals as goal

pub returns : goal.returns
returns c = text_denotes
