use Rattle.exact_json.proofs.LineValues.{document}
use Rattle.exact_json.proofs.laws.read_back_is_document.Goals as goal

pub returns : goal.returns
returns c = document
