use Rattle.exact_json.proofs.LineValues.{denoted_valid}
use Rattle.exact_json.proofs.laws.denoted_is_valid.Goals as goal

pub returns : goal.returns
returns c = denoted_valid
