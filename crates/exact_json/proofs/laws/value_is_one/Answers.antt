use Rattle.exact_json.proofs.Judged.{one_value}
use Rattle.exact_json.proofs.laws.value_is_one.Goals as goal

pub returns : goal.returns
returns c = one_value
