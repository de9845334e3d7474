use Rattle.exact_json.proofs.Judged.{value_or_fault}
use Rattle.exact_json.proofs.laws.line_is_judged.Goals as goal

pub returns : goal.returns
returns c = value_or_fault
