use Rattle.exact_json.proofs.Judged.{one_fault}
use Rattle.exact_json.proofs.laws.fault_is_one.Goals as goal

pub returns : goal.returns
returns c = one_fault
