use Rattle.exact_json.proofs.Judged.{not_both}
use Rattle.exact_json.proofs.laws.value_has_no_fault.Goals as goal

pub returns : goal.returns
returns c = λ line json fault s f. not_both line fault json f s
