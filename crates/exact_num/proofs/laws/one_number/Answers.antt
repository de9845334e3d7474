use Rattle.exact_num.proofs.Uniqueness.{unique}
use Rattle.exact_num.proofs.laws.one_number.Goals as goal

pub returns : goal.returns
returns c = λ a b h g e. unique a b (record { lean = h.least }) (record { lean = g.least }) e
