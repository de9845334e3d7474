use Rattle.thrift_compact.proofs.SkipsBack.{value_past}
use Rattle.thrift_compact.proofs.laws.values_are_passed_over.Goals as goal

pub returns : goal.returns
returns c = λ s v rest f deep. value_past s v 32 rest f deep
