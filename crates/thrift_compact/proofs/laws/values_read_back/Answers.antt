use Rattle.thrift_compact.proofs.TreesBack.{value_reads_back}
use Rattle.thrift_compact.proofs.laws.values_read_back.Goals as goal

pub returns : goal.returns
returns c = λ s v rest f. value_reads_back s v rest f
