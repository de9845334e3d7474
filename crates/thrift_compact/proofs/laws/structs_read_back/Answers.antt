use Rattle.thrift_compact.proofs.TreesBack.{struct_reads_back}
use Rattle.thrift_compact.proofs.laws.structs_read_back.Goals as goal

pub returns : goal.returns
returns c = λ ss fs rest f. struct_reads_back ss fs rest f
