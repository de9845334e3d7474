use Rattle.shred_schema.proofs.NodeFacts.{kind_reads_back}
use Rattle.shred_schema.proofs.laws.kinds_read_back.Goals as goal

pub returns : goal.returns
returns c = kind_reads_back
