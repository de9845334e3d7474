use Rattle.exact_num.proofs.ReadingBack.{reads_back}
use Rattle.exact_num.proofs.laws.printed_reads_back.Goals as goal

pub returns : goal.returns
returns c = reads_back
