use Rattle.written_columns.proofs.Whole.{written_back}
use Rattle.written_columns.proofs.laws.written_columns_read_back.Goals as goal

pub returns : goal.returns
returns c = written_back
