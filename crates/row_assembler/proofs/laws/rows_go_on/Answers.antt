use Rattle.row_assembler.proofs.RowsInTurn.{rows_step}
use Rattle.row_assembler.proofs.laws.rows_go_on.Goals as goal

pub returns : goal.returns
returns c = rows_step
