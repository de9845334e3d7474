use Rattle.row_assembler.proofs.ReadProjected.{read_projected}
use Rattle.row_assembler.proofs.RowsKept.{row_projected}
use Rattle.row_assembler.proofs.laws.projected_columns_are_read.Goals as goal

pub returns-clause-records : goal.returns-clause-records
returns-clause-records c = read_projected

pub returns-clause-rows : goal.returns-clause-rows
returns-clause-rows c = row_projected
