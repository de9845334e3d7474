use Rattle.shred_schema.proofs.CellFacts.{cell_passes, cell_is}
use Rattle.shred_schema.proofs.laws.cells_are_told.Goals as goal

pub returns-clause-passes : goal.returns-clause-passes
returns-clause-passes c = cell_passes

pub returns-clause-is : goal.returns-clause-is
returns-clause-is c = cell_is
