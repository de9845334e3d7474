use Rattle.shredding_laws.proofs.WholeRows.{row_back, no_row}
use Rattle.shredding_laws.proofs.laws.rows_come_back.Goals as goal

pub returns-clause-present : goal.returns-clause-present
returns-clause-present c = λ node tree widths written wide valid deep short. row_back node tree widths written wide valid deep short

pub returns-clause-absent : goal.returns-clause-absent
returns-clause-absent c = λ node widths. no_row node widths
