use Rattle.record_assembly.proofs.Rows.{rows_complete, rows_sound}
use Rattle.record_assembly.proofs.laws.columns_are_read.Goals as goal

pub returns-clause-comes : goal.returns-clause-comes
returns-clause-comes c = λ o n mask es rows some of have. rows_complete o n mask es rows some of have

pub returns-clause-only : goal.returns-clause-only
returns-clause-only c = λ o n mask es qs h. rows_sound o n mask es qs h
