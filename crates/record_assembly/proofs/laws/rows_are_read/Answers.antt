use Rattle.record_assembly.proofs.Rows.{row_complete, row_sound}
use Rattle.record_assembly.proofs.laws.rows_are_read.Goals as goal

pub returns-clause-comes : goal.returns-clause-comes
returns-clause-comes c = λ o n mask r es row some of have. row_complete o n mask r es row of some have

pub returns-clause-only : goal.returns-clause-only
returns-clause-only c = λ o n mask r es q h. let f = row_sound o n mask r es q h in record { one = f.one; of = f.of; have = λ j a y. f.agree j (a, y); left = f.is }
