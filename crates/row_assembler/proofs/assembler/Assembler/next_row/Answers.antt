use Rattle.row_assembler.proofs.Answered.{answered, column_kept}
use Rattle.row_assembler.proofs.assembler.Assembler.next_row.Goals as goal

pub returns-clause-row : goal.returns-clause-row
returns-clause-row c = λ o n mask f. answered c.args.self.now o n mask f c.next_kept.new.self c.next_kept.result c.next_kept.ensures

pub returns-clause-column : goal.returns-clause-column
returns-clause-column c = λ o n mask f. column_kept c.args.self.now c.next_kept.new.self o n mask c.next_kept.result c.next_kept.ensures f
