use Rattle.striping_laws.proofs.WrittenRows.{none_written, more_written, all_written}
use Rattle.striping_laws.proofs.laws.shredded_rows_are_written.Goals as goal

pub returns-clause-none : goal.returns-clause-none
returns-clause-none c = λ optional n. none_written optional n

pub returns-clause-more : goal.returns-clause-more
returns-clause-more c = λ optional text schema widths total rows row is wide can all. more_written optional text schema widths total rows row is wide can all

pub returns-clause-all : goal.returns-clause-all
returns-clause-all c = λ optional text schema widths rows is wide can. all_written optional text schema widths rows is wide can
