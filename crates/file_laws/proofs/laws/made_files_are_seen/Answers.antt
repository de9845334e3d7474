use Rattle.file_laws.proofs.MadeFiles.{made_begins, made_rows, made_lines, made_counts, made_answerable, made_judgeable}
use Rattle.file_laws.proofs.laws.made_files_are_seen.Goals as goal

pub returns-clause-begins : goal.returns-clause-begins
returns-clause-begins c = made_begins

pub returns-clause-rows : goal.returns-clause-rows
returns-clause-rows c = made_rows

pub returns-clause-lines : goal.returns-clause-lines
returns-clause-lines c = made_lines

pub returns-clause-counts : goal.returns-clause-counts
returns-clause-counts c = made_counts

pub returns-clause-answerable : goal.returns-clause-answerable
returns-clause-answerable c = made_answerable

pub returns-clause-judgeable : goal.returns-clause-judgeable
returns-clause-judgeable c = made_judgeable
