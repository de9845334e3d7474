use Rattle.file_laws.proofs.PrunedFiles.{lines_kept}
use Rattle.file_laws.proofs.ValidFiles.{valid_begins, valid_lines, valid_counts, valid_answerable, valid_judgeable, valid_prints, valid_checks}
use Rattle.file_laws.proofs.ValidRows.{valid_rows}
use Rattle.file_laws.proofs.laws.valid_files_are_seen.Goals as goal

pub returns-clause-begins : goal.returns-clause-begins
returns-clause-begins c = valid_begins

pub returns-clause-rows : goal.returns-clause-rows
returns-clause-rows c = valid_rows

pub returns-clause-lines : goal.returns-clause-lines
returns-clause-lines c = valid_lines

pub returns-clause-as_rows : goal.returns-clause-as_rows
returns-clause-as_rows c = lines_kept

pub returns-clause-counts : goal.returns-clause-counts
returns-clause-counts c = valid_counts

pub returns-clause-answerable : goal.returns-clause-answerable
returns-clause-answerable c = valid_answerable

pub returns-clause-judgeable : goal.returns-clause-judgeable
returns-clause-judgeable c = valid_judgeable

pub returns-clause-prints : goal.returns-clause-prints
returns-clause-prints c = valid_prints

pub returns-clause-checks : goal.returns-clause-checks
returns-clause-checks c = valid_checks
