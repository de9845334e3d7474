use Rattle.file_laws.proofs.SeenAlike.{same_groups, same_rows, same_lines, same_query, same_check}
use Rattle.file_laws.proofs.laws.bytes_decide_what_is_seen.Goals as goal

pub returns-clause-groups : goal.returns-clause-groups
returns-clause-groups c = same_groups

pub returns-clause-rows : goal.returns-clause-rows
returns-clause-rows c = same_rows

pub returns-clause-lines : goal.returns-clause-lines
returns-clause-lines c = λ column bytes asked f g b c. same_lines column bytes f g b c asked

pub returns-clause-query : goal.returns-clause-query
returns-clause-query c = λ column bytes asked f g b c. same_query column bytes f g b c asked

pub returns-clause-check : goal.returns-clause-check
returns-clause-check c = same_check
