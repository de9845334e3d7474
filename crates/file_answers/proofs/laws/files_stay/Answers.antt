use Rattle.file_answers.proofs.Unchanged.{files_after_query, files_after_check}
use Rattle.file_answers.proofs.laws.files_stay.Goals as goal

pub returns-clause-query : goal.returns-clause-query
returns-clause-query c = files_after_query

pub returns-clause-check : goal.returns-clause-check
returns-clause-check c = files_after_check
