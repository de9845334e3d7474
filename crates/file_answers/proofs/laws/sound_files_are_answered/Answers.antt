use Rattle.file_answers.proofs.Sound.{query_done, check_done}
use Rattle.file_answers.proofs.laws.sound_files_are_answered.Goals as goal

pub returns-clause-query : goal.returns-clause-query
returns-clause-query c = query_done

pub returns-clause-check : goal.returns-clause-check
returns-clause-check c = check_done
