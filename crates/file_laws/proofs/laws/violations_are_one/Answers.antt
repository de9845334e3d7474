use Rattle.file_laws.proofs.OneViolation.{query_one, check_one, check_finds, unbegun, all_leaves, query_names, check_names, query_not_done, check_not_done, query_answers, check_answers}
use Rattle.file_laws.proofs.laws.violations_are_one.Goals as goal

pub returns-clause-query_one : goal.returns-clause-query_one
returns-clause-query_one c = query_one

pub returns-clause-check_one : goal.returns-clause-check_one
returns-clause-check_one c = check_one

pub returns-clause-check_finds : goal.returns-clause-check_finds
returns-clause-check_finds c = check_finds

pub returns-clause-unbegun : goal.returns-clause-unbegun
returns-clause-unbegun c = unbegun

pub returns-clause-all_leaves : goal.returns-clause-all_leaves
returns-clause-all_leaves c = all_leaves

pub returns-clause-query_names : goal.returns-clause-query_names
returns-clause-query_names c = query_names

pub returns-clause-check_names : goal.returns-clause-check_names
returns-clause-check_names c = check_names

pub returns-clause-query_not_done : goal.returns-clause-query_not_done
returns-clause-query_not_done c = query_not_done

pub returns-clause-check_not_done : goal.returns-clause-check_not_done
returns-clause-check_not_done c = check_not_done

pub returns-clause-query_answers : goal.returns-clause-query_answers
returns-clause-query_answers c = query_answers

pub returns-clause-check_answers : goal.returns-clause-check_answers
returns-clause-check_answers c = check_answers
