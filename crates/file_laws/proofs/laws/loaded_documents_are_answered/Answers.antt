use Rattle.file_laws.proofs.LoadedFiles.{answers_over, loaded_holds, loaded_answers, loaded_scans, loaded_done, loaded_checks, loaded_judged}
use Rattle.file_laws.proofs.laws.loaded_documents_are_answered.Goals as goal

pub returns-clause-same_words : goal.returns-clause-same_words
returns-clause-same_words c = answers_over

pub returns-clause-holds : goal.returns-clause-holds
returns-clause-holds c = loaded_holds

pub returns-clause-query : goal.returns-clause-query
returns-clause-query c = λ load input before after query from to loaded. loaded_answers load input before after loaded query from to

pub returns-clause-as_scan : goal.returns-clause-as_scan
returns-clause-as_scan c = λ load input before after query from to p q loaded. loaded_scans load input before after loaded query from to p q

pub returns-clause-answered : goal.returns-clause-answered
returns-clause-answered c = λ load input before after query from to done loaded. loaded_done load input before after loaded query from to done

pub returns-clause-check : goal.returns-clause-check
returns-clause-check c = λ load input before after check from to loaded. loaded_checks load input before after loaded check from to

pub returns-clause-judged : goal.returns-clause-judged
returns-clause-judged c = λ load input before after check from to done loaded. loaded_judged load input before after loaded check from to done
