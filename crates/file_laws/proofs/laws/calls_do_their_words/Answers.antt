use Rattle.file_laws.proofs.DoneCalls.{load_done, query_done, check_done, scan_done}
use Rattle.file_laws.proofs.laws.calls_do_their_words.Goals as goal

pub returns-clause-load : goal.returns-clause-load
returns-clause-load c = load_done

pub returns-clause-query : goal.returns-clause-query
returns-clause-query c = query_done

pub returns-clause-check : goal.returns-clause-check
returns-clause-check c = check_done

pub returns-clause-scan : goal.returns-clause-scan
returns-clause-scan c = scan_done
