use Rattle.command_parsing.proofs.AskedOnce.{scan_right, variant_right, load_right, file_query_right, check_right}
use Rattle.command_parsing.proofs.laws.asked_words_are_right.Goals as goal

pub returns-clause-scan : goal.returns-clause-scan
returns-clause-scan c = scan_right

pub returns-clause-variant : goal.returns-clause-variant
returns-clause-variant c = variant_right

pub returns-clause-load : goal.returns-clause-load
returns-clause-load c = load_right

pub returns-clause-query : goal.returns-clause-query
returns-clause-query c = file_query_right

pub returns-clause-check : goal.returns-clause-check
returns-clause-check c = check_right
