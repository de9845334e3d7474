use Rattle.command_parsing.proofs.AskedOnce.{scan_once, variant_once, load_once, file_query_once, check_once}
use Rattle.command_parsing.proofs.laws.words_ask_once.Goals as goal

pub returns-clause-scan : goal.returns-clause-scan
returns-clause-scan c = scan_once

pub returns-clause-variant : goal.returns-clause-variant
returns-clause-variant c = variant_once

pub returns-clause-load : goal.returns-clause-load
returns-clause-load c = load_once

pub returns-clause-query : goal.returns-clause-query
returns-clause-query c = file_query_once

pub returns-clause-check : goal.returns-clause-check
returns-clause-check c = check_once
