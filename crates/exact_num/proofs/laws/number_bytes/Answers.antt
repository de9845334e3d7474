use Rattle.exact_num.proofs.NumberBytes.{begins_number, all_numeric}
use Rattle.exact_num.proofs.laws.number_bytes.Goals as goal

pub returns-clause-first : goal.returns-clause-first
returns-clause-first c = begins_number

pub returns-clause-all : goal.returns-clause-all
returns-clause-all c = all_numeric
