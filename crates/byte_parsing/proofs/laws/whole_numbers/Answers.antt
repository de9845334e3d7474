use Rattle.byte_parsing.proofs.WholeNumbers as lemmas
use Rattle.byte_parsing.proofs.laws.whole_numbers.Goals as goal

pub returns : goal.returns
returns c = lemmas.whole_numbers
