use Rattle.byte_parsing.proofs.Words as lemmas
use Rattle.byte_parsing.proofs.laws.gaps_are_spaces.Goals as goal

pub returns : goal.returns
returns c = lemmas.gap_front
