use Rattle.byte_parsing.proofs.Runs as lemmas
use Rattle.byte_parsing.proofs.laws.fronts_are_longest.Goals as goal

pub returns : goal.returns
returns c = lemmas.fronts_are_longest
