use Rattle.byte_parsing.proofs.Words as lemmas
use Rattle.byte_parsing.proofs.laws.whole_words_end.Goals as goal

pub returns : goal.returns
returns c = lemmas.whole_words
