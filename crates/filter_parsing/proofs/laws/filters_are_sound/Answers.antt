use Rattle.filter_parsing.proofs.Texts.{filter_sound}
use Rattle.filter_parsing.proofs.laws.filters_are_sound.Goals as goal

pub returns : goal.returns
returns c = filter_sound
