use Rattle.exact_num.proofs.Sound.{parsed_sound}
use Rattle.exact_num.proofs.laws.parsing_is_sound.Goals as goal

pub returns : goal.returns
returns c = parsed_sound
