use Rattle.path_parsing.proofs.Texts.{path_sound_at}
use Rattle.path_parsing.proofs.laws.paths_are_sound.Goals as goal

pub returns : goal.returns
returns c = path_sound_at
