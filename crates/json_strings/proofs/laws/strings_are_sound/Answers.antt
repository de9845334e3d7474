use Rattle.json_strings.proofs.Strings.{string_sound}
use Rattle.json_strings.proofs.laws.strings_are_sound.Goals as goal

pub returns : goal.returns
returns c = string_sound
