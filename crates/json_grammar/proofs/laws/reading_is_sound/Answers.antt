use Rattle.json_grammar.proofs.Lines.{line_sound}
use Rattle.json_grammar.proofs.laws.reading_is_sound.Goals as goal

pub returns : goal.returns
returns c = line_sound
