use Rattle.json_grammar.proofs.Lines.{line_complete}
use Rattle.json_grammar.proofs.laws.reading_is_complete.Goals as goal

pub returns : goal.returns
returns c = line_complete
