use Rattle.json_grammar.proofs.Lines.{written_once}
use Rattle.json_grammar.proofs.laws.written_once.Goals as goal

pub returns : goal.returns
returns c = written_once
