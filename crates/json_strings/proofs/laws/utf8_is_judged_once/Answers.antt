use Rattle.json_strings.proofs.Utf8Texts.{read_unjudged}
use Rattle.json_strings.proofs.laws.utf8_is_judged_once.Goals as goal

pub returns : goal.returns
returns c = read_unjudged
