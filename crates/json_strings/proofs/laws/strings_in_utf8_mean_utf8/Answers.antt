use Rattle.json_strings.proofs.Utf8Texts.{meant_utf8}
use Rattle.json_strings.proofs.laws.strings_in_utf8_mean_utf8.Goals as goal

pub returns : goal.returns
returns c = meant_utf8
