use Rattle.json_strings.proofs.Strings.{string_once}
use Rattle.json_strings.proofs.laws.strings_are_one.Goals as goal

pub returns : goal.returns
returns c = string_once
