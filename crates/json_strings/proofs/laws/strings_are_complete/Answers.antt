use Rattle.json_strings.proofs.Strings.{string_complete}
use Rattle.json_strings.proofs.laws.strings_are_complete.Goals as goal

pub returns : goal.returns
returns c = string_complete
