use Rattle.exact_json.proofs.LineValues.{line_value}
use Rattle.exact_json.proofs.laws.value_is_line_value.Goals as goal

pub returns : goal.returns
returns c = line_value
