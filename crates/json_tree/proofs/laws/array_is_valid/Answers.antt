use Rattle.json_tree.proofs.ValidParts.{array_valid}
use Rattle.json_tree.proofs.laws.array_is_valid.Goals as goal

pub returns : goal.returns
returns c = array_valid
