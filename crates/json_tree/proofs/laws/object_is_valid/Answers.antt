use Rattle.json_tree.proofs.ValidParts.{object_valid}
use Rattle.json_tree.proofs.laws.object_is_valid.Goals as goal

pub returns : goal.returns
returns c = object_valid
