use Rattle.json_tree.proofs.ValidParts.{valid_ordered}
use Rattle.json_tree.proofs.laws.valid_is_ordered.Goals as goal

pub returns : goal.returns
returns c = valid_ordered
