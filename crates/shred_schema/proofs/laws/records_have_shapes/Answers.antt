use Rattle.shred_schema.proofs.ShapeFacts.{has_shape}
use Rattle.shred_schema.proofs.laws.records_have_shapes.Goals as goal

pub returns : goal.returns
returns c = has_shape
