use Rattle.shred_schema.proofs.Projected.{width_projected, leaves_projected, nesting_projected}
use Rattle.shred_schema.proofs.laws.projections_are_narrow.Goals as goal

pub returns-clause-leaves : goal.returns-clause-leaves
returns-clause-leaves c = width_projected

pub returns-clause-some : goal.returns-clause-some
returns-clause-some c = leaves_projected

pub returns-clause-deep : goal.returns-clause-deep
returns-clause-deep c = nesting_projected
