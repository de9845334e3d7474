use Rattle.written_columns.proofs.Fits.{one_tree, leaves_are, have_lengths, schema_fits}
use Rattle.written_columns.proofs.laws.written_schemas_fit.Goals as goal

pub returns-clause-tree : goal.returns-clause-tree
returns-clause-tree c = one_tree

pub returns-clause-leaves : goal.returns-clause-leaves
returns-clause-leaves c = leaves_are

pub returns-clause-lengths : goal.returns-clause-lengths
returns-clause-lengths c = have_lengths

pub returns-clause-fits : goal.returns-clause-fits
returns-clause-fits c = schema_fits
