use Rattle.shred_schema.specs.Views.{group_of}
use Rattle.striping_cost.proofs.Filled.{schema_column}
use Rattle.striping_cost.proofs.turns.column_of.Goals as goal

pub returns-in-Ok : goal.returns-in-Ok
returns-in-Ok c = schema_column c.args.schema.now (group_of c.in-Ok.node) c.in-Ok.ensures.parses
