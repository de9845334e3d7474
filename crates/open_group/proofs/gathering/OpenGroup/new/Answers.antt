use Rattle.shred_schema.specs.Views.{group_of}
use Rattle.schema_parsing.specs.Canonical.{schema_text}
use Rattle.open_group.proofs.Gathers.{well_formed}
use Rattle.open_group.proofs.gathering.OpenGroup.new.Goals as goal

pub leaves-requires : goal.leaves-requires
leaves-requires c = well_formed (schema_text (group_of c.args.column.node)) (group_of c.args.column.node) c.requires.column.schema
