use Rattle.record_assembly.proofs.Alike.{nodes_have_leaves}
use Rattle.reading_laws.proofs.GroupRecords.{group_meant}
use Rattle.reading_laws.proofs.laws.groups_have_their_records.Goals as goal

pub returns : goal.returns
returns c = λ mask optional n records chunk all well of given. group_meant mask optional n records all (nodes_have_leaves n well.nodes) of chunk given
