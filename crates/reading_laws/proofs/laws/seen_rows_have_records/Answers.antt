use Rattle.record_assembly.proofs.Alike.{nodes_have_leaves}
use Rattle.reading_laws.proofs.RecordsSeen.{group_records, records_same}
use Rattle.reading_laws.proofs.laws.seen_rows_have_records.Goals as goal

pub returns-clause-there : goal.returns-clause-there
returns-clause-there c = λ mask optional n count chunk rows all well held given. group_records mask optional n all (nodes_have_leaves n well.nodes) count chunk rows held given

pub returns-clause-one : goal.returns-clause-one
returns-clause-one c = λ optional n count chunk rows others well a b. records_same optional n count chunk rows others (nodes_have_leaves n well.nodes) a b
