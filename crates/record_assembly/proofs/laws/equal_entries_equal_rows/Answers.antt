use Rattle.record_assembly.proofs.Alike.{nodes_have_leaves, same_rows}
use Rattle.record_assembly.proofs.laws.equal_entries_equal_rows.Goals as goal

pub returns-clause-column : goal.returns-clause-column
returns-clause-column c = λ o n rows others h of of_others same. same_rows o n rows others (nodes_have_leaves n h.nodes) of of_others same

pub returns-clause-leaves : goal.returns-clause-leaves
returns-clause-leaves c = λ o n rows others h of of_others same. same_rows o n rows others h of of_others same
