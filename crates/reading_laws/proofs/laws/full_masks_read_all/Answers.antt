use Rattle.record_assembly.proofs.Alike.{nodes_have_leaves}
use Rattle.reading_laws.proofs.Whole.{all_shown, all_seen}
use Rattle.reading_laws.proofs.laws.full_masks_read_all.Goals as goal

pub returns-clause-shown : goal.returns-clause-shown
returns-clause-shown c = λ mask optional n row all well of. all_shown mask optional n row all (nodes_have_leaves n well.nodes) of

pub returns-clause-seen : goal.returns-clause-seen
returns-clause-seen c = all_seen
