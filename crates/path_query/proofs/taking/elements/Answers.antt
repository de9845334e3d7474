use Rattle.path_query.proofs.Parts.{elements_seen}
use Rattle.path_query.proofs.taking.elements.Goals as goal

pub returns-in-Array : goal.returns-in-Array
returns-in-Array c = elements_seen c.args.tree.now c.in-Array.items c.as_slice.result.now c.in-Array.is c.as_slice.ensures.seen
