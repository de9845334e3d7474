use Rattle.json_tree.proofs.Views.{items_counted}
use Rattle.json_tree.proofs.types.Items.len.Goals as goal

pub returns : goal.returns
returns c = items_counted c.args.self.now c.as_slice.result.now c.as_slice.ensures.seen
