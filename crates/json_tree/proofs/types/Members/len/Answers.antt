use Rattle.json_tree.proofs.Views.{members_counted}
use Rattle.json_tree.proofs.types.Members.len.Goals as goal

pub returns : goal.returns
returns c = members_counted c.args.self.now c.as_slice.result.now c.as_slice.ensures.seen
