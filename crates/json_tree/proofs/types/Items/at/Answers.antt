use Rattle.std.proofs.Common.{◌<◌, length, arith, rules}
use Rattle.json_tree.proofs.Views.{item_read, items_counted}
use Rattle.json_tree.proofs.types.Items.at.Goals as goal

pub bounds-trees-i : goal.bounds-trees-i
bounds-trees-i c = omega (arith, c.requires, items_counted c.args.self.now c.as_slice-trees.result.now c.as_slice-trees.ensures.seen)

pub offset_bounds-trees-i : goal.offset_bounds-trees-i
offset_bounds-trees-i c = let within : c.args.i < length c.as_slice-trees.result.now = bounds-trees-i c in search rules

pub returns : goal.returns
returns c = item_read c.args.self.now c.as_slice-trees.result.now c.args.i c.index-trees-i.result c.as_slice-trees.ensures.seen c.requires c.index-trees-i.is
