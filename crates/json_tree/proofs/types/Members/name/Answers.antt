use Rattle.std.proofs.Common.{◌<◌, length, arith, rules}
use Rattle.json_tree.proofs.Views.{name_read, members_counted}
use Rattle.json_tree.proofs.types.Members.name.Goals as goal

pub bounds-pairs-i : goal.bounds-pairs-i
bounds-pairs-i c = omega (arith, c.requires, members_counted c.args.self.now c.as_slice-pairs.result.now c.as_slice-pairs.ensures.seen)

pub offset_bounds-pairs-i : goal.offset_bounds-pairs-i
offset_bounds-pairs-i c = let within : c.args.i < length c.as_slice-pairs.result.now = bounds-pairs-i c in search rules

pub returns : goal.returns
returns c = rw c.as_str.ensures (name_read c.args.self.now c.as_slice-pairs.result.now c.args.i c.index-pairs-i.result c.as_slice-pairs.ensures.seen c.requires c.index-pairs-i.is)
