use Rattle.std.proofs.Common.{arith}
use Rattle.shred_schema.specs.Views.{group_of}
use Rattle.shred_schema.proofs.NodeFacts.{height_most}
use Rattle.shred_schema.proofs.leaf_list.leaves.Goals as goal

pub put_node-requires-clause-rep : goal.put_node-requires-clause-rep
put_node-requires-clause-rep c = omega (arith, height_most (group_of c.args.column.now.node), c.requires.deep)

pub put_node-requires-clause-def : goal.put_node-requires-clause-def
put_node-requires-clause-def c = omega (arith, height_most (group_of c.args.column.now.node), c.requires.deep, c.top_level-def.ensures.small)
