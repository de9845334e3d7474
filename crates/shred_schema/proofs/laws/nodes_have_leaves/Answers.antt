use Rattle.shred_schema.proofs.NodeFacts.{written_are_nodes, nodes_width, nodes_have_leaves, column_leaf_count}
use Rattle.shred_schema.proofs.laws.nodes_have_leaves.Goals as goal

pub returns-clause-written : goal.returns-clause-written
returns-clause-written c = written_are_nodes

pub returns-clause-some : goal.returns-clause-some
returns-clause-some c = nodes_width

pub returns-clause-all : goal.returns-clause-all
returns-clause-all c = nodes_have_leaves

pub returns-clause-count : goal.returns-clause-count
returns-clause-count c = column_leaf_count
