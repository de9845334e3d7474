use Rattle.shred_schema.proofs.NodeFacts.{written_are_nodes, nodes_have_leaves}
use Rattle.shredding_laws.proofs.Back.{back}
use Rattle.shredding_laws.proofs.laws.what_is_shredded_comes_back.Goals as goal

pub returns : goal.returns
returns c = λ names widths node tree leaf above written wide is. back names widths wide node written (nodes_have_leaves node (written_are_nodes node written)) leaf above tree is
