use Rattle.file_columns.proofs.ForestFacts.{flat_forest, forest_flat, tree_tells, tree_is_one, one_is_told}
use Rattle.file_columns.proofs.laws.schemas_are_trees.Goals as goal

pub returns-clause-elements : goal.returns-clause-elements
returns-clause-elements c = flat_forest

pub returns-clause-one : goal.returns-clause-one
returns-clause-one c = forest_flat

pub returns-clause-tells : goal.returns-clause-tells
returns-clause-tells c = tree_tells

pub returns-clause-tree : goal.returns-clause-tree
returns-clause-tree c = tree_is_one

pub returns-clause-told : goal.returns-clause-told
returns-clause-told c = one_is_told
