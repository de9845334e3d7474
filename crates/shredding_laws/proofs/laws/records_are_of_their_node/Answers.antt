use Rattle.shredding_laws.proofs.Standing.{have_shape, optional_are}
use Rattle.shredding_laws.proofs.laws.records_are_of_their_node.Goals as goal

pub returns-clause-shape : goal.returns-clause-shape
returns-clause-shape c = λ code node tree h valid. have_shape code node tree h valid

pub returns-clause-optional : goal.returns-clause-optional
returns-clause-optional c = λ code node tree h valid. optional_are code node tree h valid

pub returns-clause-required : goal.returns-clause-required
returns-clause-required c = λ code tree. (tt, tt)
