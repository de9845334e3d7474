use Rattle.schema_elements.proofs.ElementsBack.{logical_read_back, element_read_back}
use Rattle.schema_elements.proofs.laws.elements_read_back.Goals as goal

pub returns-clause-logical_types : goal.returns-clause-logical_types
returns-clause-logical_types c = λ l rest f. logical_read_back l rest f

pub returns-clause-elements : goal.returns-clause-elements
returns-clause-elements c = λ e rest f. element_read_back e rest f
