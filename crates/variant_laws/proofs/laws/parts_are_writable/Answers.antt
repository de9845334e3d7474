use Rattle.variant_laws.proofs.WritableParts.{elements_writable, values_writable, chosen_writable}
use Rattle.variant_laws.proofs.laws.parts_are_writable.Goals as goal

pub returns-clause-elements : goal.returns-clause-elements
returns-clause-elements c = λ ns above elements is. elements_writable ns above elements is

pub returns-clause-values : goal.returns-clause-values
returns-clause-values c = λ ns above members is. values_writable ns above members is

pub returns-clause-chosen : goal.returns-clause-chosen
returns-clause-chosen c = λ ns above kept members is. chosen_writable ns above kept members is
