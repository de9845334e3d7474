use Rattle.group_reading.proofs.ShownShapes.{shown_shape}
use Rattle.reading_laws.proofs.Shapes.{row_shape}
use Rattle.reading_laws.proofs.laws.shapes_stay.Goals as goal

pub returns-clause-record : goal.returns-clause-record
returns-clause-record c = shown_shape

pub returns-clause-row : goal.returns-clause-row
returns-clause-row c = row_shape
