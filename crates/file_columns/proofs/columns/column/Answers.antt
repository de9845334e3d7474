use Rattle.file_columns.specs.Views.{shown}
use Rattle.file_columns.proofs.WellFormed.{column_given}
use Rattle.file_columns.proofs.PlacesWithin.{places_within}
use Rattle.file_columns.proofs.columns.column.Goals as goal

pub returns-in-Ok-clause-well_formed : goal.returns-in-Ok-clause-well_formed
returns-in-Ok-clause-well_formed c = (column_given _ _ _ (shown c.in-Ok.found) c.in-Ok.ensures).formed

pub returns-in-Ok-clause-leaves : goal.returns-in-Ok-clause-leaves
returns-in-Ok-clause-leaves c = (column_given _ _ _ (shown c.in-Ok.found) c.in-Ok.ensures).leaves

pub returns-in-Ok-clause-places : goal.returns-in-Ok-clause-places
returns-in-Ok-clause-places c = (column_given _ _ _ (shown c.in-Ok.found) c.in-Ok.ensures).places

pub returns-in-Ok-clause-ordered : goal.returns-in-Ok-clause-ordered
returns-in-Ok-clause-ordered c = (column_given _ _ _ (shown c.in-Ok.found) c.in-Ok.ensures).ordered

pub returns-in-Ok-clause-within : goal.returns-in-Ok-clause-within
returns-in-Ok-clause-within c = places_within _ _ _ (shown c.in-Ok.found) c.in-Ok.ensures
