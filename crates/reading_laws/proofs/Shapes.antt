-- What a mask leaves of a row has the shape of the column.
use Rattle.std.proofs.Common.{ℕ, Bool}
use Rattle.shred_schema.specs.Groups.{Group}
use Rattle.shred_schema.specs.Recs.{RowRec, absent, present}
use Rattle.shred_schema.specs.Shapes.{RowHasShape}
use Rattle.record_assembly.specs.Shown.{row_shown}
use Rattle.group_reading.proofs.ShownShapes.{shown_shape}

pub row_shape : (n : Group) (mask : ℕ → Bool) (row : RowRec) → RowHasShape n row → RowHasShape n (row_shown n mask row)
row_shape n mask absent h = tt
row_shape n mask (present meta x) h = shown_shape n 1 mask x h
