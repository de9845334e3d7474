-- What the code's values are seen as.
use Rattle.shred_schema.specs.Views.{group_of}
use Rattle.file_columns.specs.declared.places.Child.{Child}
use Rattle.file_columns.specs.declared.columns.FileColumn.{FileColumn}
use Rattle.schema_elements.specs.SchemaTrees.{child_count}
use Rattle.file_columns.specs.Forests.{front, forest}
use Rattle.file_columns.specs.Columns.{PlacedElement, ColumnView}

-- an element of a schema with what stands inside it
abbrev pub seen : Child → PlacedElement
seen c = record { place = c.place; element = c.element.now; inside = front (child_count c.element.now) (forest c.inside.now) }

abbrev pub shown : FileColumn → ColumnView
shown c = record { optional = c.column.optional; node = group_of c.column.node; leaves = c.leaves; places = c.places; ordered = c.ordered }
