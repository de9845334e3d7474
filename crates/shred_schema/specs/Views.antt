-- What nodes and records are seen as.
use Rattle.std.specs.Prelude.{ℕ, List, Option, Some, None}
use Rattle.shred_schema.specs.Groups.{Group, group, Kind, free, scalar, object_of, list_of, Groups, groups_from}
use Rattle.shred_schema.specs.Recs.{Rec, rec, RecPart, empty, cell, fields, items, recs_from, RowRec, absent, present}
use Rattle.shred_schema.specs.declared.nodes.Node.{Node, fold-Node}
use Rattle.shred_schema.specs.declared.nodes.Typed.TheOpen.{Node-F, Typed-F, FieldList-F}
use Rattle.shred_schema.specs.declared.nodes.FieldList.{FieldList, fold-FieldList, out-FieldList}
use Rattle.shred_schema.specs.declared.nodes.Typed.{Typed, fold-Typed}
use Rattle.shred_schema.specs.declared.records.Record.{Record, fold-Record}
use Rattle.shred_schema.specs.declared.records.Part.TheOpen.{Record-F, Part-F}
use Rattle.shred_schema.specs.declared.records.Part.{Part, fold-Part}
use Rattle.shred_schema.specs.declared.records.RowRecord.{RowRecord}
use Rattle.shred_schema.specs.declared.records.RowRecord.TheVariants as row

-- one level, with what is inside already seen

abbrev pub kind_step : Typed-F Kind Groups Group → Kind
kind_step Typed-F.Free = free
kind_step (Typed-F.Prim q) = scalar q
kind_step (Typed-F.Fields gs) = object_of gs
kind_step (Typed-F.Items n) = list_of n

abbrev pub groups_step : FieldList-F Kind Groups Group → Groups
groups_step f = groups_from f.fields

abbrev pub group_step : Node-F Kind Groups Group → Group
group_step n = group n.value n.typed

abbrev pub group_of : Node → Group
group_of = fold-Node Kind Groups Group kind_step groups_step group_step

abbrev pub kind_of : Typed → Kind
kind_of = fold-Typed Kind Groups Group kind_step groups_step group_step

abbrev pub groups_of : FieldList → Groups
groups_of = fold-FieldList Kind Groups Group kind_step groups_step group_step

-- the fields in the code's own terms, and a field as plain data
abbrev pub fields_in : FieldList → List (List ℕ × Node)
fields_in fs = (out-FieldList fs).fields

abbrev pub named : List ℕ × Node → List ℕ × Group
named f = (f.0, group_of f.1)

abbrev pub part_step : Part-F RecPart Rec → RecPart
part_step (Part-F.Cell c) = cell c
part_step (Part-F.Fields xs) = fields (recs_from xs)
part_step (Part-F.Items xs) = items (recs_from xs)

abbrev pub part_or_empty : Option RecPart → RecPart
part_or_empty None = empty
part_or_empty (Some p) = p

abbrev pub rec_step : Record-F RecPart Rec → Rec
rec_step r = rec r.value (part_or_empty r.typed)

abbrev pub rec_of : Record → Rec
rec_of = fold-Record RecPart Rec part_step rec_step

abbrev pub part_of : Part → RecPart
part_of = fold-Part RecPart Rec part_step rec_step

abbrev pub row_rec_of : RowRecord → RowRec
row_rec_of row.Absent = absent
row_rec_of (row.Present meta x) = present meta (rec_of x)
