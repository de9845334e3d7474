-- Records whose values and cells can be written into the leaves of their node.
use Rattle.std.specs.Prelude.{ℕ, List, Option, None, Some}
use Rattle.plain_values.specs.Written.{IsShort, IsCell}
use Rattle.shred_schema.specs.Groups.{Group, group, Kind, scalar, object_of, list_of, Groups, field}
use Rattle.shred_schema.specs.Kinds.{type_written}
use Rattle.shred_schema.specs.Recs.{Rec, rec, RecPart, cell, fields, items, Recs, recs, EachRec, RowRec, absent, present}

abbrev pub ValueFits : Option (List ℕ) → Type 0
ValueFits None = Unit {0}
ValueFits (Some bytes) = IsShort bytes

-- each value is a BYTE_ARRAY, and each cell one of the physical type in which its kind is written
abbrev mutual
  pub FitsLeaves : Group → Rec → Type 0
  FitsLeaves (group s t) (rec v p) = ValueFits v × PartFitsLeaves t p

  pub PartFitsLeaves : Kind → RecPart → Type 0
  PartFitsLeaves (scalar q) (cell c) = IsCell (type_written q) q c
  PartFitsLeaves (object_of gs) (fields xs) = FieldsFitLeaves gs xs
  PartFitsLeaves (list_of n) (items xs) = EachRec (FitsLeaves n) xs
  PartFitsLeaves t p = Unit {0}

  pub FieldsFitLeaves : Groups → Recs → Type 0
  FieldsFitLeaves (field name n gs) (recs x xs) = FitsLeaves n x × FieldsFitLeaves gs xs
  FieldsFitLeaves gs xs = Unit {0}

-- and the metadata is a BYTE_ARRAY
abbrev pub RowFitsLeaves : Group → RowRec → Type 0
RowFitsLeaves n absent = Unit {0}
RowFitsLeaves n (present meta x) = IsShort meta × FitsLeaves n x
