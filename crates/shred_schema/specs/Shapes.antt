-- Which records stand in a node.
use Rattle.std.specs.Prelude.{◌≡◌, ℕ, Bool, true, List, Option, Some, None}
use Rattle.shred_schema.specs.declared.nodes.Slot.{Slot}
use Rattle.shred_schema.specs.declared.nodes.Slot.TheVariants.{Absent, Required}
use Rattle.shred_schema.specs.Cells.{is_of_prim}
use Rattle.shred_schema.specs.Groups.{Group, group, Kind, scalar, object_of, list_of, Groups, no_groups, field}
use Rattle.shred_schema.specs.Recs.{Rec, rec, RecPart, empty, cell, fields, items, Recs, no_recs, recs, EachRec, RowRec, absent, present}

-- a value stands only where the node has one
abbrev pub MayStand : Slot → Option (List ℕ) → Type 0
MayStand Absent (Some bytes) = ⊥
MayStand s v = Unit {0}

-- and always where it is required
abbrev pub Stands : Slot → Option (List ℕ) → Type 0
Stands Absent (Some bytes) = ⊥
Stands Required None = ⊥
Stands s v = Unit {0}

-- A record stands in a node if its values pass `V`, and a typed part, where there is one, is by the kind of the node's
-- typed part a cell, a record for each field, or records for items.
abbrev mutual
  pub StandsIn : (Slot → Option (List ℕ) → Type 0) → Group → Rec → Type 0
  StandsIn V (group s t) (rec v p) = V s v × PartStandsIn V t p

  pub PartStandsIn : (Slot → Option (List ℕ) → Type 0) → Kind → RecPart → Type 0
  PartStandsIn V t empty = Unit {0}
  PartStandsIn V (scalar q) (cell c) = is_of_prim q c ≡ true
  PartStandsIn V (object_of gs) (fields xs) = FieldsStandIn V gs xs
  PartStandsIn V (list_of n) (items xs) = EachRec (StandsIn V n) xs
  PartStandsIn V t p = ⊥

  pub FieldsStandIn : (Slot → Option (List ℕ) → Type 0) → Groups → Recs → Type 0
  FieldsStandIn V no_groups no_recs = Unit {0}
  FieldsStandIn V (field name n gs) (recs x xs) = StandsIn V n x × FieldsStandIn V gs xs
  FieldsStandIn V gs xs = ⊥

-- the record is one of the node
abbrev pub IsOf : Group → Rec → Type 0
IsOf = StandsIn Stands

abbrev pub PartIsOf : Kind → RecPart → Type 0
PartIsOf = PartStandsIn Stands

abbrev pub FieldsAreOf : Groups → Recs → Type 0
FieldsAreOf = FieldsStandIn Stands

-- the record has the node's shape and cells. A required value may be missing, as where it wasn't read
abbrev pub HasShape : Group → Rec → Type 0
HasShape = StandsIn MayStand

abbrev pub PartHasShape : Kind → RecPart → Type 0
PartHasShape = PartStandsIn MayStand

abbrev pub FieldsHaveShape : Groups → Recs → Type 0
FieldsHaveShape = FieldsStandIn MayStand

-- The same of rows: one may be absent only in an optional column.

abbrev pub RowIsOf : Bool → Group → RowRec → Type 0
RowIsOf optional n absent = optional ≡ true
RowIsOf optional n (present meta x) = IsOf n x

abbrev pub RowHasShape : Group → RowRec → Type 0
RowHasShape n absent = Unit {0}
RowHasShape n (present meta x) = HasShape n x
