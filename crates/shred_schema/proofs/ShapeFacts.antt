-- What is of a node has its shape, and the test of a cell is the relation.
use Rattle.std.proofs.Common.{ℕ, List, Some, None, Option}
use Rattle.shred_schema.specs.declared.nodes.Slot.{Slot}
use Rattle.shred_schema.specs.declared.nodes.Slot.TheVariants.{Absent, Required, Optional}
use Rattle.shred_schema.specs.Groups.{Group, group, Kind, free, scalar, object_of, list_of, Groups, no_groups, field}
use Rattle.shred_schema.specs.Recs.{Rec, rec, RecPart, empty, cell, fields, items, Recs, no_recs, recs, EachRec}
use Rattle.shred_schema.specs.Shapes.{MayStand, Stands, StandsIn, PartStandsIn, FieldsStandIn, IsOf, HasShape}

pub each_weaker : {P Q : Rec → Type 0} → ((x : Rec) → P x → Q x) → (xs : Recs) → EachRec P xs → EachRec Q xs
each_weaker f no_recs h = tt
each_weaker f (recs x xs) h = (f x h.0, each_weaker f xs h.1)

module _ (V W : Slot → Option (List ℕ) → Type 0) (weaker : (s : Slot) (v : Option (List ℕ)) → V s v → W s v) where
  mutual
    pub stands_weaker : (n : Group) (x : Rec) → StandsIn V n x → StandsIn W n x
    stands_weaker (group s t) (rec v p) h = (weaker s v h.0, part_weaker t p h.1)

    part_weaker : (t : Kind) (p : RecPart) → PartStandsIn V t p → PartStandsIn W t p
    part_weaker free empty h = tt
    part_weaker (scalar q) empty h = tt
    part_weaker (object_of gs) empty h = tt
    part_weaker (list_of n) empty h = tt
    part_weaker (scalar q) (cell c) h = h
    part_weaker (object_of gs) (fields xs) h = fields_weaker gs xs h
    part_weaker (list_of n) (items xs) h = each_weaker (stands_weaker n) xs h
    part_weaker free (cell c) h = absurd h
    part_weaker free (fields xs) h = absurd h
    part_weaker free (items xs) h = absurd h
    part_weaker (scalar q) (fields xs) h = absurd h
    part_weaker (scalar q) (items xs) h = absurd h
    part_weaker (object_of gs) (cell c) h = absurd h
    part_weaker (object_of gs) (items xs) h = absurd h
    part_weaker (list_of n) (cell c) h = absurd h
    part_weaker (list_of n) (fields xs) h = absurd h

    fields_weaker : (gs : Groups) (xs : Recs) → FieldsStandIn V gs xs → FieldsStandIn W gs xs
    fields_weaker no_groups no_recs h = tt
    fields_weaker (field name n gs) (recs x xs) h = (stands_weaker n x h.0, fields_weaker gs xs h.1)
    fields_weaker no_groups (recs x xs) h = absurd h
    fields_weaker (field name n gs) no_recs h = absurd h

may_stand : (s : Slot) (v : Option (List ℕ)) → Stands s v → MayStand s v
may_stand Absent None h = tt
may_stand Absent (Some bytes) h = absurd h
may_stand Required None h = tt
may_stand Required (Some bytes) h = tt
may_stand Optional None h = tt
may_stand Optional (Some bytes) h = tt

-- a record of a node has the node's shape
pub has_shape : (n : Group) (x : Rec) → IsOf n x → HasShape n x
has_shape = stands_weaker Stands MayStand may_stand
