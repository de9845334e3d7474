-- What a mask leaves of a record has the shape of the node.
use Rattle.std.proofs.Common.{ℕ, ◌+◌, Bool, true, false, cond, List, map, Option, None}
use Rattle.shred_schema.specs.declared.nodes.Slot.{Slot}
use Rattle.shred_schema.specs.declared.nodes.Slot.TheVariants.{Absent, Required, Optional}
use Rattle.shred_schema.specs.Groups.{Group, group, Kind, free, scalar, object_of, list_of, Groups, no_groups, field, slot_width, width, kind_width}
use Rattle.shred_schema.specs.Ranges.{none_read}
use Rattle.shred_schema.specs.Recs.{Rec, rec, RecPart, empty, cell, fields, items, Recs, no_recs, recs, recs_in, recs_from, EachRec}
use Rattle.shred_schema.specs.Shapes.{MayStand, HasShape, PartHasShape, FieldsHaveShape}
use Rattle.record_assembly.specs.Shown.{shown, part_shown, fields_shown}

value_shape : (s : Slot) (b : Bool) (v : Option (List ℕ)) → MayStand s v → MayStand s (cond b None v)
value_shape Absent true v h = tt
value_shape Required true v h = tt
value_shape Optional true v h = tt
value_shape s false v h = h

part_shape : (t : Kind) (b : Bool) (p : RecPart) → PartHasShape t p → PartHasShape t (cond b empty p)
part_shape free true p h = tt
part_shape (scalar q) true p h = tt
part_shape (object_of gs) true p h = tt
part_shape (list_of n) true p h = tt
part_shape t false p h = h

each_mapped : (P : Rec → Type 0) (f : Rec → Rec) → ((x : Rec) → P x → P (f x)) → (xs : Recs) → EachRec P xs → EachRec P (recs_from (map f (recs_in xs)))
each_mapped P f keeps no_recs h = tt
each_mapped P f keeps (recs x xs) h = (keeps x h.0, each_mapped P f keeps xs h.1)

mutual
  pub shown_shape : (n : Group) (k : ℕ) (mask : ℕ → Bool) (x : Rec) → HasShape n x → HasShape n (shown n k mask x)
  shown_shape (group s t) k mask (rec v p) h = (
    value_shape s (none_read mask k (slot_width s)) v h.0,
    part_shape t (none_read mask (k + slot_width s) (kind_width t)) (part_shown t (k + slot_width s) mask p) (part_shown_shape t (k + slot_width s) mask p h.1),
  )

  part_shown_shape : (t : Kind) (k : ℕ) (mask : ℕ → Bool) (p : RecPart) → PartHasShape t p → PartHasShape t (part_shown t k mask p)
  part_shown_shape free k mask p h = h
  part_shown_shape (scalar q) k mask p h = h
  part_shown_shape (object_of gs) k mask empty h = tt
  part_shown_shape (object_of gs) k mask (cell c) h = h
  part_shown_shape (object_of gs) k mask (fields xs) h = fields_shown_shape gs k mask xs h
  part_shown_shape (object_of gs) k mask (items xs) h = h
  part_shown_shape (list_of n) k mask empty h = tt
  part_shown_shape (list_of n) k mask (cell c) h = h
  part_shown_shape (list_of n) k mask (fields xs) h = h
  part_shown_shape (list_of n) k mask (items xs) h = each_mapped (HasShape n) (shown n k mask) (shown_shape n k mask) xs h

  fields_shown_shape : (gs : Groups) (k : ℕ) (mask : ℕ → Bool) (xs : Recs) → FieldsHaveShape gs xs → FieldsHaveShape gs (fields_shown gs k mask xs)
  fields_shown_shape no_groups k mask no_recs h = tt
  fields_shown_shape no_groups k mask (recs x xs) h = h
  fields_shown_shape (field name n gs) k mask no_recs h = h
  fields_shown_shape (field name n gs) k mask (recs x xs) h = (shown_shape n k mask x h.0, fields_shown_shape gs (k + width n) mask xs h.1)
