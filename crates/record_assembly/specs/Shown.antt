-- What a mask leaves of a record: no value where its leaf isn't read, and no typed part where none of its leaves is.
-- The fields and items of any other typed part keep their places.
use Rattle.std.specs.Prelude.{ℕ, ◌+◌, [], map, Bool, cond, None}
use Rattle.shred_schema.specs.Groups.{Group, group, Kind, object_of, list_of, Groups, field, slot_width, width, kind_width}
use Rattle.shred_schema.specs.Ranges.{none_read}
use Rattle.shred_schema.specs.Recs.{Rec, rec, RecPart, empty, fields, items, Recs, recs, recs_in, recs_from, RowRec, absent, present}

-- of a node whose first leaf is k
abbrev mutual
  pub shown : Group → ℕ → (ℕ → Bool) → Rec → Rec
  shown (group s t) k mask (rec v p) = rec (cond (none_read mask k (slot_width s)) None v) (cond (none_read mask (k + slot_width s) (kind_width t)) empty (part_shown t (k + slot_width s) mask p))

  pub part_shown : Kind → ℕ → (ℕ → Bool) → RecPart → RecPart
  part_shown (object_of gs) k mask (fields xs) = fields (fields_shown gs k mask xs)
  part_shown (list_of n) k mask (items xs) = items (recs_from (map (shown n k mask) (recs_in xs)))
  part_shown t k mask p = p

  pub fields_shown : Groups → ℕ → (ℕ → Bool) → Recs → Recs
  fields_shown (field name n gs) k mask (recs x xs) = recs (shown n k mask x) (fields_shown gs (k + width n) mask xs)
  fields_shown gs k mask xs = xs

-- of a row: no metadata where leaf 0 isn't read
abbrev pub row_shown : Group → (ℕ → Bool) → RowRec → RowRec
row_shown n mask absent = absent
row_shown n mask (present meta x) = present (cond (mask 0) meta []) (shown n 1 mask x)
