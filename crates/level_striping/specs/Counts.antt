-- How many entries a record has in all leaves together, without its entries.
use Rattle.std.specs.Prelude.{ℕ, zero, suc, ◌+◌}
use Rattle.shred_schema.specs.Groups.{Group, group, Kind, free, scalar, object_of, list_of, Groups, field, slot_width, width, groups_width}
use Rattle.shred_schema.specs.Recs.{Rec, rec, RecPart, fields, items, Recs, no_recs, recs, RowRec, absent, present}

-- the sum of what each of `count` leaves from k on has
abbrev pub leaf_sum : ℕ → ℕ → (ℕ → ℕ) → ℕ
leaf_sum k zero f = 0
leaf_sum k (suc count) f = f k + leaf_sum (k + 1) count f

-- the sum of what each record has
abbrev pub items_count : (Rec → ℕ) → Recs → ℕ
items_count f no_recs = 0
items_count f (recs x xs) = f x + items_count f xs

-- one entry in each leaf of what is absent, of a value, of a cell and of an empty list
abbrev mutual
  pub entry_count : Group → Rec → ℕ
  entry_count (group s t) (rec v p) = slot_width s + part_count t p

  pub part_count : Kind → RecPart → ℕ
  part_count free p = 0
  part_count (scalar q) p = 1
  part_count (object_of gs) (fields xs) = fields_count gs xs
  part_count (object_of gs) p = groups_width gs
  part_count (list_of n) (items no_recs) = width n
  part_count (list_of n) (items (recs x xs)) = entry_count n x + items_count (entry_count n) xs
  part_count (list_of n) p = width n

  pub fields_count : Groups → Recs → ℕ
  fields_count (field name n gs) (recs x xs) = entry_count n x + fields_count gs xs
  fields_count _ _ = 0

abbrev pub row_count : Group → RowRec → ℕ
row_count n absent = 1 + width n
row_count n (present meta x) = 1 + entry_count n x
