-- The row of a row record: what its record means by the names in its metadata.
use Rattle.std.specs.Prelude.{ℕ, ◌+◌, Bool, false, ◌&&◌, ◌||◌, if◌then◌else◌, List, [], Option, None, Some, is_some, Result, Ok}
use Rattle.json_tree.specs.Json.{Json}
use Rattle.variant_meta.specs.Metadata.{names}
use Rattle.vs_bytes.specs.Outcome.{◌>>=◌}
use Rattle.vs_bytes.specs.declared.rule.Rule.{Rule}
use Rattle.shred_schema.specs.Groups.{Group, group, Kind, object_of, list_of, Groups, field, slot_width, width}
use Rattle.shred_schema.specs.Ranges.{is_any_read, every}
use Rattle.shred_schema.specs.Recs.{Rec, rec, RecPart, fields, items, Recs, no_recs, recs, RowRec, absent, present}
use Rattle.unshredder.specs.Merging.{or_null}
use Rattle.unshredder.specs.Seen.{seen}

-- some record passes
abbrev pub any_rec : (Rec → Bool) → Recs → Bool
any_rec p no_recs = false
any_rec p (recs x xs) = p x || any_rec p xs

-- some value that is read is there
abbrev mutual
  pub has_value : (ℕ → Bool) → Group → ℕ → Rec → Bool
  has_value mask (group s t) k (rec v p) = (is_some v && is_any_read mask k (slot_width s)) || part_has_value mask t (k + slot_width s) p

  pub part_has_value : (ℕ → Bool) → Kind → ℕ → RecPart → Bool
  part_has_value mask (object_of gs) k (fields xs) = fields_have_value mask gs k xs
  part_has_value mask (list_of n) k (items xs) = any_rec (has_value mask n k) xs
  part_has_value mask t k p = false

  pub fields_have_value : (ℕ → Bool) → Groups → ℕ → Recs → Bool
  fields_have_value mask (field name n gs) k (recs x xs) = has_value mask n k x || fields_have_value mask gs (k + width n) xs
  fields_have_value mask gs k xs = false

-- the names of metadata, where they are needed
abbrev pub names_needed : Bool → List ℕ → Result (List (List ℕ)) Rule
names_needed needed meta = if needed then names meta else Ok []

-- what a row means where a mask says which leaves are read, or the first rule that it violates. Leaf 0 is the metadata.
-- An absent row has no value; a row of which nothing is there is null
unfoldable pub row_seen : (ℕ → Bool) → Group → RowRec → Result (Option Json) Rule
row_seen mask n absent = Ok None
row_seen mask n (present meta x) =
    names_needed (has_value mask n 1 x) meta >>= λ ns.
    seen mask ns n 1 0 x >>= λ found.
    Ok (Some (or_null found))

-- the row, where each leaf is read
abbrev pub row_of : Group → RowRec → Result (Option Json) Rule
row_of = row_seen every
