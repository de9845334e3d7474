-- What a record means where a mask says which leaves are read, or the first rule that it violates (VariantShredding.md,
-- "Reconstructing a Shredded Variant"). What isn't read counts as missing. A node's leaves begin at leaf `k`, and the
-- node stands inside `above` objects and lists of the column.
use Rattle.std.specs.Prelude.{ℕ, zero, suc, ◌+◌, Bool, true, ◌&&◌, if◌then◌else◌, List, [], ◌∷◌, ◌++◌, Option, None, Some, Result, Ok}
use Rattle.json_tree.specs.Json.{Json}
use Rattle.variant_read.specs.Meaning.{means, json_in}
use Rattle.vs_bytes.specs.Outcome.{◌>>=◌}
use Rattle.vs_bytes.specs.declared.rule.Rule.{Rule}
use Rattle.shred_schema.specs.Fits.{tree_of}
use Rattle.shred_schema.specs.Groups.{Group, group, Kind, scalar, object_of, list_of, Groups, field, slot_width, kind_width, width}
use Rattle.shred_schema.specs.Ranges.{is_any_read}
use Rattle.shred_schema.specs.Recs.{Rec, rec, RecPart, cell, fields, items, Recs, no_recs, recs}
use Rattle.unshredder.specs.Merging.{with_cell, with_items, with_fields, without_fields, member, element}

-- the value, by the names of the row's metadata
abbrev pub value_seen : List (List ℕ) → ℕ → Bool → Option (List ℕ) → Result (Option Json) Rule
value_seen names above read None = Ok None
value_seen names above read (Some bytes) = if read then (json_in (means names bytes above) >>= λ j. Ok (Some j)) else Ok None

-- a part is read if it has no leaves, or some leaf of it is
abbrev pub is_part_read : (ℕ → Bool) → ℕ → ℕ → Bool
is_part_read mask k zero = true
is_part_read mask k (suc count) = is_any_read mask k (suc count)

-- that both parts of an element are missing tells something only where both are read
abbrev pub is_tested : (ℕ → Bool) → ℕ → Group → Bool
is_tested mask k (group s t) = is_part_read mask k (slot_width s) && is_part_read mask (k + slot_width s) (kind_width t)

-- each item, where `node` says what a record means
abbrev pub items_seen : Bool → (Rec → Result (Option Json) Rule) → Recs → Result (List Json) Rule
items_seen tested node no_recs = Ok []
items_seen tested node (recs x xs) =
    node x >>= λ found.
    element tested found >>= λ j.
    items_seen tested node xs >>= λ js.
    Ok (j ∷ js)

abbrev mutual
  pub seen : (ℕ → Bool) → List (List ℕ) → Group → ℕ → ℕ → Rec → Result (Option Json) Rule
  seen mask names (group s t) k above (rec v p) =
      value_seen names above (is_any_read mask k (slot_width s)) v >>= λ value.
      if is_any_read mask (k + slot_width s) (kind_width t) then typed_seen mask names t (k + slot_width s) above value p
      else Ok value

  -- the typed part, whose value is seen
  pub typed_seen : (ℕ → Bool) → List (List ℕ) → Kind → ℕ → ℕ → Option Json → RecPart → Result (Option Json) Rule
  typed_seen mask names (scalar q) k above value (cell c) = with_cell value (tree_of q c)
  typed_seen mask names (list_of n) k above value (items xs) =
      with_items value (items_seen (is_tested mask k n) (seen mask names n k (above + 1)) xs)
  typed_seen mask names (object_of gs) k above value (fields xs) =
      with_fields gs value (fields_seen mask names gs k (above + 1) xs)
  typed_seen mask names (object_of gs) k above value p = without_fields value
  typed_seen mask names t k above value p = Ok value

  -- the members that the fields give
  pub fields_seen : (ℕ → Bool) → List (List ℕ) → Groups → ℕ → ℕ → Recs → Result (List (List ℕ × Json)) Rule
  fields_seen mask names (field name n gs) k above (recs x xs) =
      seen mask names n k above x >>= λ found.
      fields_seen mask names gs (k + width n) above xs >>= λ members.
      Ok (member name found ++ members)
  fields_seen mask names gs k above xs = Ok []

-- members that were seen before, and then more of them
abbrev pub ahead : List (List ℕ × Json) → Result (List (List ℕ × Json)) Rule → Result (List (List ℕ × Json)) Rule
ahead found more = more >>= λ members. Ok (found ++ members)
