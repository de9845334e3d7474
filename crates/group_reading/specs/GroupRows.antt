-- The rows of a row group, or the first rule that the group violates, with its place: first the rules of the chunks that
-- are read, leaf by leaf, then row by row those of the row.
use Rattle.std.specs.Prelude.{ℕ, zero, suc, ◌+◌, Bool, if◌then◌else◌, List, [], ◌∷◌, slice_index_or, Option, None, Some, Result, Ok, Err}
use Rattle.json_tree.specs.Json.{Json}
use Rattle.vs_bytes.specs.Outcome.{◌>>=◌}
use Rattle.vs_bytes.specs.declared.leaf_columns.Entry.{Entry}
use Rattle.vs_bytes.specs.declared.rule.Rule.{Rule}
use Rattle.vs_bytes.specs.declared.rule.Rule.TheVariants as rule
use Rattle.shred_schema.specs.Groups.{Group, width}
use Rattle.shred_schema.specs.Recs.{RowRec}
use Rattle.record_assembly.specs.Cuts.{first_item, later_items}
use Rattle.record_assembly.specs.Reading.{row_read}
use Rattle.unshredder.specs.Rows.{row_seen}
use Rattle.group_reading.specs.declared.group_faults.GroupFault.{GroupFault}
use Rattle.group_reading.specs.declared.group_faults.PlaceInGroup.{PlaceInGroup}
use Rattle.group_reading.specs.declared.group_faults.PlaceInGroup.TheVariants as place

-- a rule that is violated at a place
abbrev pub at_place : {A : Type 0} → PlaceInGroup → Result A Rule → Result A GroupFault
at_place p (Ok a) = Ok a
at_place p (Err broken) = Err (record { rule = broken; place = p })

-- One row: its record by its entries, and what the record means.

-- no row record has the entries
abbrev pub or_mismatch : Option RowRec → Result RowRec Rule
or_mismatch None = Err rule.LevelMismatch
or_mismatch (Some row) = Ok row

-- the row record at the front of all leaves' entries, where a mask says which leaves are read
abbrev pub next_record : (ℕ → Bool) → Bool → Group → (ℕ → List Entry) → Result RowRec Rule
next_record mask optional n es = or_mismatch (row_read optional n mask 0 (λ j. first_item 0 (es j)))

-- the row there
unfoldable pub next_seen : (ℕ → Bool) → Bool → Group → (ℕ → List Entry) → Result (Option Json) Rule
next_seen mask optional n es = next_record mask optional n es >>= row_seen mask n

-- `count` rows, of which the first is row k
unfoldable pub rows_seen : (ℕ → Bool) → Bool → Group → ℕ → ℕ → (ℕ → List Entry) → Result (List (Option Json)) GroupFault
rows_seen mask optional n zero k es = Ok []
rows_seen mask optional n (suc count) k es =
    at_place (place.Row k) (next_seen mask optional n es) >>= λ row.
    rows_seen mask optional n count (k + 1) (λ j. later_items 0 (es j)) >>= λ rows.
    Ok (row ∷ rows)

-- The chunks, where `chunk` gives the entries of each leaf's, or its first rule. Of a leaf that isn't read nothing is
-- asked.

-- the entries of leaf j
abbrev pub leaf_seen : (ℕ → Bool) → (ℕ → Result (List Entry) Rule) → ℕ → Result (List Entry) GroupFault
leaf_seen mask chunk j = if mask j then at_place (place.Leaf j) (chunk j) else Ok []

-- of `count` leaves from leaf j on
unfoldable pub leaves_seen : (ℕ → Bool) → (ℕ → Result (List Entry) Rule) → ℕ → ℕ → Result (List (List Entry)) GroupFault
leaves_seen mask chunk j zero = Ok []
leaves_seen mask chunk j (suc count) =
    leaf_seen mask chunk j >>= λ entries.
    leaves_seen mask chunk (j + 1) count >>= λ later.
    Ok (entries ∷ later)

-- the rows of a group of `count` rows
unfoldable pub group_seen : (ℕ → Bool) → Bool → Group → ℕ → (ℕ → Result (List Entry) Rule) → Result (List (Option Json)) GroupFault
group_seen mask optional n count chunk =
    leaves_seen mask chunk 0 (1 + width n) >>= λ leaves.
    rows_seen mask optional n count 0 (λ j. slice_index_or leaves j [])
