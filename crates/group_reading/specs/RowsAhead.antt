-- The rows of a group that are still to come.
use Rattle.std.specs.Prelude.{◌≡◌, ℕ, ◌+◌, ◌^◌, ◌<◌, Bool, true, List, [], ◌∷◌, Option, Some, None, Result, Ok, Err}
use Rattle.std.specs.Option.{option_map}
use Rattle.json_tree.specs.Json.{Json}
use Rattle.json_tree.specs.View.{view}
use Rattle.json_tree.specs.declared.types.Tree.{Tree}
use Rattle.vs_bytes.specs.declared.refused.Refused.{Refused}
use Rattle.vs_bytes.specs.declared.refused.Refused.TheVariants.{Fault, NoMemory}
use Rattle.vs_bytes.specs.Outcome.{◌>>=◌}
use Rattle.shred_schema.specs.Groups.{Group, width}
use Rattle.shred_schema.specs.Ranges.{is_among, reads}
use Rattle.unshredder.specs.Readings.{IsReading}
use Rattle.group_reading.specs.ChunkEntries.{has_rows}
use Rattle.group_reading.specs.GroupRows.{rows_seen}
use Rattle.group_reading.specs.Filling.{joined, Held}
use Rattle.vs_bytes.specs.declared.rule.Rule.{Rule}
use Rattle.group_reading.specs.declared.group_faults.GroupFault.{GroupFault}
use Rattle.group_reading.specs.declared.group_faults.PlaceInGroup.TheVariants as place
use Rattle.group_reading.specs.declared.group_rows.GroupRows.{GroupRows}

-- the rows, or the first rule that they violate
unfoldable pub rows_ahead : (ℕ → Bool) → Bool → Group → GroupRows → Result (List (Option Json)) GroupFault
rows_ahead mask optional n g = rows_seen mask optional n g.left g.row (joined g.assembler g.leaves.items)

-- the rows are of this column, under this mask, and each leaf that is read has the entries of all of them
pub record StandsFor (optional : Bool) (n : Group) (mask : List Bool) (g : GroupRows) : Type 0 where
  pub held : Held optional n mask g.assembler g.leaves.items
  pub reading : IsReading (reads mask) n 1 g.reading
  pub rows : (j : ℕ) → is_among j 0 (1 + width n) ≡ true → reads mask j ≡ true → has_rows g.left (joined g.assembler g.leaves.items j) ≡ true
  pub counted : g.row + g.left < 2 ^ 64

-- rows with one more before them
abbrev pub with_row : Option Json → Result (List (Option Json)) GroupFault → Result (List (Option Json)) GroupFault
with_row row later = later >>= λ rows. Ok (row ∷ rows)

-- a rule that row k violates, or no memory
abbrev pub at_row : Refused Rule → ℕ → Refused GroupFault
at_row (Fault broken) k = Fault (record { rule = broken; place = place.Row k })
at_row NoMemory k = NoMemory

-- What comes next, by cases on the answer.

-- there is no row any more
pub record IsEnd (optional : Bool) (n : Group) (mask : List Bool) (old new : GroupRows) : Type 0 where
  pub none : rows_ahead (reads mask) optional n old ≡ Ok []
  pub same : new ≡ old

-- a row, and those after it
pub record GivesRow (optional : Bool) (n : Group) (mask : List Bool) (old new : GroupRows) (row : Option Json) : Type 0 where
  pub ahead : rows_ahead (reads mask) optional n old ≡ with_row row (rows_ahead (reads mask) optional n new)
  pub stands : StandsFor optional n mask new
  pub fewer : new.left + 1 ≡ old.left

-- the first rule that the rows violate. Out of memory says nothing
abbrev pub RefusesRow : Bool → Group → List Bool → GroupRows → Refused GroupFault → Type 0
RefusesRow optional n mask old (Fault broken) = rows_ahead (reads mask) optional n old ≡ Err broken
RefusesRow optional n mask old NoMemory = Unit {0}

abbrev pub NextRow : Bool → Group → List Bool → GroupRows → GroupRows → Result (Option (Option Tree)) (Refused GroupFault) → Type 0
NextRow optional n mask old new (Ok None) = IsEnd optional n mask old new
NextRow optional n mask old new (Ok (Some row)) = GivesRow optional n mask old new (option_map view row)
NextRow optional n mask old new (Err refusal) = RefusesRow optional n mask old refusal
