-- What an assembler answers, as the row of a group.
use Rattle.std.proofs.Common.{sym, subst, ℕ, Bool, List, Option, Result, Ok, Err}
use Rattle.std.specs.Option.{option_map}
use Rattle.json_tree.specs.Json.{Json}
use Rattle.json_tree.specs.View.{view}
use Rattle.json_tree.specs.declared.types.Tree.{Tree}
use Rattle.vs_bytes.specs.Outcome.{Makes}
use Rattle.vs_bytes.specs.declared.refused.Refused.{Refused}
use Rattle.vs_bytes.specs.declared.refused.Refused.TheVariants.{Fault, NoMemory}
use Rattle.vs_bytes.specs.declared.rule.Rule.{Rule}
use Rattle.shred_schema.specs.Groups.{Group}
use Rattle.shred_schema.specs.Ranges.{reads}
use Rattle.shred_schema.specs.Recs.{RowRec, absent, present}
use Rattle.shred_schema.specs.Shapes.{RowIsOf, RowHasShape}
use Rattle.shred_schema.proofs.ShapeFacts.{has_shape}
use Rattle.record_assembly.specs.Shown.{row_shown}
use Rattle.unshredder.specs.Rows.{row_seen}
use Rattle.row_assembler.specs.Assembly.{Assembly, GivesRow}
use Rattle.vs_bytes.specs.declared.leaf_columns.Entry.{Entry}
use Rattle.group_reading.specs.Filling.{Taken, TakesNone}
use Rattle.group_reading.specs.GroupRows.{next_seen}
use Rattle.group_reading.proofs.RowsAhead.{record_seen}
use Rattle.group_reading.proofs.ShownShapes.{shown_shape}

-- what a mask leaves of a row has the shape of the column
shown_row : (o : Bool) (n : Group) (mask : ℕ → Bool) (one : RowRec) → RowIsOf o n one → RowHasShape n (row_shown n mask one)
shown_row o n mask absent of = tt
shown_row o n mask (present meta x) of = shown_shape n 1 mask x (has_shape n x of)

pub row_shape : (o : Bool) (n : Group) (mask : List Bool) (a b : Assembly) (row : RowRec) → GivesRow a b o n mask row → RowHasShape n row
row_shape o n mask a b row gives =
    subst (RowHasShape n) gives.left_of.left (shown_row o n (reads mask) gives.left_of.one gives.left_of.of)

-- the row of a record is the next row
pub row_makes : (o : Bool) (n : Group) (mask : List Bool) (es : ℕ → List Entry) (b : Assembly) (later : List (List Entry)) (row : RowRec) (result : Result (Option Tree) (Refused Rule)) → Taken o n mask es b later row →
    Makes (option_map view) result (row_seen (reads mask) n row) → Makes (option_map view) result (next_seen (reads mask) o n es)
row_makes o n mask es b later row result taken made =
    subst (λ (defined : Result (Option Json) Rule). Makes (option_map view) result defined) (sym (record_seen (reads mask) o n es (Ok row) taken.found)) made

pub none_makes : (o : Bool) (n : Group) (mask : List Bool) (es : ℕ → List Entry) (refusal : Refused Rule) → TakesNone o n mask es refusal →
    Makes {A = Option Tree} {B = Option Json} (option_map view) (Err refusal) (next_seen (reads mask) o n es)
none_makes o n mask es (Fault broken) none = record_seen (reads mask) o n es (Err broken) none
none_makes o n mask es NoMemory none = tt
