-- The rows of a group that are still to come, after one of them was taken.
use Rattle.std.proofs.Common.{◌≡◌, ◌∙◌, sym, ap, subst, ℕ, suc, ◌+◌, Bool, true, false, List, [], Option, Ok, Err, arith}
use Rattle.std.proofs.Math.Numerals.{suc-eq-add-one}
use Rattle.std.proofs.lemmas.List.{with_items_is}
use Rattle.std.specs.Vec.{with_items}
use Rattle.std.specs.declared.vec.Vec.{Vec}
use Rattle.vs_bytes.specs.declared.leaf_columns.Entry.{Entry}
use Rattle.row_assembler.specs.Assembly.{Assembly}
use Rattle.std.specs.Option.{option_map}
use Rattle.json_tree.specs.Json.{Json}
use Rattle.json_tree.specs.View.{view}
use Rattle.json_tree.specs.declared.types.Tree.{Tree}
use Rattle.vs_bytes.specs.Outcome.{Makes}
use Rattle.vs_bytes.specs.declared.refused.Refused.{Refused}
use Rattle.vs_bytes.specs.declared.refused.Refused.TheVariants.{Fault, NoMemory}
use Rattle.group_reading.specs.declared.group_faults.GroupFault.{GroupFault}
use Rattle.vs_bytes.specs.declared.rule.Rule.{Rule}
use Rattle.shred_schema.specs.Groups.{Group, width}
use Rattle.shred_schema.specs.Ranges.{is_among, reads}
use Rattle.record_assembly.specs.Cuts.{later_items, is_nil}
use Rattle.group_reading.specs.Filling.{joined, Held}
use Rattle.group_reading.specs.ChunkEntries.{has_rows}
use Rattle.unshredder.specs.Readings.{IsReading}
use Rattle.unshredder.specs.declared.readings.Reading.{Reading}
use Rattle.group_reading.specs.GroupRows.{next_seen, rows_seen}
use Rattle.group_reading.specs.RowsAhead.{rows_ahead, StandsFor, with_row, at_row, GivesRow, RefusesRow}
use Rattle.group_reading.specs.declared.group_faults.PlaceInGroup.TheVariants as place
use Rattle.group_reading.specs.declared.group_rows.GroupRows.{GroupRows}
use Rattle.group_reading.proofs.RowStarts.{some_row, later_rows}
use Rattle.group_reading.proofs.RowsAhead.{rows_end, row_more, row_refused}

-- where rows are still to come, each leaf that is read has entries
pub stands_some : (o : Bool) (n : Group) (mask : List Bool) (g : GroupRows) (later : ℕ) → StandsFor o n mask g → g.left ≡ suc later → (j : ℕ) → is_among j 0 (1 + width n) ≡ true → reads mask j ≡ true → is_nil (joined g.assembler g.leaves.items j) ≡ false
stands_some o n mask g later stands more j a y = some_row later (joined g.assembler g.leaves.items j) (subst (λ count. has_rows count (joined g.assembler g.leaves.items j) ≡ true) more (stands.rows j a y))

-- each leaf that is read goes on after the entries of a row
abbrev After : Group → List Bool → GroupRows → GroupRows → Type 0
After n mask g h = (j : ℕ) → is_among j 0 (1 + width n) ≡ true → reads mask j ≡ true → joined h.assembler h.leaves.items j ≡ later_items 0 (joined g.assembler g.leaves.items j)

stands_next : (o : Bool) (n : Group) (mask : List Bool) (g h : GroupRows) → StandsFor o n mask g → h.reading ≡ g.reading → Held o n mask h.assembler h.leaves.items → After n mask g h → g.left ≡ suc h.left → h.row ≡ g.row + 1 → StandsFor o n mask h
stands_next o n mask g h stands same held after fewer next = record {
  held = held;
  reading = subst (λ (r : Reading). IsReading (reads mask) n 1 r) (sym same) stands.reading;
  rows = λ j a y. ap (has_rows h.left) (after j a y) ∙ later_rows h.left (joined g.assembler g.leaves.items j) (subst (λ count. has_rows count (joined g.assembler g.leaves.items j) ≡ true) fewer (stands.rows j a y));
  counted = omega (arith, stands.counted, fewer, next);
}

ahead_next : (o : Bool) (n : Group) (mask : List Bool) (g h : GroupRows) (row : Option Json) → StandsFor o n mask g → After n mask g h → g.left ≡ suc h.left → h.row ≡ g.row + 1 → next_seen (reads mask) o n (joined g.assembler g.leaves.items) ≡ Ok row →
    rows_ahead (reads mask) o n g ≡ with_row row (rows_ahead (reads mask) o n h)
unfolding rows_ahead
ahead_next o n mask g h row stands after fewer next seen =
    ap (λ count. rows_seen (reads mask) o n count g.row (joined g.assembler g.leaves.items)) fewer
    ∙ (row_more (reads mask) o n h.left g.row (joined g.assembler g.leaves.items) (joined h.assembler h.leaves.items) row stands.held.column.some after seen
    ∙ ap (λ k. with_row row (rows_seen (reads mask) o n h.left k (joined h.assembler h.leaves.items))) (sym next))

-- chunks that stand in a vector again
pub held_with : {Z : Type 0} (o : Bool) (n : Group) (mask : List Bool) (a b : Assembly) (v : Vec (List Entry) Z) (later : List (List Entry)) → Held o n mask a v.items → Held o n mask b later → (with_items v later).items ≡ later
held_with o n mask a b v later before after = with_items_is v later (after.count ∙ (sym before.count ∙ sym v.ok.0))

pub gives_row : (o : Bool) (n : Group) (mask : List Bool) (g h : GroupRows) (row : Option Json) → StandsFor o n mask g → h.reading ≡ g.reading → Held o n mask h.assembler h.leaves.items → After n mask g h → h.left + 1 ≡ g.left → h.row ≡ g.row + 1 → next_seen (reads mask) o n (joined g.assembler g.leaves.items) ≡ Ok row → GivesRow o n mask g h row
gives_row o n mask g h row stands same held after fewer next seen =
    let one = sym fewer ∙ sym (suc-eq-add-one h.left) in
    record {
      ahead = ahead_next o n mask g h row stands after one next seen;
      stands = stands_next o n mask g h stands same held after one next;
      fewer = fewer;
    }

pub ahead_refused : (o : Bool) (n : Group) (mask : List Bool) (g : GroupRows) (later : ℕ) (broken : Rule) → g.left ≡ suc later → next_seen (reads mask) o n (joined g.assembler g.leaves.items) ≡ Err broken →
    rows_ahead (reads mask) o n g ≡ Err (record { rule = broken; place = place.Row g.row })
unfolding rows_ahead
ahead_refused o n mask g later broken more seen =
    ap (λ count. rows_seen (reads mask) o n count g.row (joined g.assembler g.leaves.items)) more
    ∙ row_refused (reads mask) o n later g.row (joined g.assembler g.leaves.items) broken seen

pub ahead_end : (o : Bool) (n : Group) (mask : List Bool) (g : GroupRows) → g.left ≡ 0 → rows_ahead (reads mask) o n g ≡ Ok []
unfolding rows_ahead
ahead_end o n mask g none = ap (λ count. rows_seen (reads mask) o n count g.row (joined g.assembler g.leaves.items)) none ∙ rows_end (reads mask) o n g.row (joined g.assembler g.leaves.items)

pub next_refused : (o : Bool) (n : Group) (mask : List Bool) (g : GroupRows) (later : ℕ) (refusal : Refused Rule) (found : Refused GroupFault) → g.left ≡ suc later → found ≡ at_row refusal g.row →
    Makes {A = Option Tree} {B = Option Json} (option_map view) (Err refusal) (next_seen (reads mask) o n (joined g.assembler g.leaves.items)) → RefusesRow o n mask g found
next_refused o n mask g later refusal found more is made = subst (λ (x : Refused GroupFault). RefusesRow o n mask g x) (sym is) (by refusal made)
  where
    by : (x : Refused Rule) → Makes {A = Option Tree} {B = Option Json} (option_map view) (Err x) (next_seen (reads mask) o n (joined g.assembler g.leaves.items)) → RefusesRow o n mask g (at_row x g.row)
    by (Fault broken) seen = ahead_refused o n mask g later broken more seen
    by NoMemory seen = tt
