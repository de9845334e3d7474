-- Rows of a group that were taken, and those that are still to come.
use Rattle.std.proofs.Common.{◌≡◌, ◌∙◌, refl, sym, ap, ℕ, List, [], ◌∷◌, ◌++◌, map, Bool, Option, Result, Ok, Err, append_assoc, append-nil}
use Rattle.std.specs.Option.{option_map}
use Rattle.json_tree.specs.Json.{Json}
use Rattle.json_tree.specs.View.{view}
use Rattle.json_tree.specs.declared.types.Tree.{Tree}
use Rattle.vs_bytes.specs.Outcome.{◌>>=◌, Grows}
use Rattle.vs_bytes.specs.declared.refused.Refused.{Refused}
use Rattle.vs_bytes.specs.declared.refused.Refused.TheVariants.{Fault, NoMemory}
use Rattle.query_tree.specs.Asked.{Asked}
use Rattle.path_query.specs.Answer.{row_text, answer_of}
use Rattle.shred_schema.specs.Groups.{Group}
use Rattle.shred_schema.specs.Ranges.{reads}
use Rattle.group_reading.specs.RowsAhead.{rows_ahead, with_row, GivesRow, IsEnd, RefusesRow}
use Rattle.group_reading.specs.declared.group_faults.GroupFault.{GroupFault}
use Rattle.group_reading.specs.declared.group_rows.GroupRows.{GroupRows}
use Rattle.group_lines.specs.Lines.{lines_of, rows_left, trees_of, Prints, Spoils, AppendsRows}

-- rows that were taken, before those that are still to come
abbrev pub put_before : List (Option Json) → Result (List (Option Json)) GroupFault → Result (List (Option Json)) GroupFault
put_before done left = left >>= λ more. Ok (done ++ more)

pub none_done : (rows : Result (List (Option Json)) GroupFault) → rows ≡ put_before [] rows
none_done (Ok rows) = refl
none_done (Err fault) = refl

row_on : (done : List (Option Json)) (row : Option Json) (later : Result (List (Option Json)) GroupFault) → put_before done (with_row row later) ≡ put_before (done ++ row ∷ []) later
row_on done row (Ok more) = ap (λ (rows : List (Option Json)). Ok rows) (sym (append_assoc done (row ∷ []) more))
row_on done row (Err fault) = refl

pub one_done : (rows left later : Result (List (Option Json)) GroupFault) (done : List (Option Json)) (row : Option Json) → rows ≡ put_before done left → left ≡ with_row row later → rows ≡ put_before (done ++ row ∷ []) later
one_done rows left later done row ahead is = ahead ∙ (ap (put_before done) is ∙ row_on done row later)

pub all_done : (rows left : Result (List (Option Json)) GroupFault) (done : List (Option Json)) → rows ≡ put_before done left → left ≡ Ok [] → rows ≡ Ok done
all_done rows left done ahead is = ahead ∙ (ap (put_before done) is ∙ ap (λ (xs : List (Option Json)). Ok xs) (append-nil done))

pub none_more : (rows left : Result (List (Option Json)) GroupFault) (done : List (Option Json)) (fault : GroupFault) → rows ≡ put_before done left → left ≡ Err fault → rows ≡ Err fault
none_more rows left done fault ahead is = ahead ∙ ap (put_before done) is

-- Lines.

answer_more : (asked : Asked) (done : List (Option Json)) (row : Option Json) → answer_of asked (done ++ row ∷ []) ≡ answer_of asked done ++ row_text asked row
answer_more asked [] row = append-nil (row_text asked row)
answer_more asked (first ∷ done) row = ap (λ text. row_text asked first ++ text) (answer_more asked done row) ∙ sym (append_assoc (row_text asked first) (answer_of asked done) (row_text asked row))

-- the lines of the rows that were taken stand in the output
pub record Printed (asked : Asked) (rows left : Result (List (Option Json)) GroupFault) (old now : List ℕ) : Type 0 where
  pub done : List (Option Json)
  pub ahead : rows ≡ put_before done left
  pub printed : now ≡ old ++ answer_of asked done

pub printed_none : (asked : Asked) (rows : Result (List (Option Json)) GroupFault) (old : List ℕ) → Printed asked rows rows old old
printed_none asked rows old = record { done = []; ahead = none_done rows; printed = sym (append-nil old) }

pub printed_more : (asked : Asked) (rows left later : Result (List (Option Json)) GroupFault) (old now new : List ℕ) (row : Option Json) → Printed asked rows left old now → left ≡ with_row row later → new ≡ now ++ row_text asked row → Printed asked rows later old new
printed_more asked rows left later old now new row p is line = record {
  done = p.done ++ row ∷ [];
  ahead = one_done rows left later p.done row p.ahead is;
  printed = line ∙ (ap (λ text. text ++ row_text asked row) p.printed ∙ (append_assoc old (answer_of asked p.done) (row_text asked row) ∙ ap (λ text. old ++ text) (sym (answer_more asked p.done row))));
}

pub printed_all : (asked : Asked) (rows left : Result (List (Option Json)) GroupFault) (old now : List ℕ) → Printed asked rows left old now → left ≡ Ok [] → Prints asked rows old now
printed_all asked rows left old now p is = record {
  text = answer_of asked p.done;
  lines = ap (lines_of asked) (all_done rows left p.done p.ahead is);
  appended = p.printed;
}

pub printed_grown : (asked : Asked) (rows left : Result (List (Option Json)) GroupFault) (old now : List ℕ) → Printed asked rows left old now → Grows old now
printed_grown asked rows left old now p = (answer_of asked p.done, p.printed)

pub printed_refused : (asked : Asked) (optional : Bool) (n : Group) (mask : List Bool) (rows : Result (List (Option Json)) GroupFault) (g : GroupRows) (old now : List ℕ) (refusal : Refused GroupFault) → Printed asked rows (rows_left optional n mask g) old now → RefusesRow optional n mask g refusal → AppendsRows asked rows old now (Err refusal)
printed_refused asked optional n mask rows g old now (Fault fault) p refused = record {
  violated = none_more rows (rows_left optional n mask g) p.done fault p.ahead refused;
  grown = printed_grown asked rows (rows_left optional n mask g) old now p;
}
printed_refused asked optional n mask rows g old now NoMemory p refused = printed_grown asked rows (rows_left optional n mask g) old now p

-- Trees.

trees_push : (rows : List (Option Tree)) (row : Option Tree) → trees_of (rows ++ row ∷ []) ≡ trees_of rows ++ option_map view row ∷ []
trees_push [] row = refl
trees_push (first ∷ rows) row = ap (λ (later : List (Option Json)). option_map view first ∷ later) (trees_push rows row)

pub one_tree : (rows left later : Result (List (Option Json)) GroupFault) (now more : List (Option Tree)) (row : Option Tree) → rows ≡ put_before (trees_of now) left → left ≡ with_row (option_map view row) later → more ≡ now ++ row ∷ [] → rows ≡ put_before (trees_of more) later
one_tree rows left later now more row ahead is pushed =
    one_done rows left later (trees_of now) (option_map view row) ahead is
    ∙ ap (λ (done : List (Option Json)). put_before done later) (sym (ap trees_of pushed ∙ trees_push now row))
