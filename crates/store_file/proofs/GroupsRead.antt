-- One group of a file.
use Rattle.std.proofs.Common.{◌≡◌, ◌∙◌, refl, sym, ap, subst, ℕ, ◌+◌, Bool, List, [], ◌∷◌, ◌++◌, length, Option, Some, Result, Ok, Err, arith}
use Rattle.std.proofs.lemmas.List.{length_push}
use Rattle.std.specs.Global.{Vec}
use Rattle.std.specs.List.{slice_get}
use Rattle.vs_bytes.specs.declared.refused.Refused.{Refused}
use Rattle.vs_bytes.specs.declared.refused.Refused.TheVariants.{Fault, NoMemory}
use Rattle.shred_schema.specs.Groups.{Group}
use Rattle.group_reading.specs.RowsAhead.{with_row, RefusesRow}
use Rattle.group_lines.proofs.RowsDone.{put_before, none_done, one_done, all_done, none_more}
use Rattle.json_tree.specs.Json.{Json}
use Rattle.json_tree.specs.declared.types.Tree.{Tree}
use Rattle.vs_bytes.specs.Outcome.{Makes}
use Rattle.query_tree.specs.Asked.{Asked}
use Rattle.shelf.specs.Storage.{Storage}
use Rattle.footer_structs.specs.declared.row_groups.GroupMeta.{GroupMeta}
use Rattle.group_reading.specs.declared.group_faults.GroupFault.{GroupFault}
use Rattle.group_reading.specs.declared.group_rows.GroupRows.{GroupRows}
use Rattle.store_read.specs.GroupRead.{rows_left, Begins, ReadsGroup}
use Rattle.store_read.specs.Ranges.{Gives, ReadsFile}
use Rattle.store_read.specs.declared.read_stop.ReadStop.{ReadStop}
use Rattle.store_read.specs.declared.read_stop.ReadStop.TheVariants as stop
use Rattle.store_read.proofs.Reading.{asks_all}
use Rattle.group_lines.specs.Lines.{lines_of, trees_of, rows_left as lines_left, Prints, PrintsRows}
use Rattle.store_file.specs.Masks.{needed}
use Rattle.store_file.specs.Places.{in_group, stop_in, refusal_in, fault_of}
use Rattle.store_file.specs.FileCalls.{groups_in, rows_of, group_rows, group_lines, chunks_in, ReadsRows}
use Rattle.store_file.specs.GroupCalls.{OpensGroup, HasRows, CountsRows, CountsGroup}
use Rattle.store_file.specs.declared.file_faults.Violation.{Violation}
use Rattle.store_file.specs.declared.file_faults.QueryFault.{QueryFault}
use Rattle.store_file.specs.declared.store_file.StoreFile.{StoreFile}

pub group_stopped : (f : StoreFile) (mask : List Bool) (before after : Storage) (k : ℕ) (g : GroupMeta) (why : ReadStop GroupFault) (result : ReadStop Violation) → ReadsGroup before after f.name mask f.opened.end f.column g (Err why) → result ≡ stop_in k why → OpensGroup f mask before after k g (Err result)
group_stopped f mask before after k g why result reads is = subst (λ (r : ReadStop Violation). OpensGroup f mask before after k g (Err r)) (sym is) (by why reads)
  where
    by : (s : ReadStop GroupFault) → ReadsGroup before after f.name mask f.opened.end f.column g (Err s) → OpensGroup f mask before after k g (Err (stop_in k s))
    by (stop.Violated fault) r = record { of_file = λ file known. ap (in_group k) (r.of_file file known); asks = r.asks }
    by stop.Failed r = r
    by stop.NoMemory r = r

-- Its rows.

pub trees_given : (f : StoreFile) (before after : Storage) (k : ℕ) (g : GroupMeta) (rows : GroupRows) (trees : List (Option Tree)) →
    Begins before after f.name f.mask f.opened.end f.column g rows → rows_left f.mask f.column rows ≡ Ok (trees_of trees) →
    Gives before after f.name (chunks_in f f.mask g) (λ file. group_rows f f.mask file k g ≡ Ok (trees_of trees))
trees_given f before after k g rows trees begins is = record {
  of_file = λ file known. ap (in_group k) (begins.of_file file known ∙ is);
  asks = begins.asks;
}

pub trees_refused : (f : StoreFile) (before after : Storage) (k : ℕ) (g : GroupMeta) (rows : GroupRows) (refusal : Refused GroupFault) (result : ReadStop Violation) →
    Begins before after f.name f.mask f.opened.end f.column g rows → Makes {A = List (Option Tree)} trees_of (Err refusal) (rows_left f.mask f.column rows) → result ≡ refusal_in k refusal →
    ReadsFile {A = List (Option Tree)} {B = List (Option Json)} trees_of before after f.name (chunks_in f f.mask g) (λ file. group_rows f f.mask file k g) (Err result)
trees_refused f before after k g rows refusal result begins makes is =
    subst (λ (r : ReadStop Violation). ReadsFile {A = List (Option Tree)} {B = List (Option Json)} trees_of before after f.name (chunks_in f f.mask g) (λ file. group_rows f f.mask file k g) (Err r)) (sym is) (by refusal makes)
  where
    by : (r : Refused GroupFault) → Makes {A = List (Option Tree)} trees_of (Err r) (rows_left f.mask f.column rows) → ReadsFile {A = List (Option Tree)} {B = List (Option Json)} trees_of before after f.name (chunks_in f f.mask g) (λ file. group_rows f f.mask file k g) (Err (refusal_in k r))
    by (Fault fault) violated = record { of_file = λ file known. ap (in_group k) (begins.of_file file known ∙ violated); asks = asks_all before after (chunks_in f f.mask g) begins.asks }
    by NoMemory none = asks_all before after (chunks_in f f.mask g) begins.asks

pub trees_stopped : (f : StoreFile) (before after : Storage) (k : ℕ) (g : GroupMeta) (why : ReadStop Violation) → OpensGroup f f.mask before after k g (Err why) →
    ReadsFile {A = List (Option Tree)} {B = List (Option Json)} trees_of before after f.name (chunks_in f f.mask g) (λ file. group_rows f f.mask file k g) (Err why)
trees_stopped f before after k g (stop.Violated violation) stops = stops
trees_stopped f before after k g stop.Failed stops = stops
trees_stopped f before after k g stop.NoMemory stops = stops

pub rows_read : (f : StoreFile) (before after : Storage) (k : ℕ) (g : GroupMeta) (trees : List (Option Tree)) → slice_get (groups_in f) k ≡ Some g →
    Gives before after f.name (chunks_in f f.mask g) (λ file. group_rows f f.mask file k g ≡ Ok (trees_of trees)) → ReadsRows f before after k (Ok trees)
rows_read f before after k g trees at given = record { group = g; at = at; asks = given.asks; gives = given.of_file }

pub rows_stopped : (f : StoreFile) (before after : Storage) (k : ℕ) (g : GroupMeta) (why : ReadStop Violation) (result : QueryFault) → slice_get (groups_in f) k ≡ Some g →
    ReadsFile {A = List (Option Tree)} {B = List (Option Json)} trees_of before after f.name (chunks_in f f.mask g) (λ file. group_rows f f.mask file k g) (Err why) → result ≡ fault_of why → ReadsRows f before after k (Err result)
rows_stopped f before after k g why result at stops is = subst (λ (r : QueryFault). ReadsRows f before after k (Err r)) (sym is) (by why stops)
  where
    by : (s : ReadStop Violation) → ReadsFile {A = List (Option Tree)} {B = List (Option Json)} trees_of before after f.name (chunks_in f f.mask g) (λ file. group_rows f f.mask file k g) (Err s) → ReadsRows f before after k (Err (fault_of s))
    by (stop.Violated violation) r = record { group = g; at = at; asks = r.asks; gives = r.of_file }
    by stop.Failed r = record { group = g; at = at; asks = r; gives = λ file known. tt }
    by stop.NoMemory r = record { group = g; at = at; asks = r; gives = λ file known. tt }

-- The lines of its rows.

-- the lines of a group under a mask, and what reading them leaves
abbrev lines_under : StoreFile → Asked → List Bool → ℕ → GroupMeta → List ℕ → Result (List ℕ) Violation
lines_under f asked mask k g file = in_group k (lines_of asked (rows_of f mask file g))

abbrev ReadsLines : StoreFile → Asked → List Bool → Storage → Storage → ℕ → GroupMeta → Result (Vec ℕ) (ReadStop Violation) → Type 0
ReadsLines f asked mask before after k g result = ReadsFile {A = Vec ℕ} {B = List ℕ} (λ lines. lines.items) before after f.name (chunks_in f mask g) (lines_under f asked mask k g) result

pub lines_given : (f : StoreFile) (asked : Asked) (mask : List Bool) (before after : Storage) (k : ℕ) (g : GroupMeta) (rows : GroupRows) (old new : List ℕ) → mask ≡ needed f asked →
    Begins before after f.name mask f.opened.end f.column g rows → old ≡ [] → Prints asked (rows_left mask f.column rows) old new →
    Gives before after f.name (chunks_in f (needed f asked) g) (λ file. group_lines f asked file k g ≡ Ok new)
lines_given f asked mask before after k g rows old new is begins none prints = subst (λ (m : List Bool). Gives before after f.name (chunks_in f m g) (λ file. lines_under f asked m k g file ≡ Ok new)) is (record {
  of_file = λ file known.
      ap (λ (r : Result (List (Option Json)) GroupFault). in_group k (lines_of asked r)) (begins.of_file file known)
      ∙ (ap (in_group k) prints.lines ∙ ap (λ (s : List ℕ). Ok s) (sym (prints.appended ∙ ap (λ (s : List ℕ). s ++ prints.text) none)));
  asks = begins.asks;
})

pub lines_refused : (f : StoreFile) (asked : Asked) (mask : List Bool) (before after : Storage) (k : ℕ) (g : GroupMeta) (rows : GroupRows) (old new : List ℕ) (refusal : Refused GroupFault) (result : ReadStop Violation) → mask ≡ needed f asked →
    Begins before after f.name mask f.opened.end f.column g rows → PrintsRows asked (rows_left mask f.column rows) old new (Err refusal) → result ≡ refusal_in k refusal → ReadsLines f asked (needed f asked) before after k g (Err result)
lines_refused f asked mask before after k g rows old new refusal result is begins prints e =
    subst (λ (m : List Bool). ReadsLines f asked m before after k g (Err result)) is (subst (λ (r : ReadStop Violation). ReadsLines f asked mask before after k g (Err r)) (sym e) (by refusal prints))
  where
    by : (r : Refused GroupFault) → PrintsRows asked (rows_left mask f.column rows) old new (Err r) → ReadsLines f asked mask before after k g (Err (refusal_in k r))
    by (Fault fault) p = record {
      of_file = λ file known. ap (λ (r : Result (List (Option Json)) GroupFault). in_group k (lines_of asked r)) (begins.of_file file known ∙ p.violated);
      asks = asks_all before after (chunks_in f mask g) begins.asks;
    }
    by NoMemory p = asks_all before after (chunks_in f mask g) begins.asks

never : (r : Result (List (Option Json)) Violation) (rows : List (Option Json)) (v : Violation) (s : Result (List ℕ) Violation) → r ≡ Ok rows → r ≡ Err v → s ≡ Err v
never r rows v s e f = let a : r ≡ Ok rows = e in let b : r ≡ Err v = f in cc

-- the same violation, of a result of lines
abbrev passed : Result (List (Option Json)) Violation → Result (List ℕ) Violation
passed (Ok rows) = Ok []
passed (Err violation) = Err violation

-- what rows violate, their lines violate
lines_violate : (asked : Asked) (k : ℕ) (found : Result (List (Option Json)) GroupFault) (violation : Violation) → in_group k found ≡ Err violation → in_group k (lines_of asked found) ≡ Err violation
lines_violate asked k (Ok rows) violation wrong = never (in_group k (Ok rows)) rows violation (in_group k (lines_of asked (Ok rows))) refl wrong
lines_violate asked k (Err fault) violation is = ap passed is

pub lines_stopped : (f : StoreFile) (asked : Asked) (mask : List Bool) (before after : Storage) (k : ℕ) (g : GroupMeta) (why : ReadStop Violation) → mask ≡ needed f asked →
    OpensGroup f mask before after k g (Err why) → ReadsLines f asked (needed f asked) before after k g (Err why)
lines_stopped f asked mask before after k g why is stops = subst (λ (m : List Bool). ReadsLines f asked m before after k g (Err why)) is (by why stops)
  where
    by : (s : ReadStop Violation) → OpensGroup f mask before after k g (Err s) → ReadsLines f asked mask before after k g (Err s)
    by (stop.Violated violation) o = record {
      of_file = λ file known. lines_violate asked k (rows_of f mask file g) violation (o.of_file file known);
      asks = o.asks;
    }
    by stop.Failed o = o
    by stop.NoMemory o = o

-- The number of its rows.

-- rows that were counted, before those that are still to come
pub record Counted (found left : Result (List (Option Json)) GroupFault) (count : ℕ) : Type 0 where
  pub done : List (Option Json)
  pub ahead : found ≡ put_before done left
  pub counted : count ≡ length done

pub counted_none : (found : Result (List (Option Json)) GroupFault) → Counted found found 0
counted_none found = record { done = []; ahead = none_done found; counted = refl }

pub counted_more : (found left later : Result (List (Option Json)) GroupFault) (count : ℕ) (row : Option Json) → Counted found left count → left ≡ with_row row later → Counted found later (count + 1)
counted_more found left later count row c is = record {
  done = c.done ++ row ∷ [];
  ahead = one_done found left later c.done row c.ahead is;
  counted = omega (arith, c.counted, length_push c.done row);
}

pub counted_all : (found left : Result (List (Option Json)) GroupFault) (count : ℕ) → Counted found left count → left ≡ Ok [] → HasRows found count
counted_all found left count c none = record { rows = c.done; valid = all_done found left c.done c.ahead none; counted = c.counted }

pub counted_refused : (optional : Bool) (n : Group) (mask : List Bool) (found : Result (List (Option Json)) GroupFault) (g : GroupRows) (count : ℕ) (refusal : Refused GroupFault) → Counted found (lines_left optional n mask g) count → RefusesRow optional n mask g refusal → CountsRows found (Err refusal)
counted_refused optional n mask found g count (Fault fault) c refused = none_more found (lines_left optional n mask g) c.done fault c.ahead refused
counted_refused optional n mask found g count NoMemory c refused = tt

pub rows_counted : (f : StoreFile) (before after : Storage) (k : ℕ) (g : GroupMeta) (rows : GroupRows) (count : ℕ) →
    Begins before after f.name f.mask f.opened.end f.column g rows → HasRows (rows_left f.mask f.column rows) count →
    Gives before after f.name (chunks_in f f.mask g) (λ file. HasRows (group_rows f f.mask file k g) count)
rows_counted f before after k g rows count begins has = record {
  of_file = λ file known. record { rows = has.rows; valid = ap (in_group k) (begins.of_file file known ∙ has.valid); counted = has.counted };
  asks = begins.asks;
}

pub count_refused : (f : StoreFile) (before after : Storage) (k : ℕ) (g : GroupMeta) (rows : GroupRows) (refusal : Refused GroupFault) (result : ReadStop Violation) →
    Begins before after f.name f.mask f.opened.end f.column g rows → CountsRows (rows_left f.mask f.column rows) (Err refusal) → result ≡ refusal_in k refusal → CountsGroup f before after k g (Err result)
count_refused f before after k g rows refusal result begins counts is = subst (λ (r : ReadStop Violation). CountsGroup f before after k g (Err r)) (sym is) (by refusal counts)
  where
    by : (r : Refused GroupFault) → CountsRows (rows_left f.mask f.column rows) (Err r) → CountsGroup f before after k g (Err (refusal_in k r))
    by (Fault fault) violated = record { of_file = λ file known. ap (in_group k) (begins.of_file file known ∙ violated); asks = asks_all before after (chunks_in f f.mask g) begins.asks }
    by NoMemory none = asks_all before after (chunks_in f f.mask g) begins.asks

pub count_stopped : (f : StoreFile) (before after : Storage) (k : ℕ) (g : GroupMeta) (why : ReadStop Violation) → OpensGroup f f.mask before after k g (Err why) → CountsGroup f before after k g (Err why)
count_stopped f before after k g (stop.Violated violation) stops = stops
count_stopped f before after k g stop.Failed stops = stops
count_stopped f before after k g stop.NoMemory stops = stops
