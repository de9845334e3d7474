-- What the calls of a writer leave follows from their contracts.
use Rattle.std.proofs.Common.{◌≡◌, ◌∙◌, ℕ, ◌≤◌, ◌<◌, List, [], ◌∷◌, ◌++◌, length, take, Bool, true, false, Option, None, Some, Result, Ok, Err, inl, inr, sym, ap, subst, refl, arith, append-nil, unwrap_or}
use Rattle.std.specs.Prelude.{MatchBool, IfSome, IfOk}
use Rattle.std.specs.List.{concat}
use Rattle.std.specs.FinMap.{insert}
use Rattle.json_tree.specs.Json.{Json}
use Rattle.shred_schema.specs.Groups.{Group}
use Rattle.shred_schema.specs.Views.{group_of}
use Rattle.shred_schema.specs.declared.nodes.Column.{Column}
use Rattle.open_group.specs.declared.settings.Settings.{Settings}
use Rattle.open_group.specs.OpenGroups.{records_in}
use Rattle.footer_structs.specs.FileEnds.{magic, footer_limit}
use Rattle.closed_groups.specs.ClosedGroups.{footer_size}
use Rattle.shelf.specs.Storage.{Files, Storage, Has, with_file, appended, FailsWrite}
use Rattle.shelf.specs.Calls.{Creates, Adds}
use Rattle.shelf.specs.declared.shelf.ShelfError.TheVariants as shelf
use Rattle.shelf.proofs.Appending.{appended_none, get_inserted, insert_again}
use Rattle.store_write.specs.Frames as frame
use Rattle.store_write.specs.Refusals.{told_of, refused_in}
use Rattle.store_write.specs.Writers.{Stands, IsFor, KeepsForm, name_of, broken_by, Starts, error_of, AddsRow, EndsFile, IsClosed, IsKept, Closes, Pushes, Finishes, chunks_with, closed_with, records_with, is_full_with, end_bytes}
use Rattle.store_write.specs.Steps.{AreClosed, Keeps, BeginsPart, NotBegun, TakesRow, Gains, CutsRow, CutsEnd, Starting, Pushing, Ending, format_in}
use Rattle.store_write.specs.declared.file_writer.FileWriter.{FileWriter}
use Rattle.store_write.specs.declared.write_error.First.{First}
use Rattle.store_write.specs.declared.write_error.First.TheVariants as first
use Rattle.store_write.specs.declared.write_error.WriteError.{WriteError}
use Rattle.store_write.specs.declared.write_error.WriteError.TheVariants as error
use Rattle.store_write.proofs.Standing.{stands_kept, stands_closed, stands_on, closed_pushed, long_pushed}
use Rattle.store_write.proofs.Ending.{made_is, made_long}

-- bytes added to a file that was just put there
pub with_more : (files : Option Files) (name bytes more : List ℕ) → appended (with_file files name bytes) name more ≡ with_file files name (bytes ++ more)
with_more None name bytes more = refl
with_more (Some m) name bytes more =
    ap Some (ap (λ (o : Option (List ℕ)). insert (insert m name bytes) name (unwrap_or o [] ++ more)) (get_inserted m name bytes) ∙ insert_again m name bytes (bytes ++ more))

-- ---- a file that begins

none_begun : (before after : Storage) (name : List ℕ) → after.files ≡ before.files → after.touched ≡ before.touched → BeginsPart before after name
none_begun before after name files touched = record { files = inl files; touched = touched }

part_begun : (before made after : Storage) (name : List ℕ) (k : ℕ) → Creates before made name (Ok tt) → k ≤ length magic → after.files ≡ appended made.files name (take k magic) → after.touched ≡ made.touched
    → BeginsPart before after name
part_begun before made after name k creates within files touched = record {
  files = inr (creates.0, k, within, files ∙ ap (λ (s : Storage). appended s.files name (take k magic)) creates.1 ∙ with_more before.files name [] (take k magic));
  touched = touched ∙ ap (λ (s : Storage). s.touched) creates.1;
}

not_begun : (before after : Storage) (name : List ℕ) (e : WriteError) → Starts before after name (Some e) → NotBegun before after name e
not_begun before after name error.Taken h = h
not_begun before after name error.Failed h = elim h [
  | inl c ↦ (none_begun before after name (ap (λ (s : Storage). s.files) c.1) (ap (λ (s : Storage). s.touched) c.1), c.0)
  | inr p ↦ (
    part_begun before p.0 after name p.2.0 p.1 p.2.1 (ap (λ (s : Storage). s.files) p.2.3) (ap (λ (s : Storage). s.touched) p.2.3),
    subst (λ c. FailsWrite c after.counts) (ap (λ (s : Storage). s.counts) p.1.1) p.2.2,
  )
]
not_begun before after name (error.FooterFull len) h = h
not_begun before after name error.NoMemory h = elim h [
  | inl same ↦ (none_begun before after name (ap (λ (s : Storage). s.files) same) (ap (λ (s : Storage). s.touched) same), ap (λ (s : Storage). s.counts) same)
  | inr p ↦ (
    part_begun before p.0 after name p.2.0 p.1 p.2.1 (ap (λ (s : Storage). s.files) p.2.2) (ap (λ (s : Storage). s.touched) p.2.2),
    ap (λ (s : Storage). s.counts) p.2.2 ∙ ap (λ (s : Storage). s.counts) p.1.1,
  )
]
not_begun before after name (error.Broken e) h = h

pub starting : (before after : Storage) (name : List ℕ) (n : Group) (settings : Settings) (r : Result FileWriter WriteError) → Starts before after name (error_of r) → IfOk r (λ w. IsFor w name n settings)
    → IfOk r (λ w. Stands w magic []) → Starting before after name n settings r
starting before after name n settings (Ok w) starts form stands = record { fresh = starts.0; grown = starts.1; stands = stands; is_for = form }
starting before after name n settings (Err e) starts form stands = not_begun before after name e starts

-- ---- a row

keeps : (w v : FileWriter) → KeepsForm w v → Keeps w v
keeps w v k = record { name = k.name; node = ap (λ (c : Column). group_of c.node) k.column.column; settings = k.column.settings }

-- nothing was added
gains_none : (before after : Storage) (name : List ℕ) → Has before.files name → after ≡ before → Gains before after name []
gains_none before after name has same =
    record { count = 0; within = omega arith; files = ap (λ (s : Storage). s.files) same ∙ sym (appended_none before.files name has); touched = ap (λ (s : Storage). s.touched) same }

gains_failed : (before after : Storage) (name more : List ℕ) → Adds before after name more (Err shelf.Failed) → Gains before after name more
gains_failed before after name more a = record { count = a.0; within = a.1; files = ap (λ (s : Storage). s.files) a.3; touched = ap (λ (s : Storage). s.touched) a.3 }

gains_stopped : (before after : Storage) (name more : List ℕ) → Adds before after name more (Err shelf.NoMemory) → Gains before after name more
gains_stopped before after name more a = record { count = a.0; within = a.1; files = ap (λ (s : Storage). s.files) a.2; touched = ap (λ (s : Storage). s.touched) a.2 }

takes : (w v : FileWriter) (before after : Storage) (row : Option Json) (full : Bool) → is_full_with w.open row ≡ full → Has before.files w.name → KeepsForm w v → v.broken ≡ None
    → MatchBool full (IsClosed w.name w.open v.open w.closed v.closed before after (records_with w.open row)) (IsKept w.open v.open w.closed v.closed before after row) → TakesRow before after w v row
takes w v before after row true full has k whole done = record {
  more = concat (chunks_with w.open (records_with w.open row));
  grown = done.added;
  keeps = keeps w v k;
  stands = λ bytes rows st. record {
    whole = whole;
    stands = stands_on w.open v.open w.closed v.closed (bytes ++ concat (chunks_with w.open (records_with w.open row))) (rows ++ row ∷ []) k.column
        (stands_closed w.name w.open v.open w.closed v.closed before after bytes rows row full done k.column.paths st.stands);
  };
}
takes w v before after row false full has k whole kept = record {
  more = [];
  grown = kept.same ∙ ap (λ (files : Option Files). record before { files = files }) (sym (appended_none before.files w.name has));
  keeps = keeps w v k;
  stands = λ bytes rows st. subst (λ (bs : List ℕ). Stands v bs (rows ++ row ∷ [])) (sym (append-nil bytes)) (record {
    whole = whole;
    stands = stands_on w.open v.open w.closed v.closed bytes (rows ++ row ∷ []) k.column (stands_kept w.open v.open w.closed v.closed before after bytes rows row full kept k.column.paths st.stands);
  });
}

cuts_none : (w : FileWriter) (before after : Storage) (row : Option Json) → Has before.files w.name → after ≡ before → CutsRow before after w row
cuts_none w before after row has same = record { more = []; gains = gains_none before after w.name has same; chunks = λ bytes rows st. inl refl }

cuts_chunks : (w : FileWriter) (before after : Storage) (row : Option Json) → is_full_with w.open row ≡ true → footer_size (closed_with w.open w.closed (records_with w.open row)) ≤ footer_limit
    → Gains before after w.name (concat (chunks_with w.open (records_with w.open row))) → CutsRow before after w row
cuts_chunks w before after row full short gains = record {
  more = concat (chunks_with w.open (records_with w.open row));
  gains = gains;
  chunks = λ bytes rows st. inr (record { metas = (closed_with w.open w.closed (records_with w.open row)).groups; body = closed_pushed w.open w.closed bytes rows row full short st.stands });
}

row_refused : (w v : FileWriter) (before after : Storage) (row : Option Json) (e : First) → Has before.files w.name → Closes w.name w.open v.open w.closed v.closed before after (records_with w.open row) (Err e)
    → is_full_with w.open row ≡ true → Pushing before after w v row (told_of (Err e))
row_refused w v before after row first.Failed has h full = (cuts_chunks w before after row full h.0 (gains_failed before after w.name _ h.1), h.1.2)
row_refused w v before after row (first.FooterFull len) has h full = record {
  untouched = h.0;
  long = λ bytes rows st. long_pushed w.open w.closed bytes rows row full (subst (λ (n : ℕ). footer_limit < n) h.1 h.2) st.stands ∙ ap Err (sym h.1);
}
row_refused w v before after row first.NoMemory has h full = elim h [
  | inl same ↦ (cuts_none w before after row has same, ap (λ (s : Storage). s.counts) same)
  | inr p ↦ (cuts_chunks w before after row full p.0 (gains_stopped before after w.name _ p.1), ap (λ (s : Storage). s.counts) p.1.2)
]

no_memory : (w v : FileWriter) (before after : Storage) (row : Option Json) (e : First) → Has before.files w.name → e ≡ first.NoMemory → after ≡ before → Pushing before after w v row (told_of (Err e))
no_memory w v before after row first.Failed has is same = cc
no_memory w v before after row (first.FooterFull len) has is same = cc
no_memory w v before after row first.NoMemory has is same = (cuts_none w before after row has same, ap (λ (s : Storage). s.counts) same)

added : (w v : FileWriter) (before after : Storage) (row : Option Json) (done : Result (Unit {0}) First) → Has before.files w.name → KeepsForm w v → v.broken ≡ refused_in done
    → Pushes w.name w.open v.open w.closed v.closed before after row done → Pushing before after w v row (told_of done)
added w v before after row (Ok u) has k whole p = takes w v before after row (is_full_with w.open row) refl has k whole p
added w v before after row (Err e) has k whole p = elim p [
  | inl x ↦ no_memory w v before after row e has x.0 x.1
  | inr x ↦ row_refused w v before after row e has x.1 x.0
]

pub pushing : {S : Type 0} (seen : S → Storage) (s t : S) (w v : FileWriter) (row : Option Json) (r : Result (Unit {0}) WriteError) (b : Option First) → broken_by w ≡ b → Has (seen s).files (name_of w)
    → IfSome b (λ e. (r ≡ Err (error.Broken e)) × (v ≡ w) × (t ≡ s)) → (b ≡ None → AddsRow w v (seen s) (seen t) row r) → KeepsForm w v → Pushing (seen s) (seen t) w v row r
pushing seen s t w v row r (Some e) is has broken adds k = subst (λ (x : Result (Unit {0}) WriteError). Pushing (seen s) (seen t) w v row x) (sym broken.0) (is, ap seen broken.2)
pushing seen s t w v row r None is has broken adds k =
    let a = adds refl in
    subst (λ (x : Result (Unit {0}) WriteError). Pushing (seen s) (seen t) w v row x) (sym a.told) (added w v (seen s) (seen t) row a.done has k a.broken a.pushes)

-- ---- the end

end_cuts : (w : FileWriter) (before after : Storage) → Gains before after w.name (end_bytes w.open w.closed (records_in w.open))
    → ((bytes : List ℕ) (rows : List (Option Json)) → Stands w bytes rows → frame.made (format_in w) rows ≡ Ok (bytes ++ end_bytes w.open w.closed (records_in w.open))) → CutsEnd before after w
end_cuts w before after gains whole = record { more = end_bytes w.open w.closed (records_in w.open); gains = gains; part = λ bytes rows st. inr (whole bytes rows st) }

end_cuts_none : (w : FileWriter) (before after : Storage) → Has before.files w.name → after ≡ before → CutsEnd before after w
end_cuts_none w before after has same = record { more = []; gains = gains_none before after w.name has same; part = λ bytes rows st. inl refl }

finished : (w : FileWriter) (before after : Storage) (done : Result (Unit {0}) First) → Has before.files w.name → Finishes w.name w.open w.closed (records_in w.open) before after done → Ending before after w (told_of done)
finished w before after (Ok u) has h = record { more = end_bytes w.open w.closed (records_in w.open); grown = h.0; whole = λ bytes rows st. made_is w.open w.closed bytes rows st.stands h.1 }
finished w before after (Err first.Failed) has h = (end_cuts w before after (gains_failed before after w.name _ h.1) (λ bytes rows st. made_is w.open w.closed bytes rows st.stands h.0), h.1.2)
finished w before after (Err (first.FooterFull len)) has h = record {
  untouched = h.1;
  long = λ bytes rows st. made_long w.open w.closed bytes rows st.stands h.0 (subst (λ (n : ℕ). footer_limit < n) h.2 h.3) ∙ ap Err (sym h.2);
}
finished w before after (Err first.NoMemory) has h = elim h [
  | inl same ↦ (end_cuts_none w before after has same, ap (λ (s : Storage). s.counts) same)
  | inr p ↦ (end_cuts w before after (gains_stopped before after w.name _ p.1) (λ bytes rows st. made_is w.open w.closed bytes rows st.stands p.0), ap (λ (s : Storage). s.counts) p.1.2)
]

pub ending : {S : Type 0} (seen : S → Storage) (s t : S) (w : FileWriter) (r : Result (Unit {0}) WriteError) (b : Option First) → broken_by w ≡ b → Has (seen s).files (name_of w)
    → IfSome b (λ e. (r ≡ Err (error.Broken e)) × (t ≡ s)) → (b ≡ None → EndsFile w (seen s) (seen t) r) → Ending (seen s) (seen t) w r
ending seen s t w r (Some e) is has broken ends = subst (λ (x : Result (Unit {0}) WriteError). Ending (seen s) (seen t) w x) (sym broken.0) (is, ap seen broken.1)
ending seen s t w r None is has broken ends =
    let a = ends refl in
    subst (λ (x : Result (Unit {0}) WriteError). Ending (seen s) (seen t) w x) (sym a.told) (finished w (seen s) (seen t) a.done has a.finishes)

-- what stands is the groups that closed
pub closed_by : (w : FileWriter) (bytes : List ℕ) (rows : List (Option Json)) → Stands w bytes rows → AreClosed (format_in w) rows bytes
closed_by w bytes rows st = record { metas = w.closed.groups; body = st.stands.closed }
