-- A check finds one first violation of a file, and so does a query, and where one is found the call isn't done.
use Rattle.std.proofs.Common.{◌≡◌, ◌∙◌, ◌⊎◌, ◌↔◌, inl, inr, refl, sym, ap, subst, ℕ, Bool, List, Option, None, Some, Result, Ok, Err}
use Rattle.json_tree.specs.Json.{Json}
use Rattle.query_tree.specs.Asked.{Asked}
use Rattle.path_query.specs.Answer.{answer_of}
use Rattle.vs_bytes.specs.declared.rule.Rule.{Rule}
use Rattle.thrift_footer.specs.Opening.{IsFile}
use Rattle.command_parsing.specs.Commands.{FileQuery}
use Rattle.command_words.specs.Check.{CheckGiven}
use Rattle.file_columns.specs.Views.{shown}
use Rattle.store_file.specs.Masks.{needed}
use Rattle.store_file.specs.SeenGroups.{Seen}
use Rattle.store_file.specs.FileCalls.{rows_under, rows_seen, lines_seen}
use Rattle.store_file.specs.declared.file_faults.Place.{Place}
use Rattle.store_file.specs.declared.file_faults.Place.TheVariants as place
use Rattle.store_file.specs.declared.file_faults.Violation.{Violation}
use Rattle.store_file.specs.declared.store_file.StoreFile.{StoreFile}
use Rattle.store_file.proofs.RowLines.{lines_answer}
use Rattle.store_file.proofs.SeenGroups.{whole}
use Rattle.file_answers.specs.Answering.{AnswersQuery}
use Rattle.shelf.specs.Storage.{Storage, FailsRead}
use Rattle.shelf.specs.declared.tally.Counts.{Counts}
use Rattle.file_answers.specs.Beginning.{Readout, IsOf, IsWrongAtFirst, IsBegun, HasFault}
use Rattle.file_answers.specs.Completing.{MeetsViolation, HasViolation, QueryViolates, CheckViolates}
use Rattle.file_answers.specs.Judging.{JudgesFile}
use Rattle.file_answers.specs.declared.file_error.FileError.{FileError}
use Rattle.file_answers.specs.declared.file_error.FileError.TheVariants.{Absent, Violated, ReadFault, WriteFault, NoMemory}
use Rattle.file_answers.proofs.Unchanged.{counts_begun}
use Rattle.file_laws.specs.Begun.{IsBegunFrom, CanBegin}
use Rattle.file_laws.proofs.PrunedFiles.{lines_kept}
use Rattle.file_laws.proofs.SeenAlike.{same_rows, same_lines}
use Rattle.file_laws.proofs.Starts.{Start}
use Rattle.file_laws.proofs.ValidFiles.{not_met}

-- There is one.

both_rules : (a b : Rule) → ◌≡◌ {A = Result Start Rule} (Err a) (Err b) → a ≡ b
both_rules a b e = cc

same_place : (v w : Violation) → v.place ≡ place.File → w.place ≡ place.File → v.rule ≡ w.rule → v ≡ w
same_place v w p q rule =
    ap (λ (at : Place). record { rule = v.rule; place = at }) (p ∙ sym q) ∙ ap (λ (r : Rule). record { rule = r; place = w.place }) rule

at_first_or_later : (column bytes : List ℕ) (v : Violation) (f : StoreFile) → IsWrongAtFirst column bytes v → IsBegunFrom column bytes f → ⊥
at_first_or_later column bytes v f h b =
    let both : ◌≡◌ {A = Result Start Rule} (Err v.rule) (Ok (f.opened, shown f.column)) = sym h.wrong ∙ b.is_of in
    cc

some_one : (v w : Violation) → ◌≡◌ {A = Option Violation} (Some v) (Some w) → v ≡ w
some_one v w e = cc

found_from : (check : CheckGiven) (bytes : List ℕ) (v : Violation) (h : HasViolation check bytes v) → IsBegunFrom check.column bytes h.file
found_from check bytes v h = record { usable = h.usable; is_of = h.is_of }

-- the violation that a check finds of a file that was begun ends its rows
check_stops : (check : CheckGiven) (bytes : List ℕ) (v : Violation) (f : StoreFile) → IsBegunFrom check.column bytes f → CheckViolates check bytes v → (rows_seen f bytes).stop ≡ Some v
check_stops check bytes v f b (inl h) = absurd (at_first_or_later check.column bytes v f h b)
check_stops check bytes v f b (inr h) = ap (λ (s : Seen (Option Json)). s.stop) (same_rows check.column bytes f h.file b (found_from check bytes v h)) ∙ h.met

pub check_one : (check : CheckGiven) (bytes : List ℕ) (v w : Violation) → CheckViolates check bytes v → CheckViolates check bytes w → v ≡ w
check_one check bytes v w (inl g) (inl h) = same_place v w g.whole h.whole (both_rules v.rule w.rule (sym g.wrong ∙ h.wrong))
check_one check bytes v w (inl g) (inr h) = absurd (at_first_or_later check.column bytes v h.file g (found_from check bytes w h))
check_one check bytes v w (inr g) h = some_one v w (sym g.met ∙ check_stops check bytes w g.file (found_from check bytes v g) h)

met_from : (query : FileQuery) (bytes : List ℕ) (v : Violation) (h : MeetsViolation query bytes v) → IsBegunFrom query.column bytes h.file
met_from query bytes v h = record { usable = h.usable; is_of = h.is_of }

-- the violation that a query finds of a file that was begun ends its lines
query_stops : (query : FileQuery) (bytes : List ℕ) (v : Violation) (f : StoreFile) → IsBegunFrom query.column bytes f → QueryViolates query bytes v → (lines_seen f query.asked bytes).stop ≡ Some v
query_stops query bytes v f b (inl h) = absurd (at_first_or_later query.column bytes v f h b)
query_stops query bytes v f b (inr h) = ap (λ (s : Seen ℕ). s.stop) (same_lines query.column bytes f h.file b (met_from query bytes v h) query.asked) ∙ h.met

pub query_one : (query : FileQuery) (bytes : List ℕ) (v w : Violation) → QueryViolates query bytes v → QueryViolates query bytes w → v ≡ w
query_one query bytes v w (inl g) (inl h) = same_place v w g.whole h.whole (both_rules v.rule w.rule (sym g.wrong ∙ h.wrong))
query_one query bytes v w (inl g) (inr h) = absurd (at_first_or_later query.column bytes v h.file g (met_from query bytes w h))
query_one query bytes v w (inr g) h = some_one v w (sym g.met ∙ query_stops query bytes w g.file (met_from query bytes v g) h)

-- Where a query finds one, so does a check.

same_first : (a b bytes : List ℕ) (v : Violation) → a ≡ b → IsWrongAtFirst a bytes v → IsWrongAtFirst b bytes v
same_first a b bytes v same h = subst (λ (name : List ℕ). IsWrongAtFirst name bytes v) same h

same_file : (a b bytes : List ℕ) (f : StoreFile) → a ≡ b → IsOf a bytes f → IsOf b bytes f
same_file a b bytes f same is = subst (λ (name : List ℕ). IsOf name bytes f) same is

pub check_finds : (query : FileQuery) (check : CheckGiven) (bytes : List ℕ) (v : Violation) → query.column ≡ check.column → QueryViolates query bytes v → (w : Violation) × CheckViolates check bytes w
check_finds query check bytes v same (inl h) = (v, inl (same_first query.column check.column bytes v same h))
check_finds query check bytes v same (inr h) = by (rows_seen h.file bytes).stop refl
  where
    by : (stop : Option Violation) → (rows_seen h.file bytes).stop ≡ stop → (w : Violation) × CheckViolates check bytes w
    by (Some w) met = (w, inr (record { file = h.file; usable = h.usable; is_of = same_file query.column check.column bytes h.file same h.is_of; met = met }))
    by None none =
        let found = (rows_seen h.file bytes).found in
        absurd (not_met (lines_seen h.file query.asked bytes) (answer_of query.asked found) v (lines_kept h.file query.asked bytes h.usable found (whole (rows_seen h.file bytes) none)) h.met)

-- Where the file can't be begun both find the same.

begins : (column bytes : List ℕ) (f : StoreFile) → IsOf column bytes f → CanBegin column bytes
begins column bytes f is = record { opened = f.opened; view = shown f.column; begins = is }

pub unbegun : (query : FileQuery) (check : CheckGiven) (bytes : List ℕ) (v : Violation) → query.column ≡ check.column → (CanBegin query.column bytes → ⊥) → (QueryViolates query bytes v ↔ CheckViolates check bytes v)
unbegun query check bytes v same none = (to, from)
  where
    to : QueryViolates query bytes v → CheckViolates check bytes v
    to (inl h) = inl (same_first query.column check.column bytes v same h)
    to (inr h) = absurd (none (begins query.column bytes h.file h.is_of))

    from : CheckViolates check bytes v → QueryViolates query bytes v
    from (inl h) = inl (same_first check.column query.column bytes v (sym same) h)
    from (inr h) = absurd (none (begins query.column bytes h.file (same_file check.column query.column bytes h.file (sym same) h.is_of)))

-- Where the query reads all leaves both find the same.

same_stop : (f : StoreFile) (asked : Asked) (bytes : List ℕ) → needed f asked ≡ f.mask → (lines_seen f asked bytes).stop ≡ (rows_seen f bytes).stop
same_stop f asked bytes all = ap (λ (s : Seen ℕ). s.stop) (lines_answer f asked bytes) ∙ ap (λ (mask : List Bool). (rows_under f mask bytes).stop) all

pub all_leaves : (query : FileQuery) (check : CheckGiven) (bytes : List ℕ) (f : StoreFile) (v : Violation) → query.column ≡ check.column → IsBegunFrom query.column bytes f → needed f query.asked ≡ f.mask
    → (QueryViolates query bytes v ↔ CheckViolates check bytes v)
all_leaves query check bytes f v same b all = (to, from)
  where
    stops : (lines_seen f query.asked bytes).stop ≡ (rows_seen f bytes).stop
    stops = same_stop f query.asked bytes all

    is_of : IsOf check.column bytes f
    is_of = same_file query.column check.column bytes f same b.is_of

    to : QueryViolates query bytes v → CheckViolates check bytes v
    to has = inr (record { file = f; usable = b.usable; is_of = is_of; met = sym stops ∙ query_stops query bytes v f b has })

    from : CheckViolates check bytes v → QueryViolates query bytes v
    from has = inr (record { file = f; usable = b.usable; is_of = b.is_of; met = stops ∙ check_stops check bytes v f (record { usable = b.usable; is_of = is_of }) has })

-- Calls name it, and are done only where there is none.

pub query_names : (query : FileQuery) (before after : Readout) (bytes : List ℕ) (v : Violation) → IsFile before.shelf.files query.file bytes → AnswersQuery query before after (Err (Violated v)) → QueryViolates query bytes v
query_names query before after bytes v there (inl h) = inl (record { whole = h.leaves.whole; wrong = h.leaves.unbegun.of_file bytes there })
query_names query before after bytes v there (inr h) = inr (record {
  file = h.file;
  usable = h.begun.usable;
  is_of = h.begun.of_file bytes there;
  met = ap (λ (s : Seen ℕ). s.stop) (h.answers bytes there).lines;
})

pub check_names : (check : CheckGiven) (before after : Readout) (bytes : List ℕ) (v : Violation) → IsFile before.shelf.files check.file bytes → JudgesFile check before after (Err (Violated v)) → CheckViolates check bytes v
check_names check before after bytes v there (inl h) = inl (record { whole = h.leaves.whole; wrong = h.leaves.unbegun.of_file bytes there })
check_names check before after bytes v there (inr h) = inr (record { file = h.leaves.file; usable = h.leaves.begun.usable; is_of = h.leaves.begun.of_file bytes there; met = h.leaves.judges bytes there })

met_none : (stop : Option Violation) (v : Violation) → stop ≡ None → stop ≡ Some v → ⊥
met_none stop v none met = let both : ◌≡◌ {A = Option Violation} None (Some v) = sym none ∙ met in cc

pub query_not_done : (query : FileQuery) (before after : Readout) (bytes : List ℕ) (v : Violation) → IsFile before.shelf.files query.file bytes → QueryViolates query bytes v → AnswersQuery query before after (Ok tt) → ⊥
query_not_done query before after bytes v there h w =
    met_none (lines_seen w.file query.asked bytes).stop v (ap (λ (s : Seen ℕ). s.stop) (w.answers bytes there).lines)
    (query_stops query bytes v w.file (record { usable = w.begun.usable; is_of = w.begun.of_file bytes there }) h)

pub check_not_done : (check : CheckGiven) (before after : Readout) (bytes : List ℕ) (v : Violation) → IsFile before.shelf.files check.file bytes → CheckViolates check bytes v → JudgesFile check before after (Ok tt) → ⊥
check_not_done check before after bytes v there h w =
    met_none (rows_seen w.judged.file bytes).stop v (ap (λ (s : Seen (Option Json)). s.stop) (w.judged.judges bytes there).valid)
    (check_stops check bytes v w.judged.file (record { usable = w.judged.begun.usable; is_of = w.judged.begun.of_file bytes there }) h)

-- Where no device fails they answer it, or have no memory.

failed_in_call : (name column : List ℕ) (f : StoreFile) (s t u : Storage) → IsBegun name column f s t → FailsRead t.counts u.counts → FailsRead s.counts u.counts
failed_in_call name column f s t u b h = subst (λ (c : Counts). FailsRead c u.counts) (counts_begun name column f s t b) h

pub query_answers : (query : FileQuery) (a b : Readout) (done : Result (Unit {0}) FileError) (bytes : List ℕ) (v : Violation) → IsFile a.shelf.files query.file bytes → QueryViolates query bytes v → AnswersQuery query a b done → (HasFault a b → ⊥)
    → (done ≡ Err (Violated v)) ⊎ (done ≡ Err NoMemory)
query_answers query a b (Ok u) bytes v there has h calm = absurd (query_not_done query a b bytes v there has h)
query_answers query a b (Err Absent) bytes v there has h calm = absurd (h.leaves.of_file bytes there)
query_answers query a b (Err (Violated w)) bytes v there has h calm = inl (ap (λ (x : Violation). Err (Violated x)) (query_one query bytes w v (query_names query a b bytes w there h) has))
query_answers query a b (Err ReadFault) bytes v there has (inl h) calm = absurd (calm (inl h.leaves.asks.leaves.0))
query_answers query a b (Err ReadFault) bytes v there has (inr h) calm = absurd (calm (inl (failed_in_call query.file query.column h.file a.shelf h.between b.shelf h.begun h.asks.failed)))
query_answers query a b (Err WriteFault) bytes v there has h calm = absurd (calm (inr h.counts))
query_answers query a b (Err NoMemory) bytes v there has h calm = inr refl

pub check_answers : (check : CheckGiven) (a b : Readout) (done : Result (Unit {0}) FileError) (bytes : List ℕ) (v : Violation) → IsFile a.shelf.files check.file bytes → CheckViolates check bytes v → JudgesFile check a b done → (HasFault a b → ⊥)
    → (done ≡ Err (Violated v)) ⊎ (done ≡ Err NoMemory)
check_answers check a b (Ok u) bytes v there has h calm = absurd (check_not_done check a b bytes v there has h)
check_answers check a b (Err Absent) bytes v there has h calm = absurd (h.leaves.of_file bytes there)
check_answers check a b (Err (Violated w)) bytes v there has h calm = inl (ap (λ (x : Violation). Err (Violated x)) (check_one check bytes w v (check_names check a b bytes w there h) has))
check_answers check a b (Err ReadFault) bytes v there has (inl h) calm = absurd (calm (inl h.leaves.asks.leaves.0))
check_answers check a b (Err ReadFault) bytes v there has (inr h) calm = absurd (calm (inl (failed_in_call check.file check.column h.leaves.file a.shelf h.leaves.between b.shelf h.leaves.begun h.leaves.asks.failed)))
check_answers check a b (Err WriteFault) bytes v there has h calm = absurd (calm (inr h.prints.1))
check_answers check a b (Err NoMemory) bytes v there has h calm = inr refl
