-- Calls on valid files: they print the lines of all rows, and count the rows.
use Rattle.std.proofs.Common.{◌≡◌, ◌∙◌, inl, inr, refl, sym, ap, subst, ℕ, List, length, Option, None, Some, Result, Ok, Err}
use Rattle.std.specs.Io.KnownBytes.{Appends}
use Rattle.json_tree.specs.Json.{Json}
use Rattle.vs_bytes.specs.declared.rule.Rule.{Rule}
use Rattle.query_tree.specs.Asked.{Asked}
use Rattle.path_query.specs.Answer.{answer_of}
use Rattle.thrift_footer.specs.Opening.{IsFile}
use Rattle.command_parsing.specs.Commands.{FileQuery}
use Rattle.command_words.specs.Check.{CheckGiven}
use Rattle.store_laws.specs.ValidFiles.{IsValid}
use Rattle.store_file.specs.Beginning.{beginning}
use Rattle.store_file.specs.SeenGroups.{Seen, all_found}
use Rattle.store_file.specs.FileCalls.{Counts, groups_in, rows_seen, lines_seen}
use Rattle.store_file.specs.declared.file_faults.Violation.{Violation}
use Rattle.store_file.specs.declared.store_file.StoreFile.{StoreFile}
use Rattle.file_answers.specs.Answering.{AnswersQuery}
use Rattle.file_answers.specs.Beginning.{Readout}
use Rattle.file_answers.specs.Completing.{IsAnswerable, IsJudgeable, QueryViolates, CheckViolates}
use Rattle.file_answers.specs.Judging.{JudgesFile, IsWhole, count_line}
use Rattle.file_laws.specs.Begun.{IsBegunFrom, CanBegin}
use Rattle.file_laws.proofs.PrunedFiles.{lines_kept}
use Rattle.file_laws.proofs.Starts.{Start, one_start, valid_start}
use Rattle.file_laws.proofs.ValidRows.{valid_rows}

pub valid_begins : (column bytes : List ℕ) (rows : List (Option Json)) → IsValid bytes column rows → CanBegin column bytes
valid_begins column bytes rows v = record { opened = v.opened; view = v.view; begins = valid_start column bytes rows v }

pub valid_lines : (column bytes : List ℕ) (rows : List (Option Json)) (asked : Asked) (f : StoreFile) → IsValid bytes column rows → IsBegunFrom column bytes f → lines_seen f asked bytes ≡ all_found (answer_of asked rows)
valid_lines column bytes rows asked f v b = lines_kept f asked bytes b.usable rows (valid_rows column bytes rows f v b)

pub valid_groups : (column bytes : List ℕ) (rows : List (Option Json)) (f : StoreFile) (v : IsValid bytes column rows) → IsBegunFrom column bytes f → length (groups_in f) ≡ length v.opened.meta.row_groups
valid_groups column bytes rows f v b = ap (λ (s : Start). length s.0.meta.row_groups) (sym (one_start column bytes (v.opened, v.view) f b (valid_start column bytes rows v)))

pub valid_counts : (column bytes : List ℕ) (rows : List (Option Json)) (f : StoreFile) (v : IsValid bytes column rows) → IsBegunFrom column bytes f → Counts f bytes (length v.opened.meta.row_groups) (length rows)
valid_counts column bytes rows f v b = record { all = rows; valid = valid_rows column bytes rows f v b; group_count = sym (valid_groups column bytes rows f v b); row_count = refl }

-- No violation.

not_begun : (column bytes : List ℕ) (rows : List (Option Json)) (rule : Rule) → IsValid bytes column rows → beginning bytes column ≡ Err rule → ⊥
not_begun column bytes rows rule v wrong =
    let both : ◌≡◌ {A = Result Start Rule} (Ok (v.opened, v.view)) (Err rule) = sym (valid_start column bytes rows v) ∙ wrong in
    cc

pub not_met : {A : Type 0} (seen : Seen A) (found : List A) (violation : Violation) → seen ≡ all_found found → seen.stop ≡ Some violation → ⊥
not_met {A = A} seen found violation all met =
    let both : ◌≡◌ {A = Option Violation} None (Some violation) = sym (ap (λ (s : Seen A). s.stop) all) ∙ met in
    cc

query_sound : (query : FileQuery) (bytes : List ℕ) (rows : List (Option Json)) (violation : Violation) → IsValid bytes query.column rows → QueryViolates query bytes violation → ⊥
query_sound query bytes rows violation v (inl h) = not_begun query.column bytes rows violation.rule v h.wrong
query_sound query bytes rows violation v (inr h) =
    not_met (lines_seen h.file query.asked bytes) (answer_of query.asked rows) violation (valid_lines query.column bytes rows query.asked h.file v (record { usable = h.usable; is_of = h.is_of })) h.met

check_sound : (check : CheckGiven) (bytes : List ℕ) (rows : List (Option Json)) (violation : Violation) → IsValid bytes check.column rows → CheckViolates check bytes violation → ⊥
check_sound check bytes rows violation v (inl h) = not_begun check.column bytes rows violation.rule v h.wrong
check_sound check bytes rows violation v (inr h) = not_met (rows_seen h.file bytes) rows violation (valid_rows check.column bytes rows h.file v (record { usable = h.usable; is_of = h.is_of })) h.met

pub valid_answerable : (query : FileQuery) (before : Readout) (bytes : List ℕ) (rows : List (Option Json)) → IsFile before.shelf.files query.file bytes → IsValid bytes query.column rows → IsAnswerable query before
valid_answerable query before bytes rows there v = record { bytes = bytes; there = there; sound = λ violation. query_sound query bytes rows violation v }

pub valid_judgeable : (check : CheckGiven) (before : Readout) (bytes : List ℕ) (rows : List (Option Json)) → IsFile before.shelf.files check.file bytes → IsValid bytes check.column rows → IsJudgeable check before
valid_judgeable check before bytes rows there v = record { bytes = bytes; there = there; sound = λ violation. check_sound check bytes rows violation v }

-- What is printed.

pub valid_prints : (query : FileQuery) (before after : Readout) (bytes : List ℕ) (rows : List (Option Json)) → IsFile before.shelf.files query.file bytes → IsValid bytes query.column rows → AnswersQuery query before after (Ok tt)
    → Appends before.out.bytes after.out.bytes (answer_of query.asked rows)
valid_prints query before after bytes rows there v w =
    let lines = valid_lines query.column bytes rows query.asked w.file v (record { usable = w.begun.usable; is_of = w.begun.of_file bytes there }) in
    let prints = w.answers bytes there in
    subst (Appends before.out.bytes after.out.bytes) (ap (λ (s : Seen ℕ). s.found) (sym prints.lines ∙ lines)) prints.appended

pub valid_checks : (check : CheckGiven) (before after : Readout) (bytes : List ℕ) (rows : List (Option Json)) → IsFile before.shelf.files check.file bytes → (v : IsValid bytes check.column rows) → JudgesFile check before after (Ok tt)
    → IsWhole (count_line (length v.opened.meta.row_groups) (length rows)) before.out after.out
valid_checks check before after bytes rows there v w =
    let begun : IsBegunFrom check.column bytes w.judged.file = record { usable = w.judged.begun.usable; is_of = w.judged.begun.of_file bytes there } in
    let counts = w.judged.judges bytes there in
    let all : counts.all ≡ rows = ap (λ (s : Seen (Option Json)). s.found) (sym counts.valid ∙ valid_rows check.column bytes rows w.judged.file v begun) in
    let groups : w.groups ≡ length v.opened.meta.row_groups = counts.group_count ∙ valid_groups check.column bytes rows w.judged.file v begun in
    let count : w.rows ≡ length rows = counts.row_count ∙ ap (λ (rs : List (Option Json)). length rs) all in
    subst (λ (m : ℕ). IsWhole (count_line m (length rows)) before.out after.out) groups (subst (λ (m : ℕ). IsWhole (count_line w.groups m) before.out after.out) count w.prints)
