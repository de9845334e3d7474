-- Files that a load wrote, as calls on files see them.
use Rattle.std.proofs.Common.{◌≡◌, ◌∙◌, refl, sym, ap, subst, ℕ, ◌+◌, true, List, [], ◌∷◌, ◌++◌, length, Option, Some, Result, Ok, arith}
use Rattle.std.proofs.lemmas.List.{length-map}
use Rattle.std.specs.FinMap.{insert}
use Rattle.std.specs.Io.KnownBytes.{Appends}
use Rattle.std.specs.List.{AllByRecursion}
use Rattle.json_tree.specs.Json.{Json}
use Rattle.json_lines.specs.Cut.{Lines, none, last, over, line, lines_of}
use Rattle.json_documents.specs.Documents.{Ending, at_end, Verdict, blank, document, faulty, Judges, Stops, Follows, Walks, HasDocuments, IsInputValue, max_input}
use Rattle.json_documents.specs.Input.{GivesAll}
use Rattle.json_documents.proofs.InputValues.{input_value}
use Rattle.json_documents.proofs.Walks.{walks_once}
use Rattle.shelf.specs.Storage.{Files, with_file}
use Rattle.shelf.proofs.Appending.{get_inserted}
use Rattle.thrift_footer.specs.Opening.{IsFile}
use Rattle.query_tree.specs.Asked.{Asked}
use Rattle.path_query.specs.Answer.{answer_of, row_text}
use Rattle.open_group.specs.Filling.{is_full}
use Rattle.store_write.specs.Cutting.{cut_of, groups_of}
use Rattle.store_write.specs.Made.{column_name, made}
use Rattle.reading_laws.specs.Documents.{IsDocument}
use Rattle.command_parsing.specs.Commands.{Load, FileQuery}
use Rattle.command_words.specs.Check.{CheckGiven}
use Rattle.document_loading.specs.Loading.{Intake, settings_of}
use Rattle.document_loading.specs.Taken.{rows_of}
use Rattle.variant_store.specs.Answer.{answer_over}
use Rattle.variant_store.specs.Stream.{scan}
use Rattle.variant_store.specs.Streaming.{Streams}
use Rattle.variant_store.specs.World.{Pipe}
use Rattle.store_laws.specs.ValidFiles.{IsValid}
use Rattle.store_laws.proofs.MadeFiles.{file_valid, file_groups, file_honest}
use Rattle.file_answers.specs.Answering.{AnswersQuery}
use Rattle.file_answers.specs.Beginning.{Readout, HasFault}
use Rattle.file_answers.specs.Completing.{IsDone}
use Rattle.file_answers.specs.Judging.{JudgesFile, IsWhole, count_line}
use Rattle.file_answers.specs.declared.file_error.FileError.{FileError}
use Rattle.file_answers.proofs.Sound.{query_done, check_done}
use Rattle.file_laws.specs.Loaded.{IsLoaded, FollowsLoad, OfDocuments, GainTheSame, HoldsAll}
use Rattle.file_laws.proofs.ValidFiles.{valid_answerable, valid_judgeable, valid_prints, valid_checks}

-- The answer over the rows of documents is what `scan` prints of the documents.

pub answers_over : (asked : Asked) (documents : List Json) → answer_of asked (rows_of documents) ≡ answer_over (scan asked) documents
answers_over asked [] = refl
answers_over asked (json ∷ documents) = ap (λ (more : List ℕ). row_text asked (Some json) ++ more) (answers_over asked documents)

-- Documents of an input can be rows of a file.

no_values : (documents : List Json) → documents ≡ [] → AllByRecursion IsInputValue documents
no_values documents e = subst (AllByRecursion IsInputValue) (sym e) tt

all_values : (ls : Lines) (n : ℕ) (documents : List Json) (ending : Ending) → Walks ls n documents ending → AllByRecursion IsInputValue documents
all_values none n documents ending w = no_values documents w.0
all_values (over l) n documents ending w = no_values documents w.0
all_values (last l) n documents ending w = by w.0 w.1 w.2
  where
    by : (v : Verdict) → Judges l v → Follows v (n + 1) (Stops at_end) documents ending → AllByRecursion IsInputValue documents
    by blank j f = no_values documents f.0
    by (document json) j f = subst (AllByRecursion IsInputValue) (sym f.1) (input_value l json j.1, no_values f.0 f.2.0)
    by (faulty fault) j f = no_values documents f.0
all_values (line l ls) n documents ending w = by w.0 w.1 w.2 (λ more. all_values ls (n + 1) more ending)
  where
    by : (v : Verdict) → Judges l v → Follows v (n + 1) (Walks ls (n + 1)) documents ending → ((more : List Json) → Walks ls (n + 1) more ending → AllByRecursion IsInputValue more) → AllByRecursion IsInputValue documents
    by blank j f later = later documents f
    by (document json) j f later = subst (AllByRecursion IsInputValue) (sym f.1) (input_value l json j.1, later f.0 f.2)
    by (faulty fault) j f later = no_values documents f.0

value_is : (json : Json) → IsInputValue json → IsDocument true (Some json)
value_is json h = (h.is_line_value.valid, omega (arith, h.short), h.is_line_value.shallow)

are_documents : (documents : List Json) → AllByRecursion IsInputValue documents → AllByRecursion (IsDocument true) (rows_of documents)
are_documents [] all = tt
are_documents (json ∷ documents) all = (value_is json all.0, are_documents documents all.1)

-- What a load leaves.

record HasWritten (load : Load) (input : List ℕ) (after : Intake) : Type 0 where
  documents : List Json
  are_all : HasDocuments input documents at_end
  bytes : List ℕ
  is_made : made (settings_of load) load.schema (rows_of documents) ≡ Ok bytes
  there : IsFile after.shelf.files load.out bytes

written_there : (files : Option Files) (m : Files) (after : Option Files) (name bytes : List ℕ) → files ≡ Some m → after ≡ with_file files name bytes → IsFile after name bytes
written_there files m after name bytes known is = record { map = insert m name bytes; known = is ∙ ap (λ (fs : Option Files). with_file fs name bytes) known; there = get_inserted m name bytes }

has_written : (load : Load) (input : List ℕ) (before after : Intake) → IsLoaded load input before after → HasWritten load input after
has_written load input before after l =
    let writes = l.loads.0 in
    record {
      documents = writes.documents;
      are_all = (writes.are_of input l.is_input).0;
      bytes = writes.bytes;
      is_made = writes.is_file;
      there = written_there before.shelf.files l.files after.shelf.files load.out writes.bytes l.are_files writes.leaves.files;
    }

module _ (load : Load) (input : List ℕ) (before after : Intake) (loaded : IsLoaded load input before after) where
  written : HasWritten load input after
  written = has_written load input before after loaded

  written_documents : AllByRecursion (IsDocument true) (rows_of written.documents)
  written_documents = are_documents written.documents (all_values (lines_of max_input input) 0 written.documents at_end written.are_all)

  valid : (column : List ℕ) → column ≡ column_name → IsValid written.bytes column (rows_of written.documents)
  valid column same =
      subst (λ (name : List ℕ). IsValid written.bytes name (rows_of written.documents)) (sym same)
      (file_valid (settings_of load) loaded.can.schema.text load.schema (rows_of written.documents) written.bytes loaded.can.settings loaded.can.schema.is_schema written_documents written.is_made)

  pub loaded_holds : HoldsAll after.shelf.files load.out input
  loaded_holds = record {
    documents = written.documents;
    are_all = written.are_all;
    bytes = written.bytes;
    there = written.there;
    valid = valid column_name refl;
    honest = file_honest (settings_of load) loaded.can.schema.text load.schema (rows_of written.documents) written.bytes loaded.can.settings loaded.can.schema.is_schema written_documents written.is_made;
  }

  still_there : (file column : List ℕ) (from : Readout) → FollowsLoad load after file column from → IsFile from.shelf.files file written.bytes
  still_there file column from r = subst (λ (name : List ℕ). IsFile from.shelf.files name written.bytes) (sym r.same_file) (r.stays written.bytes written.there)

  pub loaded_answers : (query : FileQuery) (from to : Readout) → FollowsLoad load after query.file query.column from → AnswersQuery query from to (Ok tt)
      → OfDocuments input (λ documents. Appends from.out.bytes to.out.bytes (answer_over (scan query.asked) documents))
  loaded_answers query from to r done = record {
    documents = written.documents;
    are_all = written.are_all;
    holds = subst (Appends from.out.bytes to.out.bytes) (answers_over query.asked written.documents)
        (valid_prints query from to written.bytes (rows_of written.documents) (still_there query.file query.column from r) (valid query.column r.same_column) done);
  }

  pub loaded_scans : (query : FileQuery) (from to : Readout) (p q : Pipe) → FollowsLoad load after query.file query.column from → AnswersQuery query from to (Ok tt) → p.input.bytes ≡ Some input → Streams (scan query.asked) p q (Ok tt)
      → GainTheSame from.out to.out p.out q.out
  loaded_scans query from to p q r done known streams =
      let a = loaded_answers query from to r done in
      let all : GivesAll input q.input.bytes streams.0.documents = streams.0.are_of input known in
      let same = walks_once (lines_of max_input input) 0 streams.0.documents a.documents at_end at_end all.0 a.are_all in
      record {
        text = answer_over (scan query.asked) a.documents;
        first = a.holds;
        second = subst (λ (documents : List Json). Appends p.out.bytes q.out.bytes (answer_over (scan query.asked) documents)) same.documents streams.0.answers;
      }

  pub loaded_done : (query : FileQuery) (from to : Readout) (done : Result (Unit {0}) FileError) → FollowsLoad load after query.file query.column from → AnswersQuery query from to done → (HasFault from to → ⊥) → IsDone done
  loaded_done query from to done r answers calm =
      query_done query from to done answers (valid_answerable query from written.bytes (rows_of written.documents) (still_there query.file query.column from r) (valid query.column r.same_column)) calm

  pub loaded_checks : (check : CheckGiven) (from to : Readout) → FollowsLoad load after check.file check.column from → JudgesFile check from to (Ok tt)
      → OfDocuments input (λ documents. IsWhole (count_line (length (groups_of (cut_of (is_full (settings_of load) load.schema) (rows_of documents)))) (length documents)) from.out to.out)
  loaded_checks check from to r done =
      let v = valid check.column r.same_column in
      let groups = file_groups (settings_of load) loaded.can.schema.text load.schema (rows_of written.documents) written.bytes loaded.can.settings loaded.can.schema.is_schema written_documents written.is_made v.opened v.opens in
      let rows : length (rows_of written.documents) ≡ length written.documents = length-map written.documents Some in
      record {
        documents = written.documents;
        are_all = written.are_all;
        holds = subst (λ (count : ℕ). IsWhole (count_line count (length written.documents)) from.out to.out) groups
            (subst (λ (count : ℕ). IsWhole (count_line (length v.opened.meta.row_groups) count) from.out to.out) rows
            (valid_checks check from to written.bytes (rows_of written.documents) (still_there check.file check.column from r) v done));
      }

  pub loaded_judged : (check : CheckGiven) (from to : Readout) (done : Result (Unit {0}) FileError) → FollowsLoad load after check.file check.column from → JudgesFile check from to done → (HasFault from to → ⊥) → IsDone done
  loaded_judged check from to done r judges calm =
      check_done check from to done judges (valid_judgeable check from written.bytes (rows_of written.documents) (still_there check.file check.column from r) (valid check.column r.same_column)) calm
