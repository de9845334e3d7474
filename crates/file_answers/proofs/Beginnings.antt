-- Calls on a file that was begun, or wasn't, in the words of the commands.
use Rattle.std.proofs.Common.{◌≡◌, ◌∙◌, inl, refl, sym, subst, ℕ, List, Option, Some, Result, Err}
use Rattle.outside.specs.Devices.{Device}
use Rattle.shelf.specs.Storage.{Storage, Files}
use Rattle.std.specs.FinMap.{get}
use Rattle.store_read.specs.Ranges as reading
use Rattle.vs_bytes.specs.declared.rule.Rule.{Rule}
use Rattle.thrift_footer.specs.Opening as opening
use Rattle.thrift_footer.specs.Opening.{IsFile, IsMissing, IsUnopened, opening_ranges}
use Rattle.thrift_footer.specs.declared.opening.OpenFault.{OpenFault}
use Rattle.thrift_footer.specs.declared.opening.OpenFault.TheVariants as fault
use Rattle.store_file.specs.Beginning.{beginning, Begins}
use Rattle.store_file.specs.declared.file_faults.Place.TheVariants as place
use Rattle.command_parsing.specs.Commands.{FileQuery}
use Rattle.command_words.specs.Check.{CheckGiven}
use Rattle.store_file.specs.FileCalls.{Queries, Checks}
use Rattle.store_file.specs.declared.file_faults.QueryFault.{QueryFault}
use Rattle.store_file.specs.declared.store_file.StoreFile.{StoreFile}
use Rattle.file_answers.specs.Beginning.{readout, IsBegun, IsUnbegun, IsRefused, BeginsFile}
use Rattle.file_answers.specs.Answering.{AnswersQuery, IsAnswered}
use Rattle.file_answers.specs.Judging.{JudgesFile, IsJudged}
use Rattle.file_answers.specs.declared.file_error.FileError.{FileError}
use Rattle.file_answers.specs.declared.file_error.FileError.TheVariants.{Absent, Violated, ReadFault, WriteFault, NoMemory}
use Rattle.file_answers.proofs.Unchanged.{at_begun}

-- its bytes are still there
pub still_there : (name column : List ℕ) (f : StoreFile) (s t : Storage) (bytes : List ℕ) → IsBegun name column f s t → IsFile s.files name bytes → reading.IsFile t.files f.name bytes
still_there name column f s t bytes b i =
    subst (λ (files : Option Files). reading.IsFile files f.name bytes) (sym (at_begun name column f s t b ∙ i.known)) (subst (λ (n : List ℕ). get i.map n ≡ Some bytes) (sym b.is_named) i.there)

pub answered : (query : FileQuery) (f : StoreFile) (s t u : Storage) (o p : Device) (done : Result (Unit {0}) QueryFault) → IsBegun query.file query.column f s t → Queries f query.asked t u o p done
    → IsAnswered query done (readout s o) (readout u p)
answered query f s t u o p done b q = record {
  file = f;
  between = t;
  begun = b;
  asks = q.asks;
  answers = λ bytes i. q.answers bytes (still_there query.file query.column f s t bytes b i);
  counts = q.counts;
}

pub judged : (check : CheckGiven) (f : StoreFile) (s t u : Storage) (done : Result (ℕ × ℕ) QueryFault) → IsBegun check.file check.column f s t → Checks f t u done → IsJudged check done s u
judged check f s t u done b q = record {
  file = f;
  between = t;
  begun = b;
  asks = q.asks;
  judges = λ bytes i. q.judges bytes (still_there check.file check.column f s t bytes b i);
}

-- opening, or the search for the column, found what the file violates
pub refused : (name column : List ℕ) (s t : Storage) (rule : Rule) (why : OpenFault) → why ≡ fault.Refused rule → opening.Asks {A = StoreFile} s t name (opening_ranges name) (Err why)
    → ((bytes : List ℕ) → IsFile s.files name bytes → Begins (beginning bytes column) (Err why)) → (IsMissing s.files name → IsUnopened {A = StoreFile} s t (Err why))
    → IsRefused name column (record { rule = rule; place = place.File }) s t
refused name column s t rule why e asks begins missing = record { whole = refl; unbegun = subst (λ (w : OpenFault). IsUnbegun name column w s t) e (record { asks = asks; of_file = begins; missing = missing }) }

pub unbegun_query : (query : FileQuery) (why : FileError) (s t : Storage) (o : Device) → BeginsFile query.file query.column s t (Err why) → AnswersQuery query (readout s o) (readout t o) (Err why)
unbegun_query query Absent s t o b = record { leaves = b; same_out = refl }
unbegun_query query (Violated v) s t o b = inl (record { leaves = b; same_out = refl })
unbegun_query query ReadFault s t o b = inl (record { leaves = b; same_out = refl })
unbegun_query query WriteFault s t o b = absurd b
unbegun_query query NoMemory s t o b = inl (record { leaves = b; same_out = refl })

pub unbegun_check : (check : CheckGiven) (why : FileError) (s t : Storage) (o : Device) → BeginsFile check.file check.column s t (Err why) → JudgesFile check (readout s o) (readout t o) (Err why)
unbegun_check check Absent s t o b = record { leaves = b; same_out = refl }
unbegun_check check (Violated v) s t o b = inl (record { leaves = b; same_out = refl })
unbegun_check check ReadFault s t o b = inl (record { leaves = b; same_out = refl })
unbegun_check check WriteFault s t o b = absurd b
unbegun_check check NoMemory s t o b = inl (record { leaves = b; same_out = refl })
