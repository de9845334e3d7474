-- What a call of the program does, by how it ends.
use Rattle.std.specs.Prelude.{◌≡◌, ◌⊎◌, ℕ, List, Some, None, Result, Ok, Err}
use Rattle.outside.specs.Devices.{Device, Fails}
use Rattle.json_tree.specs.Json.{Json}
use Rattle.json_documents.specs.Documents.{at_end, HasDocuments}
use Rattle.json_documents.specs.declared.faults.Stop.{Stop}
use Rattle.command_parsing.specs.declared.fault.BadWords.{BadWords}
use Rattle.variant_store.specs.Commands.{Command, prints, loads, queries, checks, AskFor, AskWrongly, WritesFile}
use Rattle.variant_store.specs.World.{World, pipe_in, intake_in, readout_in}
use Rattle.variant_store.specs.Streaming.{Streams}
use Rattle.variant_store.specs.Ends.{stream_end, load_end, file_end}
use Rattle.variant_store.specs.Report.{IsReported}
use Rattle.std.specs.FinMap.{get}
use Rattle.shelf.specs.Storage.{Files, FailsWrite}
use Rattle.store_write.specs.Frames.{made}
use Rattle.store_write.specs.declared.write_error.WriteError.{WriteError}
use Rattle.document_loading.specs.Loading.{Loads, format}
use Rattle.document_loading.specs.Taken.{rows_of}
use Rattle.file_answers.specs.Answering.{AnswersQuery}
use Rattle.file_answers.specs.Beginning.{HasFault}
use Rattle.file_answers.specs.Completing.{IsAnswerable, IsJudgeable}
use Rattle.file_answers.specs.Judging.{JudgesFile}
use Rattle.file_answers.specs.declared.file_error.FileError.{FileError}
use Rattle.variant_store.specs.declared.gatherer.OutputFault.{OutputFault}
use Rattle.variant_store.specs.declared.command_error.CommandError.{CommandError}
use Rattle.variant_store.specs.declared.command_error.CommandError.TheVariants as error

-- what a command does, by how the call ends
abbrev pub Does : Command → World → World → Result (Unit {0}) CommandError → Type 0
Does (prints stream) before after done = (end : Result (Unit {0}) (Stop OutputFault)) × (done ≡ stream_end end) × Streams stream (pipe_in before) (pipe_in after) end × (after.shelf ≡ before.shelf)
Does (loads load) before after done = (end : Result (Unit {0}) (Stop WriteError)) × (done ≡ load_end end) × Loads load (intake_in before) (intake_in after) end × (after.out ≡ before.out)
Does (queries query) before after done = (end : Result (Unit {0}) FileError) × (done ≡ file_end end) × AnswersQuery query (readout_in before) (readout_in after) end × (after.input ≡ before.input)
Does (checks check) before after done = (end : Result (Unit {0}) FileError) × (done ≡ file_end end) × JudgesFile check (readout_in before) (readout_in after) end × (after.input ≡ before.input)

-- the words ask for a command, and it was done so
pub record Works (words : List (List ℕ)) (before after : World) (done : Result (Unit {0}) CommandError) : Type 0 where
  pub command : Command
  pub asked : AskFor words command
  pub does : Does command before after done

-- the words ask for nothing; they are judged before any device is called
pub record Refuses (words : List (List ℕ)) (before after : World) (done : Result (Unit {0}) CommandError) : Type 0 where
  pub bad : BadWords
  pub wrong : AskWrongly words bad
  pub answer_is : done ≡ Err (error.BadWords bad)
  pub untouched : after ≡ before

-- there was no memory to read the words
pub record LacksMemory (before after : World) (done : Result (Unit {0}) CommandError) : Type 0 where
  pub answer_is : done ≡ Err error.NoMemory
  pub untouched : after ≡ before

abbrev pub Runs : List (List ℕ) → World → World → Result (Unit {0}) CommandError → Type 0
Runs words before after done = Works words before after done ⊎ (Refuses words before after done ⊎ LacksMemory before after done)

-- the status, and what the error output gained: nothing at 0, else the line of the error
abbrev pub Ends : Result (Unit {0}) CommandError → ℕ → Device → Device → Type 0
Ends (Ok u) status err err_now = (status ≡ 0) × (err_now ≡ err)
Ends (Err error) status err err_now = IsReported error status err err_now

-- a call, with what its devices show before it and after it
pub record IsAnswer (words : List (List ℕ)) (before after : World) (err err_now : Device) (status : ℕ) : Type 0 where
  pub done : Result (Unit {0}) CommandError
  pub runs : Runs words before after done
  pub ends : Ends done status err err_now

-- the input has these documents and no fault
abbrev pub HasAll : World → List Json → Type 0
HasAll before documents = (input : List ℕ) × (before.input.bytes ≡ Some input) × HasDocuments input documents at_end

-- the command has nothing to refuse in what it is handed: a file that is written has a free name, and no footer with a
-- group of it is too long; a file that is read is there, and violates no rule
abbrev pub IsAdmitted : Command → World → Type 0
IsAdmitted (prints stream) before = (documents : List Json) × HasAll before documents
IsAdmitted (loads load) before =
    (documents : List Json) × HasAll before documents × (files : Files) × (before.shelf.files ≡ Some files) × (get files load.out ≡ None) × (bytes : List ℕ) × (made (format load) (rows_of documents) ≡ Ok bytes)
IsAdmitted (queries query) before = IsAnswerable query (readout_in before)
IsAdmitted (checks check) before = IsJudgeable check (readout_in before)

-- a device failed that the command uses
abbrev pub HasFailed : Command → World → World → Type 0
HasFailed (prints stream) before after = Fails before.input after.input ⊎ Fails before.out after.out
HasFailed (loads load) before after = Fails before.input after.input ⊎ FailsWrite before.shelf.counts after.shelf.counts
HasFailed (queries query) before after = HasFault (readout_in before) (readout_in after)
HasFailed (checks check) before after = HasFault (readout_in before) (readout_in after)

-- admitted input and no fault of a device give 0, or no memory
abbrev pub Completes : List (List ℕ) → World → World → ℕ → Type 0
Completes words before after status = (command : Command) → AskFor words command → IsAdmitted command before → (HasFailed command before after → ⊥) → (status ≡ 0) ⊎ (status ≡ 7)

-- a command that writes no file leaves all files as they were, however it ends
abbrev pub KeepsFiles : List (List ℕ) → World → World → Type 0
KeepsFiles words before after = (command : Command) → AskFor words command → (WritesFile command → ⊥) → after.shelf.files ≡ before.shelf.files
