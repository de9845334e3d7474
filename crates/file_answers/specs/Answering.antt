-- What a query of a file leaves: what was printed, what was read and which device failed, by how it ends.
use Rattle.std.specs.Prelude.{◌⊎◌, ℕ, List, Result, Ok, Err}
use Rattle.shelf.specs.Storage.{Storage}
use Rattle.thrift_footer.specs.Opening.{IsFile}
use Rattle.thrift_footer.specs.declared.opening.OpenFault.{OpenFault}
use Rattle.thrift_footer.specs.declared.opening.OpenFault.TheVariants as fault
use Rattle.command_parsing.specs.Commands.{FileQuery}
use Rattle.store_file.specs.FileCalls.{AsksGroups, Answers, CountsWrites}
use Rattle.store_file.specs.declared.file_faults.QueryFault.{QueryFault}
use Rattle.store_file.specs.declared.file_faults.QueryFault.TheVariants as stop
use Rattle.store_file.specs.declared.store_file.StoreFile.{StoreFile}
use Rattle.file_answers.specs.Beginning.{Readout, IsUnbegun, IsBegun, IsRefused, IsSilent}
use Rattle.file_answers.specs.declared.file_error.FileError.{FileError}
use Rattle.file_answers.specs.declared.file_error.FileError.TheVariants.{Absent, Violated, ReadFault, WriteFault, NoMemory}

-- the file was begun, and the query over its groups ended so
pub record IsAnswered (query : FileQuery) (done : Result (Unit {0}) QueryFault) (before after : Readout) : Type 0 where
  pub file : StoreFile
  pub between : Storage
  pub begun : IsBegun query.file query.column file before.shelf between
  pub asks : AsksGroups file query.asked between after.shelf done
  pub answers : (bytes : List ℕ) → IsFile before.shelf.files query.file bytes → Answers file query.asked bytes between after.shelf before.out.bytes after.out.bytes done
  pub counts : CountsWrites before.out after.out done

-- it wasn't begun, and nothing was printed
abbrev pub NotBegun : FileQuery → OpenFault → Readout → Readout → Type 0
NotBegun query why = IsSilent (IsUnbegun query.file query.column why)

abbrev pub AnswersQuery : FileQuery → Readout → Readout → Result (Unit {0}) FileError → Type 0
AnswersQuery query before after (Ok u) = IsAnswered query (Ok u) before after
AnswersQuery query before after (Err Absent) = NotBegun query fault.Absent before after
AnswersQuery query before after (Err (Violated violation)) = IsSilent (IsRefused query.file query.column violation) before after ⊎ IsAnswered query (Err (stop.Refused violation)) before after
AnswersQuery query before after (Err ReadFault) = NotBegun query fault.Failed before after ⊎ IsAnswered query (Err stop.ReadFault) before after
AnswersQuery query before after (Err WriteFault) = IsAnswered query (Err stop.WriteFault) before after
AnswersQuery query before after (Err NoMemory) = NotBegun query fault.NoMemory before after ⊎ IsAnswered query (Err stop.NoMemory) before after

-- why the groups weren't read to their end, as why the call was refused
abbrev pub error_of : QueryFault → FileError
error_of (stop.Refused violation) = Violated violation
error_of stop.ReadFault = ReadFault
error_of stop.WriteFault = WriteFault
error_of stop.NoMemory = NoMemory

abbrev pub query_end : Result (Unit {0}) QueryFault → Result (Unit {0}) FileError
query_end (Ok u) = Ok u
query_end (Err why) = Err (error_of why)
