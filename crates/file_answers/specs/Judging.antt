-- What a check of a file leaves, by how it ends.
use Rattle.std.specs.Prelude.{◌⊎◌, ℕ, List, ◌++◌, codes, decimal, Result, Ok, Err}
use Rattle.std.specs.Io.KnownBytes.{Appends}
use Rattle.outside.specs.Devices.{Device, IsCalm, Fails, AppendsPart}
use Rattle.shelf.specs.Storage.{Storage}
use Rattle.thrift_footer.specs.Opening.{IsFile}
use Rattle.thrift_footer.specs.declared.opening.OpenFault.{OpenFault}
use Rattle.thrift_footer.specs.declared.opening.OpenFault.TheVariants as fault
use Rattle.command_words.specs.Check.{CheckGiven}
use Rattle.store_file.specs.FileCalls.{JudgesGroups, Judges}
use Rattle.store_file.specs.declared.file_faults.QueryFault.{QueryFault}
use Rattle.store_file.specs.declared.file_faults.QueryFault.TheVariants as stop
use Rattle.store_file.specs.declared.store_file.StoreFile.{StoreFile}
use Rattle.file_answers.specs.Beginning.{Readout, IsUnbegun, IsBegun, IsRefused, IsSilent}
use Rattle.file_answers.specs.declared.file_error.FileError.{FileError}
use Rattle.file_answers.specs.declared.file_error.FileError.TheVariants.{Absent, Violated, ReadFault, WriteFault, NoMemory}

-- the file was begun, and its groups were judged so
pub record IsJudged (check : CheckGiven) (done : Result (ℕ × ℕ) QueryFault) (before after : Storage) : Type 0 where
  pub file : StoreFile
  pub between : Storage
  pub begun : IsBegun check.file check.column file before between
  pub asks : JudgesGroups file between after done
  pub judges : (bytes : List ℕ) → IsFile before.files check.file bytes → Judges file bytes done

-- it wasn't begun, or not read to its end; nothing was printed

abbrev pub NotBegun : CheckGiven → OpenFault → Readout → Readout → Type 0
NotBegun check why = IsSilent (IsUnbegun check.file check.column why)

abbrev pub IsStopped : CheckGiven → QueryFault → Readout → Readout → Type 0
IsStopped check why = IsSilent (IsJudged check (Err why))

-- the line of a file that violates nothing
abbrev pub count_line : ℕ → ℕ → List ℕ
count_line groups rows = codes "ok " ++ decimal groups ++ codes " groups " ++ decimal rows ++ codes " rows\n"

-- the output gained the line, or a part of it where its device failed, or where there was no memory

abbrev pub IsWhole : List ℕ → Device → Device → Type 0
IsWhole line before after = Appends before.bytes after.bytes line × IsCalm before after

abbrev pub IsBroken : List ℕ → Device → Device → Type 0
IsBroken line before after = AppendsPart before.bytes after.bytes line × Fails before after

abbrev pub IsShort : List ℕ → Device → Device → Type 0
IsShort line before after = AppendsPart before.bytes after.bytes line × IsCalm before after

abbrev pub PrintsLine : List ℕ → Device → Device → Result (Unit {0}) FileError → Type 0
PrintsLine line before after (Ok u) = IsWhole line before after
PrintsLine line before after (Err Absent) = ⊥
PrintsLine line before after (Err (Violated violation)) = ⊥
PrintsLine line before after (Err ReadFault) = ⊥
PrintsLine line before after (Err WriteFault) = IsBroken line before after
PrintsLine line before after (Err NoMemory) = IsShort line before after

-- the file violates nothing, and the line of its counts was printed so
pub record IsCounted (Prints : List ℕ → Device → Device → Type 0) (check : CheckGiven) (before after : Readout) : Type 0 where
  pub groups : ℕ
  pub rows : ℕ
  pub judged : IsJudged check (Ok (groups, rows)) before.shelf after.shelf
  pub prints : Prints (count_line groups rows) before.out after.out

abbrev pub JudgesFile : CheckGiven → Readout → Readout → Result (Unit {0}) FileError → Type 0
JudgesFile check before after (Ok u) = IsCounted IsWhole check before after
JudgesFile check before after (Err Absent) = NotBegun check fault.Absent before after
JudgesFile check before after (Err (Violated violation)) = IsSilent (IsRefused check.file check.column violation) before after ⊎ IsStopped check (stop.Refused violation) before after
JudgesFile check before after (Err ReadFault) = NotBegun check fault.Failed before after ⊎ IsStopped check stop.ReadFault before after
JudgesFile check before after (Err WriteFault) = IsCounted IsBroken check before after
JudgesFile check before after (Err NoMemory) = NotBegun check fault.NoMemory before after ⊎ (IsStopped check stop.NoMemory before after ⊎ IsCounted IsShort check before after)
