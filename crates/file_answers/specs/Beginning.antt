-- How a call begins that reads one file and prints, and what it leaves where it can't.
use Rattle.std.specs.Prelude.{◌≡◌, ◌⊎◌, ℕ, List, Result, Ok, Err}
use Rattle.outside.specs.Devices.{Device, Fails}
use Rattle.shelf.specs.Storage.{Storage, FailsRead}
use Rattle.thrift_footer.specs.Opening as opening
use Rattle.thrift_footer.specs.Opening.{IsFile, IsMissing, IsUnopened, opening_ranges}
use Rattle.thrift_footer.specs.declared.opening.OpenFault.{OpenFault}
use Rattle.thrift_footer.specs.declared.opening.OpenFault.TheVariants as fault
use Rattle.file_columns.specs.Views.{shown}
use Rattle.store_file.specs.Beginning.{beginning, Begins, IsUsable}
use Rattle.store_file.specs.declared.file_faults.Place.TheVariants as place
use Rattle.store_file.specs.declared.file_faults.Violation.{Violation}
use Rattle.store_file.specs.declared.store_file.StoreFile.{StoreFile}
use Rattle.file_answers.specs.declared.file_error.FileError.{FileError}
use Rattle.file_answers.specs.declared.file_error.FileError.TheVariants.{Absent, Violated, ReadFault, WriteFault, NoMemory}

-- what the call is handed
pub record Readout : Type 0 where
  pub shelf : Storage
  pub out : Device

abbrev pub readout : Storage → Device → Readout
readout shelf out = record { shelf = shelf; out = out }

-- the file wasn't opened, or the column wasn't found in it
pub record IsUnbegun (name column : List ℕ) (why : OpenFault) (before after : Storage) : Type 0 where
  pub asks : opening.Asks {A = StoreFile} before after name (opening_ranges name) (Err why)
  pub of_file : (bytes : List ℕ) → IsFile before.files name bytes → Begins (beginning bytes column) (Err why)
  pub missing : IsMissing before.files name → IsUnopened {A = StoreFile} before after (Err why)

-- opening, or the search for the column, found what the file violates as a whole
pub record IsRefused (name column : List ℕ) (violation : Violation) (before after : Storage) : Type 0 where
  pub whole : violation.place ≡ place.File
  pub unbegun : IsUnbegun name column (fault.Refused violation.rule) before after

-- the file is what its bytes say, and the column is that of the name
abbrev pub IsOf : List ℕ → List ℕ → StoreFile → Type 0
IsOf column bytes file = beginning bytes column ≡ Ok (file.opened, shown file.column)

-- the file was begun: opening asked for its ranges, and nothing else changed
pub record IsBegun (name column : List ℕ) (file : StoreFile) (before after : Storage) : Type 0 where
  pub asks : opening.Asks before after name (opening_ranges name) (Ok file)
  pub of_file : (bytes : List ℕ) → IsFile before.files name bytes → IsOf column bytes file
  pub missing : IsMissing before.files name → IsUnopened before after (Ok file)
  pub is_named : file.name ≡ name
  pub usable : IsUsable file

-- how the beginning ends
abbrev pub BeginsFile : List ℕ → List ℕ → Storage → Storage → Result StoreFile FileError → Type 0
BeginsFile name column before after (Ok file) = IsBegun name column file before after
BeginsFile name column before after (Err Absent) = IsUnbegun name column fault.Absent before after
BeginsFile name column before after (Err (Violated violation)) = IsRefused name column violation before after
BeginsFile name column before after (Err ReadFault) = IsUnbegun name column fault.Failed before after
BeginsFile name column before after (Err WriteFault) = ⊥
BeginsFile name column before after (Err NoMemory) = IsUnbegun name column fault.NoMemory before after

-- nothing was printed
pub record IsSilent (Leaves : Storage → Storage → Type 0) (before after : Readout) : Type 0 where
  pub leaves : Leaves before.shelf after.shelf
  pub same_out : after.out ≡ before.out

-- what opening, or the search for the column, finds in the bytes of a file
pub record IsWrongAtFirst (column bytes : List ℕ) (violation : Violation) : Type 0 where
  pub whole : violation.place ≡ place.File
  pub wrong : beginning bytes column ≡ Err violation.rule

-- a device failed
abbrev pub HasFault : Readout → Readout → Type 0
HasFault before after = FailsRead before.shelf.counts after.shelf.counts ⊎ Fails before.out after.out
