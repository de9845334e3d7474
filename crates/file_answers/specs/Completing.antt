-- When a call on a file has nothing to refuse: the file is there, and what the call reads of it violates no rule.
use Rattle.std.specs.Prelude.{◌≡◌, ◌⊎◌, ℕ, List, Some, Result, Ok, Err}
use Rattle.thrift_footer.specs.Opening.{IsFile}
use Rattle.command_parsing.specs.Commands.{FileQuery}
use Rattle.command_words.specs.Check.{CheckGiven}
use Rattle.store_file.specs.Beginning.{IsUsable}
use Rattle.store_file.specs.FileCalls.{lines_seen, rows_seen}
use Rattle.store_file.specs.declared.file_faults.Violation.{Violation}
use Rattle.store_file.specs.declared.store_file.StoreFile.{StoreFile}
use Rattle.file_answers.specs.Beginning.{Readout, IsOf, IsWrongAtFirst}
use Rattle.file_answers.specs.declared.file_error.FileError.{FileError}
use Rattle.file_answers.specs.declared.file_error.FileError.TheVariants.{NoMemory}

-- the first violation that a query meets in the groups of a file, of which it reads the leaves that it needs
pub record MeetsViolation (query : FileQuery) (bytes : List ℕ) (violation : Violation) : Type 0 where
  pub file : StoreFile
  pub usable : IsUsable file
  pub is_of : IsOf query.column bytes file
  pub met : (lines_seen file query.asked bytes).stop ≡ Some violation

-- the first violation in all groups of a file
pub record HasViolation (check : CheckGiven) (bytes : List ℕ) (violation : Violation) : Type 0 where
  pub file : StoreFile
  pub usable : IsUsable file
  pub is_of : IsOf check.column bytes file
  pub met : (rows_seen file bytes).stop ≡ Some violation

-- what the file violates first, where a query reads it, or a check
abbrev pub QueryViolates : FileQuery → List ℕ → Violation → Type 0
QueryViolates query bytes violation = IsWrongAtFirst query.column bytes violation ⊎ MeetsViolation query bytes violation

abbrev pub CheckViolates : CheckGiven → List ℕ → Violation → Type 0
CheckViolates check bytes violation = IsWrongAtFirst check.column bytes violation ⊎ HasViolation check bytes violation

pub record IsAnswerable (query : FileQuery) (before : Readout) : Type 0 where
  pub bytes : List ℕ
  pub there : IsFile before.shelf.files query.file bytes
  pub sound : (violation : Violation) → QueryViolates query bytes violation → ⊥

pub record IsJudgeable (check : CheckGiven) (before : Readout) : Type 0 where
  pub bytes : List ℕ
  pub there : IsFile before.shelf.files check.file bytes
  pub sound : (violation : Violation) → CheckViolates check bytes violation → ⊥

-- the call did its work, or there was no memory
abbrev pub IsDone : Result (Unit {0}) FileError → Type 0
IsDone done = (done ≡ Ok tt) ⊎ (done ≡ Err NoMemory)
