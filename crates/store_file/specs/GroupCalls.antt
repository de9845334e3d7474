-- What is read of one group of a file.
use Rattle.std.specs.Prelude.{◌≡◌, ℕ, Bool, List, length, Option, Result, Ok, Err}
use Rattle.json_tree.specs.Json.{Json}
use Rattle.vs_bytes.specs.declared.refused.Refused.{Refused}
use Rattle.vs_bytes.specs.declared.refused.Refused.TheVariants.{Fault, NoMemory}
use Rattle.footer_structs.specs.declared.row_groups.GroupMeta.{GroupMeta}
use Rattle.group_reading.specs.declared.group_faults.GroupFault.{GroupFault}
use Rattle.group_reading.specs.declared.group_rows.GroupRows.{GroupRows}
use Rattle.shelf.specs.Storage.{Storage}
use Rattle.store_read.specs.GroupRead.{Begins}
use Rattle.store_read.specs.Ranges.{Gives, Refuses, AsksFirst, FailsAt}
use Rattle.store_read.specs.declared.read_stop.ReadStop.{ReadStop}
use Rattle.store_read.specs.declared.read_stop.ReadStop.TheVariants as stop
use Rattle.store_file.specs.FileCalls.{chunks_in, group_rows}
use Rattle.store_file.specs.declared.file_faults.Violation.{Violation}
use Rattle.store_file.specs.declared.store_file.StoreFile.{StoreFile}

-- a group's chunks were read under a mask, and its rows are still to come; or why not
abbrev pub OpensGroup : StoreFile → List Bool → Storage → Storage → ℕ → GroupMeta → Result GroupRows (ReadStop Violation) → Type 0
OpensGroup f mask before after k g (Ok rows) = Begins before after f.name mask f.opened.end f.column g rows
OpensGroup f mask before after k g (Err (stop.Violated violation)) = Refuses before after f.name (chunks_in f mask g) (λ file. group_rows f mask file k g ≡ Err violation)
OpensGroup f mask before after k g (Err stop.Failed) = FailsAt before after (chunks_in f mask g)
OpensGroup f mask before after k g (Err stop.NoMemory) = AsksFirst before after (chunks_in f mask g)

-- so many rows
pub record HasRows {F : Type 0} (found : Result (List (Option Json)) F) (count : ℕ) : Type 0 where
  pub rows : List (Option Json)
  pub valid : found ≡ Ok rows
  pub counted : count ≡ length rows

-- rows that are counted
abbrev pub CountsRows : Result (List (Option Json)) GroupFault → Result ℕ (Refused GroupFault) → Type 0
CountsRows found (Ok count) = HasRows found count
CountsRows found (Err (Fault fault)) = found ≡ Err fault
CountsRows found (Err NoMemory) = Unit {0}

-- the rows of a group, counted where all leaves are read
abbrev pub CountsGroup : StoreFile → Storage → Storage → ℕ → GroupMeta → Result ℕ (ReadStop Violation) → Type 0
CountsGroup f before after k g (Ok count) = Gives before after f.name (chunks_in f f.mask g) (λ file. HasRows (group_rows f f.mask file k g) count)
CountsGroup f before after k g (Err (stop.Violated violation)) = Refuses before after f.name (chunks_in f f.mask g) (λ file. group_rows f f.mask file k g ≡ Err violation)
CountsGroup f before after k g (Err stop.Failed) = FailsAt before after (chunks_in f f.mask g)
CountsGroup f before after k g (Err stop.NoMemory) = AsksFirst before after (chunks_in f f.mask g)
