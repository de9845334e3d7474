-- What a call reads of a file, and what it leaves of the shelf, by cases on its answer. Ranges are asked for in the order
-- of a plan.
use Rattle.std.specs.Prelude.{◌≡◌, ℕ, List, [], ◌∷◌, ◌++◌, ◌⊎◌, length, Option, None, Some, Result, Ok, Err}
use Rattle.std.specs.FinMap.{get}
use Rattle.shelf.specs.Storage.{Files, Storage, Shows, FailsRead}
use Rattle.shelf.specs.Calls.{IsCounted, with_range, with_ranges}
use Rattle.shelf.specs.declared.byte_range.ByteRange.{ByteRange}
use Rattle.store_read.specs.declared.fetching.FetchError.{FetchError}
use Rattle.store_read.specs.declared.fetching.FetchError.TheVariants as fetch
use Rattle.store_read.specs.declared.read_stop.ReadStop.{ReadStop}
use Rattle.store_read.specs.declared.read_stop.ReadStop.TheVariants.{Violated, Failed, NoMemory}

-- the file has these bytes. Where files aren't known, none has
abbrev pub IsFile : Option Files → List ℕ → List ℕ → Type 0
IsFile None name file = ⊥
IsFile (Some m) name file = get m name ≡ Some file

-- what holds of the bytes of the file, where they are known
abbrev pub OfFile : Storage → List ℕ → (List ℕ → Type 0) → Type 0
OfFile s name P = (file : List ℕ) → IsFile s.files name file → P file

-- One range.

abbrev pub Fetches : Storage → Storage → ByteRange → Result (List ℕ) FetchError → Type 0
Fetches before after range (Ok bytes) = Shows before.files range.name range.at bytes × (length bytes ≡ range.size) × (after ≡ with_range before range)
Fetches before after range (Err fetch.Failed) = FailsRead before.counts after.counts × IsCounted (with_range before range) after
Fetches before after range (Err fetch.NoMemory) = (after ≡ before) ⊎ (after ≡ with_range before range)

-- The ranges of a plan.

-- all of them were asked for, and nothing else changed
pub record Asks (before after : Storage) (plan : List ByteRange) : Type 0 where
  pub asked : after ≡ with_ranges before plan

-- the first of them
pub record AsksFirst (before after : Storage) (plan : List ByteRange) : Type 0 where
  pub front : List ByteRange
  pub rest : List ByteRange
  pub planned : front ++ rest ≡ plan
  pub asked : after ≡ with_ranges before front

-- the first of them, and the read of the last of these failed
pub record FailsAt (before after : Storage) (plan : List ByteRange) : Type 0 where
  pub front : List ByteRange
  pub last : ByteRange
  pub rest : List ByteRange
  pub planned : front ++ last ∷ rest ≡ plan
  pub failed : FailsRead before.counts after.counts
  pub asked : IsCounted (with_ranges before (front ++ last ∷ [])) after

-- What is read of the file `name`, where `defined` says what its bytes give: the value, seen through `view`, or what the
-- file violates. A shelf that fails, or no memory, says nothing of that.

pub record Gives (before after : Storage) (name : List ℕ) (plan : List ByteRange) (P : List ℕ → Type 0) : Type 0 where
  pub of_file : OfFile before name P
  pub asks : Asks before after plan

pub record Refuses (before after : Storage) (name : List ℕ) (plan : List ByteRange) (P : List ℕ → Type 0) : Type 0 where
  pub of_file : OfFile before name P
  pub asks : AsksFirst before after plan

abbrev pub ReadsFile : {A B F : Type 0} → (A → B) → Storage → Storage → List ℕ → List ByteRange → (List ℕ → Result B F) → Result A (ReadStop F) → Type 0
ReadsFile view before after name plan defined (Ok a) = Gives before after name plan (λ file. defined file ≡ Ok (view a))
ReadsFile view before after name plan defined (Err (Violated fault)) = Refuses before after name plan (λ file. defined file ≡ Err fault)
ReadsFile view before after name plan defined (Err Failed) = FailsAt before after plan
ReadsFile view before after name plan defined (Err NoMemory) = AsksFirst before after plan
