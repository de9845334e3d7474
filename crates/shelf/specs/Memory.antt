-- What a shelf in memory shows: all of its files.
use Rattle.std.specs.Prelude.{◌≡◌, ℕ, ◌+◌, ◌-◌, ◌<◌, ◌≤◌, ◌^◌, min, List, map, length, take, Some, Result, Ok, Err, Contains}
use Rattle.std.specs.FinMap.{from_entries, get}
use Rattle.std.specs.Global.{Vec}
use Rattle.std.specs.BTreeMap.{BTreeMap}
use Rattle.shelf.specs.Storage.{Files, Storage, appended, absence_more, clash_more}
use Rattle.shelf.specs.declared.call_plan.CallPlan.{CallPlan}
use Rattle.shelf.specs.declared.memory.MemShelf.{MemShelf}
use Rattle.shelf.specs.declared.shelf.ShelfError.{ShelfError}
use Rattle.shelf.specs.declared.shelf.ShelfError.TheVariants.{Absent, Taken, Failed, NoMemory}
use Rattle.shelf.specs.declared.tally.Counts.{Counts}

-- the files of a map
abbrev pub shown : BTreeMap (List ℕ) (Vec ℕ) → Files
shown m = from_entries (map (λ e. (e.0, e.1.items)) m.entries)

abbrev pub mem_files : MemShelf → Files
mem_files s = shown s.files

abbrev pub mem_storage : MemShelf → Storage
mem_storage s = record { files = Some (mem_files s); touched = s.touched; counts = s.counts }

-- which calls fail, by their numbers counted from 0, and how many there were
abbrev pub plan_of : MemShelf → CallPlan
plan_of s = s.plan

-- the next call is to fail
abbrev pub IsPlanned : CallPlan → Type 0
IsPlanned plan = Contains plan.failing.items plan.calls

-- one more call; a count that stands at 2^64 - 1 stays there
pub record Turns (before after : CallPlan) : Type 0 where
  pub failing : after.failing ≡ before.failing
  pub calls : after.calls ≡ min (before.calls + 1) (2 ^ 64 - 1)

-- no file of this name has all bytes of the range
abbrev pub IsOutside : Files → List ℕ → ℕ → ℕ → Type 0
IsOutside m name at size = (bytes : List ℕ) → get m name ≡ Some bytes → length bytes < at + size

-- the files with the first of some bytes at the end of one
pub record GainsPrefix (m n : Files) (name bytes : List ℕ) : Type 0 where
  pub count : ℕ
  pub within : count ≤ length bytes
  pub gained : Some n ≡ appended (Some m) name (take count bytes)

-- The counts after a call, by its answer: a refusal raises its own count by one, and no other answer raises any. A call
-- that fails is a read fault or a write fault, by its kind.
abbrev pub counts_past : {A : Type 0} → (Counts → Counts) → Counts → Result A ShelfError → Counts
counts_past failed counts (Ok a) = counts
counts_past failed counts (Err Absent) = absence_more counts
counts_past failed counts (Err Taken) = clash_more counts
counts_past failed counts (Err Failed) = failed counts
counts_past failed counts (Err NoMemory) = counts
