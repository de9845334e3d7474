-- What a shelf shows: its files, where they are known, the ranges that were asked for, and how often each kind of refusal came.
use Rattle.std.specs.Prelude.{◌≡◌, ℕ, ◌+◌, ◌-◌, ◌^◌, ◌≤◌, min, List, [], ◌++◌, Option, Some, None, length, unwrap_or, IsSome}
use Rattle.std.specs.Option.{option_map}
use Rattle.std.specs.FinMap.{FinMap, get, insert}
use Rattle.std.specs.Cmp.Lexicographic.{slice_cmp}
use Rattle.std.specs.Ordering.{nat_cmp}
use Rattle.vs_bytes.specs.Numbers.{part}
use Rattle.outside.specs.Devices.{Rose}
use Rattle.shelf.specs.declared.tally.Counts.{Counts}
use Rattle.shelf.specs.declared.byte_range.ByteRange.{ByteRange}

-- the bytes of each file, by its name
abbrev pub Files : Type 0
Files = FinMap (slice_cmp nat_cmp) (List ℕ)

-- a shelf, as its callers see it
pub record Storage : Type 0 where
  pub files : Option Files
  pub touched : List ByteRange
  pub counts : Counts

-- the files with one more, or with other bytes in one; files that aren't known stay so
abbrev pub with_file : Option Files → List ℕ → List ℕ → Option Files
with_file files name bytes = option_map (λ m. insert m name bytes) files

-- the files with bytes added at the end of one
abbrev pub appended : Option Files → List ℕ → List ℕ → Option Files
appended files name more = option_map (λ m. insert m name (unwrap_or (get m name) [] ++ more)) files

-- what holds of the files, if they are known
abbrev pub IfKnown : Option Files → (Files → Type 0) → Type 0
IfKnown None P = Unit {0}
IfKnown (Some m) P = P m

-- the file is there
abbrev pub Has : Option Files → List ℕ → Type 0
Has files name = IfKnown files (λ m. IsSome (get m name))

-- it isn't
abbrev pub Lacks : Option Files → List ℕ → Type 0
Lacks files name = IfKnown files (λ m. get m name ≡ None)

-- the file has so many bytes
abbrev pub IsLong : Option Files → List ℕ → ℕ → Type 0
IsLong files name size = IfKnown files (λ m. (bytes : List ℕ) × (get m name ≡ Some bytes) × (length bytes ≡ size))

-- these bytes stand in a file from a place on
pub record Stands (m : Files) (name : List ℕ) (at : ℕ) (bytes : List ℕ) : Type 0 where
  pub file : List ℕ
  pub there : get m name ≡ Some file
  pub within : at + length bytes ≤ length file
  pub same : bytes ≡ part file at (length bytes)

abbrev pub Shows : Option Files → List ℕ → ℕ → List ℕ → Type 0
Shows files name at bytes = IfKnown files (λ m. Stands m name at bytes)

-- a count rose; one that stands at 2^64 - 1 stays there
pub record Rises (before now : ℕ) : Type 0 where
  pub later : before ≤ now
  pub rose : Rose before now

-- a call raises one count and no other
pub record FailsRead (before after : Counts) : Type 0 where
  pub rises : Rises before.read_faults after.read_faults
  pub others : after ≡ record before { read_faults = after.read_faults }

pub record FailsWrite (before after : Counts) : Type 0 where
  pub rises : Rises before.write_faults after.write_faults
  pub others : after ≡ record before { write_faults = after.write_faults }

pub record Misses (before after : Counts) : Type 0 where
  pub rises : Rises before.absences after.absences
  pub others : after ≡ record before { absences = after.absences }

pub record Clashes (before after : Counts) : Type 0 where
  pub rises : Rises before.clashes after.clashes
  pub others : after ≡ record before { clashes = after.clashes }

-- Counts that rise by one at a time.

abbrev pub one_more : ℕ → ℕ
one_more count = min (count + 1) (2 ^ 64 - 1)

abbrev pub read_fault_more : Counts → Counts
read_fault_more c = record c { read_faults = one_more c.read_faults }

abbrev pub write_fault_more : Counts → Counts
write_fault_more c = record c { write_faults = one_more c.write_faults }

abbrev pub absence_more : Counts → Counts
absence_more c = record c { absences = one_more c.absences }

abbrev pub clash_more : Counts → Counts
clash_more c = record c { clashes = one_more c.clashes }
