-- What a source or a sink shows, and how its contents and its count of faults change.
use Rattle.std.specs.Prelude.{◌≡◌, ℕ, ◌+◌, ◌-◌, ◌≤◌, ◌<◌, ◌^◌, min, List, length, take, Option}
use Rattle.std.specs.Io.KnownBytes.{Appends}

-- the bytes that a source has left, or that were written to a sink, where they are known, and how often the device has failed
pub record Device : Type 0 where
  pub bytes : Option (List ℕ)
  pub faults : ℕ

-- the count is higher than before; one that stands at 2^64 - 1 stays there
abbrev pub Rose : ℕ → ℕ → Type 0
Rose before now = min (before + 1) (2 ^ 64 - 1) ≤ now

-- the device didn't fail
abbrev pub IsCalm : Device → Device → Type 0
IsCalm before after = after.faults ≡ before.faults

-- the device failed
pub record Fails (before after : Device) : Type 0 where
  pub later : before.faults ≤ after.faults
  pub rose : Rose before.faults after.faults

-- known bytes only grew
abbrev pub Extends : Option (List ℕ) → Option (List ℕ) → Type 0
Extends old new = (bytes : List ℕ) × Appends old new bytes

-- known bytes grew by the first k of bs, for some k
abbrev pub AppendsPrefix : Option (List ℕ) → Option (List ℕ) → List ℕ → Type 0
AppendsPrefix old new bs = (k : ℕ) × (k ≤ length bs) × Appends old new (take k bs)

-- the same by a prefix that isn't all of bs
abbrev pub AppendsPart : Option (List ℕ) → Option (List ℕ) → List ℕ → Type 0
AppendsPart old new bs = (k : ℕ) × (k < length bs) × Appends old new (take k bs)
