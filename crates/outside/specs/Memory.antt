-- What a source and a sink in memory show.
use Rattle.std.specs.Prelude.{◌≡◌, ◌↔◌, ℕ, ◌+◌, ◌-◌, ◌≤◌, ◌^◌, min, List, Contains, Some}
use Rattle.outside.specs.Devices.{Device}

-- which calls fail, how many calls there were, and how many of them failed; a count that stands at 2^64 - 1 stays there
pub record Plan : Type 0 where
  pub failing : List ℕ
  pub calls : ℕ
  pub faults : ℕ

-- one more call, which failed exactly if its number, counted from 0, is a failing one
pub record Turns (before after : Plan) (failed : Type 0) : Type 0 where
  pub failing : after.failing ≡ before.failing
  pub calls : after.calls ≡ min (before.calls + 1) (2 ^ 64 - 1)
  pub exact : failed ↔ Contains before.failing before.calls
  pub later : before.faults ≤ after.faults
  pub rose : failed → after.faults ≡ min (before.faults + 1) (2 ^ 64 - 1)
  pub steady : (failed → ⊥) → after.faults ≡ before.faults

-- a source in memory: what is left, and the greatest number of bytes that a call gives
pub record Given : Type 0 where
  pub left : List ℕ
  pub piece : ℕ
  pub plan : Plan

-- a sink in memory: what was written, and the greatest number of bytes that a call takes
pub record Taken : Type 0 where
  pub written : List ℕ
  pub piece : ℕ
  pub plan : Plan

-- both tell their bytes, and the faults that were planned
abbrev pub source_device : Given → Device
source_device s = record { bytes = Some s.left; faults = s.plan.faults }

abbrev pub sink_device : Taken → Device
sink_device s = record { bytes = Some s.written; faults = s.plan.faults }
