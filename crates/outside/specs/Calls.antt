-- What a call of a device leaves, by cases on its answer: contents and counts, before and after.
use Rattle.std.specs.Prelude.{◌≡◌, ℕ, ◌<◌, ◌≤◌, List, length, take, Result, Ok, Err}
use Rattle.std.specs.Io.KnownBytes.{Appends, Consumes, IsAtEnd, Keeps}
use Rattle.outside.specs.Devices.{Device, IsCalm, Fails, AppendsPart}
use Rattle.outside.specs.declared.source.SourceError.{SourceError}
use Rattle.outside.specs.declared.source.SourceError.TheVariants as source
use Rattle.outside.specs.declared.sink.SinkError.{SinkError}
use Rattle.outside.specs.declared.sink.SinkError.TheVariants as sink

-- the source gave its first `count` bytes, and none only at its end
pub record GivesBytes (before after : Device) (into : List ℕ) (count : ℕ) : Type 0 where
  pub within : count ≤ length into
  pub size : count ≡ length (take count into)
  pub taken : Consumes before.bytes after.bytes (take count into)
  pub end : count ≡ 0 → IsAtEnd after.bytes
  pub calm : IsCalm before after

-- a read, after which `into` holds what was read
abbrev pub Reads : Device → Device → List ℕ → Result ℕ SourceError → Type 0
Reads before after into (Ok count) = GivesBytes before after into count
Reads before after into (Err source.Failed) = Keeps before.bytes after.bytes × Fails before after

-- the sink took the first `count` bytes, at least one
pub record TakesBytes (before after : Device) (bytes : List ℕ) (count : ℕ) : Type 0 where
  pub some : 0 < count
  pub within : count ≤ length bytes
  pub added : Appends before.bytes after.bytes (take count bytes)
  pub calm : IsCalm before after

-- why a write was refused: the device failed, or there was no memory and it didn't
abbrev pub Broke : Device → Device → SinkError → Type 0
Broke before after sink.Failed = Fails before after
Broke before after sink.NoMemory = IsCalm before after

-- a write of some bytes
abbrev pub Writes : Device → Device → List ℕ → Result ℕ SinkError → Type 0
Writes before after bytes (Ok count) = TakesBytes before after bytes count
Writes before after bytes (Err fault) = Keeps before.bytes after.bytes × Broke before after fault

-- a write of all of some bytes, after whose refusal a part of them was written
abbrev pub WritesAll : Device → Device → List ℕ → Result (Unit {0}) SinkError → Type 0
WritesAll before after bytes (Ok _) = Appends before.bytes after.bytes bytes × IsCalm before after
WritesAll before after bytes (Err fault) = AppendsPart before.bytes after.bytes bytes × Broke before after fault
