-- Output that is gathered before it is written.
use Rattle.std.specs.Prelude.{ℕ, List, ◌++◌, Result, Ok, Err}
use Rattle.std.specs.Io.KnownBytes.{Appends, append_known}
use Rattle.outside.specs.Devices.{Device, IsCalm, Extends, AppendsPrefix}
use Rattle.outside.specs.Calls.{Broke}
use Rattle.outside.specs.declared.sink.SinkError.{SinkError}

-- a sink, and the bytes that are still to be written to it
pub record Output : Type 0 where
  pub device : Device
  pub pending : List ℕ

abbrev pub output_of : Device → List ℕ → Output
output_of device pending = record { device = device; pending = pending }

-- the output gained some bytes: what was pending and they are written, or pending now
pub record Sends (a b : Output) (bytes : List ℕ) : Type 0 where
  pub gathers : Appends a.device.bytes (append_known b.device.bytes b.pending) (a.pending ++ bytes)
  pub extends : Extends a.device.bytes b.device.bytes
  pub calm : IsCalm a.device b.device

-- a write was refused: a prefix of what was pending and of these bytes was written
pub record Breaks (a b : Output) (bytes : List ℕ) (fault : SinkError) : Type 0 where
  pub part : AppendsPrefix a.device.bytes b.device.bytes (a.pending ++ bytes)
  pub broke : Broke a.device b.device fault

-- by the answer of a call that puts some bytes out
abbrev pub Puts : Output → Output → List ℕ → Result (Unit {0}) SinkError → Type 0
Puts a b bytes (Ok _) = Sends a b bytes
Puts a b bytes (Err fault) = Breaks a b bytes fault

-- so many bytes are gathered before they are written
abbrev pub piece_size : ℕ
piece_size = 65536
