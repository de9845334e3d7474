use Rattle.std.proofs.Common.{length, take, ◌-◌, ◌≤◌}
use Rattle.std.specs.Io.KnownBytes.{Appends}
use Rattle.outside.specs.Devices.{IsCalm}
use Rattle.outside.proofs.sink.write_all.Given as goal

abbrev pub invariant-loop-done : goal.invariant-loop-done
invariant-loop-done g l = record {
  within : l.done ≤ length l.bytes;
  written : Appends (g.K.Sink.seen l.initial.sink).bytes (g.K.Sink.seen l.sink).bytes (take l.done l.bytes);
  calm : IsCalm (g.K.Sink.seen l.initial.sink) (g.K.Sink.seen l.sink);
}

abbrev pub decreases-loop-done : goal.decreases-loop-done
decreases-loop-done g l = length l.bytes - l.done
