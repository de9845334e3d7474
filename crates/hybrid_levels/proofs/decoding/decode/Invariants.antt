use Rattle.std.proofs.Common.{◌≤◌, ◌-◌, length, take}
use Rattle.hybrid_levels.proofs.Ahead.{Ahead}
use Rattle.hybrid_levels.proofs.decoding.decode.Given as goal

abbrev pub invariant-loop-filled : goal.invariant-loop-filled
invariant-loop-filled l = record {
  ahead : Ahead l.width (length l.initial.into) l.bytes l.at l.filled (take l.filled l.into);
  inside : l.at ≤ length l.bytes;
  within : l.filled ≤ length l.initial.into;
}

abbrev pub decreases-loop-filled : goal.decreases-loop-filled
decreases-loop-filled l = length l.bytes - l.at
