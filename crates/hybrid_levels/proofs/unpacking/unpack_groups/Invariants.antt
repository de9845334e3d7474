use Rattle.std.proofs.Common.{◌≡◌, ◌≤◌, ◌+◌, ◌-◌, ◌*◌, ◌/◌, ◌++◌, length, take, drop}
use Rattle.vs_bytes.specs.PackedNumbers.{unpacked, little}
use Rattle.hybrid_levels.proofs.unpacking.unpack_groups.Given as goal

-- the numbers in front, then those of the groups that are left
abbrev pub invariant-loop-filled : goal.invariant-loop-filled
invariant-loop-filled l = record {
  numbers : take l.filled l.into ++ unpacked l.width (length l.initial.into - l.filled) (little (drop l.at l.bytes)) ≡ unpacked l.width (length l.initial.into) (little l.bytes);
  there : l.at + (length l.initial.into - l.filled + 7) / 8 * l.width ≤ length l.bytes;
  within : l.filled ≤ length l.initial.into;
}

abbrev pub decreases-loop-filled : goal.decreases-loop-filled
decreases-loop-filled l = length l.initial.into - l.filled
