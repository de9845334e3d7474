use Rattle.std.proofs.Common.{◌≡◌, ◌<◌, ◌+◌, ◌*◌, ◌^◌, ◌-◌, ◌++◌, length, take, drop}
use Rattle.vs_bytes.specs.PackedNumbers.{unpacked, packed}
use Rattle.hybrid_levels.proofs.packing.pack.Given as goal

-- the bytes in front, then those of the bits and the numbers that are left
abbrev pub invariant-loop-i : goal.invariant-loop-i
invariant-loop-i l = record {
  bytes : take l.i l.into ++ unpacked 8 (length l.initial.into - l.i) (l.waiting.bits + 2 ^ l.waiting.have * packed l.width (drop l.waiting.next l.numbers)) ≡ unpacked 8 (length l.initial.into) (packed l.width l.numbers);
  small : l.waiting.bits < 2 ^ l.waiting.have;
  few : l.waiting.have < 40;
}
