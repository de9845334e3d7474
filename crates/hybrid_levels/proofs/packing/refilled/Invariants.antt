use Rattle.std.proofs.Common.{◌≡◌, ◌<◌, ◌+◌, ◌*◌, ◌^◌, ◌-◌, length, drop}
use Rattle.vs_bytes.specs.PackedNumbers.{packed}
use Rattle.hybrid_levels.proofs.packing.refilled.Given as goal

abbrev pub invariant-loop-have : goal.invariant-loop-have
invariant-loop-have l = record {
  same : l.bits + 2 ^ l.have * packed l.width (drop l.next l.numbers) ≡ l.fn.waiting.bits + 2 ^ l.fn.waiting.have * packed l.width (drop l.fn.waiting.next l.numbers);
  small : l.bits < 2 ^ l.have;
  few : l.have < 40;
}

abbrev pub decreases-loop-have : goal.decreases-loop-have
decreases-loop-have l = length l.numbers - l.next
