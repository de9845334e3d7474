use Rattle.std.proofs.Common.{◌≡◌, ◌≤◌, length, drop, map}
use Rattle.vs_bytes.specs.PackedNumbers.{packed}
use Rattle.plain_values.specs.Written.{bit}
use Rattle.plain_values.proofs.encoding.byte_of.Given as goal

abbrev pub invariant-loop-i : goal.invariant-loop-i
invariant-loop-i l = record {
  bits : l.byte ≡ packed 1 (map bit (drop l.i l.cells));
  within : l.i ≤ length l.cells;
}

abbrev pub decreases-loop-i : goal.decreases-loop-i
decreases-loop-i l = l.i
