use Rattle.std.proofs.Common.{◌≡◌, ◌+◌, ◌-◌, ◌*◌, ◌/◌, ◌++◌, length, drop, map}
use Rattle.vs_bytes.specs.Outcome.{Grows}
use Rattle.vs_bytes.specs.PackedNumbers.{unpacked, packed}
use Rattle.plain_values.specs.Written.{bit}
use Rattle.plain_values.proofs.encoding.append_booleans.Given as goal

-- the bytes that were appended, then those of the cells that are left
abbrev pub invariant-loop-i : goal.invariant-loop-i
invariant-loop-i l = record {
  bytes : l.into.items ++ unpacked 8 ((length l.cells + 7) / 8 - l.i) (packed 1 (map bit (drop (8 * l.i) l.cells))) ≡ l.fn.into.items ++ unpacked 8 ((length l.cells + 7) / 8) (packed 1 (map bit l.cells));
  grows : Grows l.fn.into.items l.into.items;
}
