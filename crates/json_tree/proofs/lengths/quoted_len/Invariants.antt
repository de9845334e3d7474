use Rattle.std.proofs.Common.{◌≡◌, ◌+◌, ◌-◌, ◌≤◌, ◌^◌, length, drop, min, flat_map}
use Rattle.json_tree.specs.Text.{escaped, quoted}
use Rattle.json_tree.proofs.lengths.quoted_len.Given as goal

abbrev pub invariant-loop-byte : goal.invariant-loop-byte
invariant-loop-byte l = record {
  within : l.len ≤ 2 ^ 64 - 1;
  len : min (l.len + length (flat_map escaped (drop l.byte-index l.text))) (2 ^ 64 - 1) ≡ min (length (quoted l.text)) (2 ^ 64 - 1);
}
