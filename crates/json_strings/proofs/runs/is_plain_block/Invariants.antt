use Rattle.std.proofs.Common.{◌≡◌, ℕ, ◌<◌, true, get_or}
use Rattle.json_strings.specs.Reading.{is_plain}
use Rattle.json_strings.proofs.runs.is_plain_block.Given as goal

abbrev pub invariant-loop-byte : goal.invariant-loop-byte
invariant-loop-byte l = l.plain ≡ true → (k : ℕ) → k < l.byte-index → is_plain (get_or l.block k 0) ≡ true
