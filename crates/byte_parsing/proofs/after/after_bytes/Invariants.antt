use Rattle.std.proofs.Common.{◌≡◌, drop}
use Rattle.byte_parsing.specs.Parse.{past_word}
use Rattle.byte_parsing.proofs.after.after_bytes.Given as goal

abbrev pub invariant-loop-byte : goal.invariant-loop-byte
invariant-loop-byte l = past_word (drop l.byte-index l.bytes) l.rest ≡ past_word l.bytes l.text
