use Rattle.std.proofs.Common.{◌≡◌, ◌≤◌, ◌+◌, ◌*◌, ◌^◌, drop}
use Rattle.exact_num.specs.Spelling.{digits_value}
use Rattle.exact_num.proofs.significand.Significand.with_digits.Given as goal

abbrev pub invariant-loop-byte : goal.invariant-loop-byte
invariant-loop-byte l = record {
  value : digits_value (l.now.digits * 10 ^ l.now.zeros) (drop l.byte-index l.digits) ≡ digits_value (l.fn.self.digits * 10 ^ l.fn.self.zeros) l.digits;
  zeros : l.now.zeros ≤ l.fn.self.zeros + l.byte-index;
}
