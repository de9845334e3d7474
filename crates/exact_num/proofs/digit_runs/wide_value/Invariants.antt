use Rattle.std.proofs.Common.{◌≡◌, ◌<◌, ◌^◌, drop}
use Rattle.exact_num.specs.Spelling.{digits_value}
use Rattle.exact_num.proofs.digit_runs.wide_value.Given as goal

abbrev pub invariant-loop-byte : goal.invariant-loop-byte
invariant-loop-byte l = record {
  value : digits_value l.value (drop l.byte-index l.digits) ≡ digits_value l.before l.digits;
  size : l.value < 10 ^ 38;
}
