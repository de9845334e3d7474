use Rattle.std.proofs.Common.{◌≡◌, ◌≤◌, ◌^◌, min, drop}
use Rattle.std.specs.List.{list_all}
use Rattle.exact_num.specs.Parsing.{is_digit}
use Rattle.exact_num.specs.Spelling.{digits_value}
use Rattle.exact_num.proofs.exponent_reading.cut_value.Given as goal

abbrev pub invariant-loop-byte : goal.invariant-loop-byte
invariant-loop-byte l = record {
  digits : list_all is_digit (drop l.byte-index l.text) ≡ list_all is_digit l.text;
  value : min (digits_value l.value (drop l.byte-index l.text)) (10 ^ 24) ≡ min (digits_value 0 l.text) (10 ^ 24);
  size : l.value ≤ 10 ^ 24;
}
