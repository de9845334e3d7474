use Rattle.std.proofs.Common.{◌≡◌, ◌<◌, ◌^◌, drop}
use Rattle.exact_num.specs.Spelling.{digits_value}
use Rattle.path_parsing.proofs.index.index_of.Given as goal

abbrev pub invariant-loop-byte : goal.invariant-loop-byte
invariant-loop-byte l = record {
  value : digits_value l.index (drop l.byte-index l.digits) ≡ digits_value 0 l.digits;
  size : l.index < 10 ^ l.byte-index;
}
