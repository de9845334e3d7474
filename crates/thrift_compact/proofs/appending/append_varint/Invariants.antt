use Rattle.std.proofs.Common.{◌≡◌, ◌-◌, ◌++◌}
use Rattle.vs_bytes.specs.Outcome.{Grows}
use Rattle.thrift_compact.specs.Coded.{digits_of}
use Rattle.thrift_compact.proofs.appending.append_varint.Given as goal

-- what was appended, and what is left, is all
abbrev pub invariant-loop-turn : goal.invariant-loop-turn
invariant-loop-turn l = record {
  all : l.into.items ++ digits_of (10 - l.turn) l.left ≡ l.fn.into.items ++ digits_of 10 l.number;
  grown : Grows l.fn.into.items l.into.items;
}
