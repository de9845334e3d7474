use Rattle.std.proofs.Common.{◌≡◌, ◌<◌, ◌^◌, ◌-◌}
use Rattle.thrift_compact.specs.Numbers.{digits}
use Rattle.thrift_compact.proofs.Varints.{raised}
use Rattle.thrift_compact.proofs.numbers.digits_at.Given as goal

-- the digits that are left, above those that were read
abbrev pub invariant-loop-turn : goal.invariant-loop-turn
invariant-loop-turn l = record {
  place : l.place ≡ 128 ^ l.turn;
  value : l.value < l.place;
  whole : raised l.value l.place (digits (10 - l.turn) l.rest) ≡ digits 10 l.bytes;
}
