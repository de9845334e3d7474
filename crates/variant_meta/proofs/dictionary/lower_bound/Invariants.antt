use Rattle.std.proofs.Common.{◌-◌, ◌≤◌, length}
use Rattle.variant_meta.specs.Names.{AllBefore, NoneBefore}
use Rattle.variant_meta.proofs.dictionary.lower_bound.Given as goal

abbrev pub invariant-loop-low : goal.invariant-loop-low
invariant-loop-low l = record {
  order : l.low ≤ l.high;
  most : l.high ≤ length l.names;
  before : AllBefore l.names l.name l.low;
  after : NoneBefore l.names l.name l.high;
}

abbrev pub decreases-loop-low : goal.decreases-loop-low
decreases-loop-low l = l.high - l.low
