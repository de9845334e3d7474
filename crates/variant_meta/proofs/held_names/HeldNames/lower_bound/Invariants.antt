use Rattle.std.proofs.Common.{◌-◌, ◌≤◌}
use Rattle.variant_meta.specs.Metadata.{all_names}
use Rattle.variant_meta.specs.Names.{AllBefore, NoneBefore}
use Rattle.variant_meta.proofs.held_names.HeldNames.lower_bound.Given as goal

abbrev pub invariant-loop-low : goal.invariant-loop-low
invariant-loop-low l = record {
  order : l.low ≤ l.high;
  most : l.high ≤ l.self.layout.count;
  before : AllBefore (all_names l.self.layout.bytes.now) l.name l.low;
  after : NoneBefore (all_names l.self.layout.bytes.now) l.name l.high;
}

abbrev pub decreases-loop-low : goal.decreases-loop-low
decreases-loop-low l = l.high - l.low
