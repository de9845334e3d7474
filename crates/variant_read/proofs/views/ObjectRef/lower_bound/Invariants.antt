use Rattle.std.proofs.Common.{◌-◌, ◌≤◌, length}
use Rattle.variant_meta.specs.Names.{AllBefore, NoneBefore}
use Rattle.variant_read.specs.Items.{member_names}
use Rattle.variant_read.specs.View.{members_of}
use Rattle.variant_read.proofs.views.ObjectRef.lower_bound.Given as goal

abbrev pub invariant-loop-low : goal.invariant-loop-low
invariant-loop-low g l = record {
  order : l.low ≤ l.high;
  most : l.high ≤ length (members_of l.self.view);
  before : AllBefore (member_names (members_of l.self.view)) l.name l.low;
  after : NoneBefore (member_names (members_of l.self.view)) l.name l.high;
}

abbrev pub decreases-loop-low : goal.decreases-loop-low
decreases-loop-low g l = l.high - l.low
