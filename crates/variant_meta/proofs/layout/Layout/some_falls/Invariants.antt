use Rattle.std.proofs.Common.{◌≡◌, ◌-◌}
use Rattle.variant_meta.specs.Metadata.{offset, falls_from}
use Rattle.variant_meta.proofs.layout.Layout.some_falls.Given as goal

-- the offsets that are left decide
abbrev pub invariant-loop-i : goal.invariant-loop-i
invariant-loop-i l = record {
  before : l.before ≡ offset l.self.bytes.now l.i;
  rest : falls_from l.self.bytes.now l.i (l.self.count - l.i) ≡ falls_from l.self.bytes.now 0 l.self.count;
}
