use Rattle.std.proofs.Common.{◌≡◌, drop}
use Rattle.variant_meta.specs.Metadata.{all_names}
use Rattle.variant_meta.specs.Names.{rise_after, names_rise}
use Rattle.variant_meta.proofs.held_names.HeldNames.rise.Given as goal

-- the names that are left decide
abbrev pub invariant-loop-i : goal.invariant-loop-i
invariant-loop-i l = rise_after l.before (drop l.i (all_names l.self.layout.bytes.now)) ≡ names_rise (all_names l.self.layout.bytes.now)
