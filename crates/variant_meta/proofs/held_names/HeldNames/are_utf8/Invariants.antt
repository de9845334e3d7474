use Rattle.std.proofs.Common.{◌≡◌, drop}
use Rattle.std.specs.List.{list_all}
use Rattle.std.specs.Str.{is_utf8}
use Rattle.variant_meta.specs.Metadata.{all_names}
use Rattle.variant_meta.proofs.held_names.HeldNames.are_utf8.Given as goal

-- the names that are left decide
abbrev pub invariant-loop-i : goal.invariant-loop-i
invariant-loop-i l = list_all is_utf8 (drop l.i (all_names l.self.layout.bytes.now)) ≡ list_all is_utf8 (all_names l.self.layout.bytes.now)
