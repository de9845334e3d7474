use Rattle.std.proofs.Common.{◌≡◌, ◌+◌, drop}
use Rattle.variant_meta.specs.Metadata.{all_names}
use Rattle.variant_meta.specs.Names.{place_of}
use Rattle.variant_meta.proofs.held_names.HeldNames.scan.Given as goal

-- the place among the names that are left
abbrev pub invariant-loop-id : goal.invariant-loop-id
invariant-loop-id l = l.id + place_of (drop l.id (all_names l.self.layout.bytes.now)) l.name ≡ place_of (all_names l.self.layout.bytes.now) l.name
