use Rattle.std.proofs.Common.{◌≡◌, ◌-◌}
use Rattle.shred_schema.specs.Ranges.{reads, none_read}
use Rattle.shred_schema.proofs.projecting.none_read.Given as goal

abbrev pub invariant-loop-at : goal.invariant-loop-at
invariant-loop-at l = none_read (reads l.mask) l.at (l.end - l.at) ≡ none_read (reads l.mask) l.leaf l.count
