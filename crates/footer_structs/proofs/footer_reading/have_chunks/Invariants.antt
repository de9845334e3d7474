use Rattle.std.proofs.Common.{◌≡◌, drop}
use Rattle.std.specs.List.{list_all}
use Rattle.footer_structs.specs.ReadFooters.{has_chunks}
use Rattle.footer_structs.proofs.footer_reading.have_chunks.Given as goal

abbrev pub invariant-loop-group : goal.invariant-loop-group
invariant-loop-group l = list_all (has_chunks l.leaves) (drop l.group-index l.groups) ≡ list_all (has_chunks l.leaves) l.groups
