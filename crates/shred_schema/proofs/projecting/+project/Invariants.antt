use Rattle.std.proofs.Common.{◌≡◌, ◌+◌, map, drop}
use Rattle.shred_schema.specs.Groups.{groups_from, groups_width}
use Rattle.shred_schema.specs.Projection.{groups_projected}
use Rattle.shred_schema.specs.Ranges.{reads}
use Rattle.shred_schema.specs.Views.{named}
use Rattle.shred_schema.proofs.KeptFields.{with_rest, groups_in}
use Rattle.shred_schema.proofs.projecting.+project.Given as goal

abbrev pub invariant-project_fields-loop-k : goal.invariant-project_fields-loop-k
invariant-project_fields-loop-k l =
    (with_rest l.kept (drop l.k l.fields) l.first (reads l.mask) ≡ groups_in (groups_projected (groups_from (map named l.fields)) l.leaf (reads l.mask)))
    × (l.first + groups_width (groups_from (map named (drop l.k l.fields))) ≡ l.leaf + groups_width (groups_from (map named l.fields)))
