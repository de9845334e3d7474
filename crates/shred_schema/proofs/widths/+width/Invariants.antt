use Rattle.std.proofs.Common.{◌≡◌, ◌+◌, map, drop}
use Rattle.shred_schema.specs.Groups.{groups_from, groups_width}
use Rattle.shred_schema.specs.Views.{named}
use Rattle.shred_schema.proofs.widths.+width.Given as goal

abbrev pub invariant-fields_width-loop-k : goal.invariant-fields_width-loop-k
invariant-fields_width-loop-k l = l.total + groups_width (groups_from (map named (drop l.k l.fields))) ≡ groups_width (groups_from (map named l.fields))
