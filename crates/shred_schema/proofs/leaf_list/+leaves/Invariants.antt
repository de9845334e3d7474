use Rattle.std.proofs.Common.{◌≡◌, ◌≤◌, ◌++◌, map, drop}
use Rattle.shred_schema.specs.Groups.{groups_from, groups_height}
use Rattle.shred_schema.specs.Leaves.{groups_leaves}
use Rattle.shred_schema.specs.Views.{named}
use Rattle.shred_schema.proofs.leaf_list.+leaves.Given as goal

abbrev pub invariant-put_fields-loop-k : goal.invariant-put_fields-loop-k
invariant-put_fields-loop-k l =
    (l.leaves ++ groups_leaves (groups_from (map named (drop l.k l.fields))) l.rep l.def ≡ l.initial.leaves ++ groups_leaves (groups_from (map named l.fields)) l.rep l.def)
    × (groups_height (groups_from (map named (drop l.k l.fields))) ≤ groups_height (groups_from (map named l.fields)))
