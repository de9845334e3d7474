use Rattle.std.proofs.Common.{◌*◌, ◌+◌, map, drop}
use Rattle.shred_schema.specs.Groups.{nesting, kind_nesting, groups_nesting, groups_from}
use Rattle.shred_schema.specs.Ranges.{reads}
use Rattle.shred_schema.specs.Views.{group_of, kind_of, named}
use Rattle.unshredder.proofs.NodesRead.{IsMade}
use Rattle.unshredder.proofs.readings.+make.Given as goal

-- a node, its typed part, what is inside it, and back to a node

abbrev pub decreases-reading_of : goal.decreases-reading_of
decreases-reading_of l = 4 * nesting (group_of l.node.now) + 1

abbrev pub decreases-inside_of : goal.decreases-inside_of
decreases-inside_of l = 4 * kind_nesting (kind_of l.typed.now)

abbrev pub decreases-readings_of : goal.decreases-readings_of
decreases-readings_of l = 4 * groups_nesting (groups_from (map named l.fields.now)) + 3

abbrev pub decreases-put_reading : goal.decreases-put_reading
decreases-put_reading l = 4 * nesting (group_of l.node.now) + 2

abbrev pub invariant-readings_of-loop-k : goal.invariant-readings_of-loop-k
invariant-readings_of-loop-k l = IsMade (reads l.mask) l.k l.first (groups_from (map named (drop l.k l.fields))) l.inside (groups_from (map named l.fields)) l.leaf
