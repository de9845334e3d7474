use Rattle.std.proofs.Common.{◌+◌, ◌*◌, map, drop}
use Rattle.shred_schema.specs.Groups.{groups_from, height, kind_height, groups_height}
use Rattle.shred_schema.specs.Recs.{EachRec, recs_from}
use Rattle.shred_schema.specs.Shapes.{IsOf}
use Rattle.shred_schema.specs.Views.{group_of, kind_of, groups_of, named, rec_of}
use Rattle.striping_cost.proofs.Filled.{Filling}
use Rattle.striping_cost.proofs.filling.+fill.Given as goal

abbrev pub decreases-filled : goal.decreases-filled
decreases-filled l = 3 * height (group_of l.node.now)

abbrev pub decreases-filled_part : goal.decreases-filled_part
decreases-filled_part l = 3 * kind_height (kind_of l.typed.now) + 2

abbrev pub decreases-filled_fields : goal.decreases-filled_fields
decreases-filled_fields l = 3 * groups_height (groups_of l.fields.now) + 1

abbrev pub decreases-filled_items : goal.decreases-filled_items
decreases-filled_items l = 3 * height (group_of l.element.now) + 1

abbrev pub invariant-filled_fields-loop-k : goal.invariant-filled_fields-loop-k
invariant-filled_fields-loop-k l = Filling (drop l.k l.members) (groups_from (map named l.members)) l.records.items

abbrev pub invariant-filled_items-loop-item : goal.invariant-filled_items-loop-item
invariant-filled_items-loop-item l = EachRec (IsOf (group_of l.element)) (recs_from (map rec_of l.records.items))
