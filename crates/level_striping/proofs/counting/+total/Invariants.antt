use Rattle.std.proofs.Common.{◌≡◌, ◌+◌, ◌-◌, ◌*◌, ◌^◌, ◌≤◌, min, map, drop}
use Rattle.shred_schema.specs.Groups.{groups_from, groups_width, height, kind_height, groups_height}
use Rattle.shred_schema.specs.Recs.{EachRec, recs_from}
use Rattle.shred_schema.specs.Shapes.{IsOf, FieldsAreOf}
use Rattle.shred_schema.specs.Views.{group_of, kind_of, groups_of, named, rec_of}
use Rattle.level_striping.specs.Counts.{entry_count, items_count, fields_count}
use Rattle.level_striping.proofs.counting.+total.Given as goal

abbrev pub decreases-record_total : goal.decreases-record_total
decreases-record_total l = 3 * height (group_of l.node.now)

abbrev pub decreases-part_total : goal.decreases-part_total
decreases-part_total l = 3 * kind_height (kind_of l.typed.now) + 2

abbrev pub decreases-fields_total : goal.decreases-fields_total
decreases-fields_total l = 3 * groups_height (groups_of l.fields.now) + 1

abbrev pub decreases-items_total : goal.decreases-items_total
decreases-items_total l = 3 * height (group_of l.element.now) + 1

abbrev pub invariant-fields_total-loop-k : goal.invariant-fields_total-loop-k
invariant-fields_total-loop-k l =
    (min (l.total + fields_count (groups_from (map named (drop l.k l.members))) (recs_from (map rec_of (drop l.k l.records)))) (2 ^ 64 - 1) ≡ min (fields_count (groups_from (map named l.members)) (recs_from (map rec_of l.records))) (2 ^ 64 - 1))
    × (l.total ≤ 2 ^ 64 - 1)
    × (groups_width (groups_from (map named (drop l.k l.members))) ≤ 1024)
    × FieldsAreOf (groups_from (map named (drop l.k l.members))) (recs_from (map rec_of (drop l.k l.records)))

abbrev pub invariant-items_total-loop-record_in : goal.invariant-items_total-loop-record_in
invariant-items_total-loop-record_in l =
    (min (l.total + items_count (entry_count (group_of l.element)) (recs_from (map rec_of (drop l.record_in-index l.records)))) (2 ^ 64 - 1) ≡ min (items_count (entry_count (group_of l.element)) (recs_from (map rec_of l.records))) (2 ^ 64 - 1))
    × (l.total ≤ 2 ^ 64 - 1)
    × EachRec (IsOf (group_of l.element)) (recs_from (map rec_of (drop l.record_in-index l.records)))
