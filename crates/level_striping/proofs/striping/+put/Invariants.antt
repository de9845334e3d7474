use Rattle.std.proofs.Common.{◌≡◌, ◌+◌, ◌*◌, map, drop}
use Rattle.std.specs.List.{flat_map}
use Rattle.shred_schema.specs.Groups.{groups_from, groups_width, height, kind_height, groups_height}
use Rattle.shred_schema.specs.Recs.{EachRec, recs_from}
use Rattle.shred_schema.specs.Shapes.{IsOf, FieldsAreOf}
use Rattle.shred_schema.specs.Views.{group_of, kind_of, groups_of, named, rec_of}
use Rattle.level_striping.specs.Entries.{entries, fields_entries}
use Rattle.level_striping.proofs.Walks.{Walks}
use Rattle.level_striping.proofs.striping.+put.Given as goal

abbrev pub decreases-put_record : goal.decreases-put_record
decreases-put_record l = 3 * height (group_of l.node.now)

abbrev pub decreases-put_part : goal.decreases-put_part
decreases-put_part l = 3 * kind_height (kind_of l.typed.now) + 2

abbrev pub decreases-put_fields : goal.decreases-put_fields
decreases-put_fields l = 3 * groups_height (groups_of l.fields.now) + 1

abbrev pub decreases-put_items : goal.decreases-put_items
decreases-put_items l = 3 * height (group_of l.element.now) + 1

abbrev pub invariant-put_fields-loop-k : goal.invariant-put_fields-loop-k
invariant-put_fields-loop-k l =
    Walks l.fn.leaves l.leaves (fields_entries (groups_from (map named l.members)) l.leaf l.levels.rep l.levels.lists l.levels.def (recs_from (map rec_of l.records))) (fields_entries (groups_from (map named (drop l.k l.members))) l.at l.levels.rep l.levels.lists l.levels.def (recs_from (map rec_of (drop l.k l.records))))
    × (l.at + groups_width (groups_from (map named (drop l.k l.members))) ≡ l.leaf + groups_width (groups_from (map named l.members)))
    × FieldsAreOf (groups_from (map named (drop l.k l.members))) (recs_from (map rec_of (drop l.k l.records)))

abbrev pub invariant-put_items-loop-record_in : goal.invariant-put_items-loop-record_in
invariant-put_items-loop-record_in l =
    Walks l.initial.leaves l.leaves (λ j. flat_map (λ x. entries (group_of l.element) l.leaf (l.levels.lists + 1) (l.levels.lists + 1) (l.levels.def + 2) x j) (map rec_of l.later)) (λ j. flat_map (λ x. entries (group_of l.element) l.leaf (l.levels.lists + 1) (l.levels.lists + 1) (l.levels.def + 2) x j) (map rec_of (drop l.record_in-index l.later)))
    × EachRec (IsOf (group_of l.element)) (recs_from (map rec_of (drop l.record_in-index l.later)))
