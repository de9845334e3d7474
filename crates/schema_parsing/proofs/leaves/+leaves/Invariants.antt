use Rattle.std.proofs.Common.{◌≡◌, ◌≤◌, ◌+◌, ◌*◌, map, drop}
use Rattle.shred_schema.specs.Groups.{groups_from, groups_width, nesting, groups_nesting}
use Rattle.shred_schema.specs.Views.{group_of, named}
use Rattle.schema_parsing.specs.Parts.{room_left}
use Rattle.schema_parsing.proofs.leaves.+leaves.Given as goal

abbrev pub decreases-room_after : goal.decreases-room_after
decreases-room_after l = 2 * nesting (group_of l.node.now) + 1

abbrev pub decreases-room_after_fields : goal.decreases-room_after_fields
decreases-room_after_fields l = 2 * groups_nesting (groups_from (map named l.fields.now)) + 2

abbrev pub invariant-room_after_fields-loop-field : goal.invariant-room_after_fields-loop-field
invariant-room_after_fields-loop-field l = record {
  left : room_left l.left (groups_width (groups_from (map named (drop l.field-index l.fields)))) ≡ room_left l.room (groups_width (groups_from (map named l.fields)));
  inside : groups_nesting (groups_from (map named (drop l.field-index l.fields))) ≤ groups_nesting (groups_from (map named l.fields));
}
