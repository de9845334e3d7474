use Rattle.std.proofs.Common.{◌≡◌, ◌+◌, ◌-◌, ◌*◌, ◌≤◌, map, drop, length, slice_index_or, []}
use Rattle.shred_schema.specs.Groups.{groups_from, width, groups_width, height, kind_height, groups_height}
use Rattle.shred_schema.specs.Lawful.{GroupsHaveLeaves}
use Rattle.shred_schema.specs.Ranges.{every}
use Rattle.shred_schema.specs.Views.{group_of, kind_of, groups_of, named, rec_of}
use Rattle.record_assembly.specs.Reading.{fields_read}
use Rattle.column_assembly.specs.Leaves.{heads, Passed}
use Rattle.record_taking.specs.Parts.{rests, list_read, rest_read}
use Rattle.record_taking.proofs.ItemTurns.{onto}
use Rattle.record_taking.proofs.Joined.{Between}
use Rattle.record_taking.proofs.PartsTaken.{fields_left}
use Rattle.record_taking.proofs.taking.+take.Given as goal

abbrev pub decreases-put_record : goal.decreases-put_record
decreases-put_record l = 8 * height (group_of l.node.now)

abbrev pub decreases-put_valued : goal.decreases-put_valued
decreases-put_valued l = 8 * kind_height (kind_of l.node.now.typed) + 7

abbrev pub decreases-put_typed : goal.decreases-put_typed
decreases-put_typed l = 8 * kind_height (kind_of l.typed.now) + 6

abbrev pub decreases-take_typed : goal.decreases-take_typed
decreases-take_typed l = 8 * kind_height (kind_of l.typed.now) + 5

abbrev pub decreases-take_part : goal.decreases-take_part
decreases-take_part l = 8 * kind_height (kind_of l.typed.now) + 4

abbrev pub decreases-take_fields : goal.decreases-take_fields
decreases-take_fields l = 8 * groups_height (groups_of l.fields.now) + 1

abbrev pub decreases-take_list : goal.decreases-take_list
decreases-take_list l = 8 * height (group_of l.element.now) + 2

abbrev pub decreases-take_items : goal.decreases-take_items
decreases-take_items l = 8 * height (group_of l.element.now) + 1

abbrev pub invariant-take_fields-loop-k : goal.invariant-take_fields-loop-k
invariant-take_fields-loop-k l = record {
  read : fields_left l.records.items (drop l.k l.members) l.at l.levels.rep l.levels.lists l.levels.def (heads l.levels.lists l.cursors) ≡ fields_read (groups_from (map named l.members)) l.leaf every l.levels.rep l.levels.lists l.levels.def (heads l.levels.lists l.fn.cursors);
  passed : Passed l.fn.cursors l.cursors l.leaf (l.at - l.leaf) l.levels.lists;
  order : l.leaf ≤ l.at;
  sum : l.at + groups_width (groups_from (map named (drop l.k l.members))) ≡ l.leaf + groups_width (groups_from (map named l.members));
  leaves : GroupsHaveLeaves (groups_from (map named (drop l.k l.members)));
}

abbrev pub invariant-take_items-loop-alloc : goal.invariant-take_items-loop-alloc
invariant-take_items-loop-alloc l = record {
  read : onto (map rec_of l.records.items) (rest_read (group_of l.element) l.leaf l.levels.lists l.levels.def (rests l.levels.lists l.cursors)) ≡ list_read (group_of l.element) l.leaf l.levels.rep l.levels.lists l.levels.def (heads l.levels.lists l.fn.cursors);
  between : Between l.fn.cursors l.cursors l.leaf (width (group_of l.element)) l.levels.lists;
}

abbrev pub decreases-take_items-loop-alloc : goal.decreases-take_items-loop-alloc
decreases-take_items-loop-alloc l = length (slice_index_or l.cursors l.leaf [])
