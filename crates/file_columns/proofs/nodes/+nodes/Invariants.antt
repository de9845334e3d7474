use Rattle.std.proofs.Common.{◌+◌, ◌*◌, map, drop}
use Rattle.shred_schema.specs.Views.{named}
use Rattle.file_columns.specs.Columns.{group_in, node_in}
use Rattle.file_columns.specs.Views.{seen}
use Rattle.file_columns.proofs.Gathering.{IsGathered}
use Rattle.file_columns.proofs.nodes.+nodes.Given as goal

abbrev pub decreases-read_group : goal.decreases-read_group
decreases-read_group l = 10 * l.room

abbrev pub decreases-read_typed_value : goal.decreases-read_typed_value
decreases-read_typed_value l = 10 * l.room + 1

abbrev pub decreases-read_typed : goal.decreases-read_typed
decreases-read_typed l = 10 * l.room + 2

abbrev pub decreases-read_parts : goal.decreases-read_parts
decreases-read_parts l = 10 * l.room + 3

abbrev pub decreases-read_node : goal.decreases-read_node
decreases-read_node l = 10 * l.room + 4

abbrev pub decreases-read_field : goal.decreases-read_field
decreases-read_field l = 10 * l.room + 5

abbrev pub decreases-read_element : goal.decreases-read_element
decreases-read_element l = 10 * l.room + 6

abbrev pub decreases-read_items : goal.decreases-read_items
decreases-read_items l = 10 * l.room + 7

abbrev pub decreases-read_each_field : goal.decreases-read_each_field
decreases-read_each_field l = 10 * l.room + 6

abbrev pub decreases-read_fields : goal.decreases-read_fields
decreases-read_fields l = 10 * l.room + 7

abbrev pub invariant-read_each_field-loop-child : goal.invariant-read_each_field-loop-child
invariant-read_each_field-loop-child l = IsGathered (node_in (group_in l.room)) l.levels (map seen l.fn.children) (map named l.fields) l.leaves.items (map seen (drop l.child-index l.children))
