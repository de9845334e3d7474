use Rattle.std.proofs.Common.{◌≡◌, ◌+◌, ◌*◌, ◌≤◌, ◌++◌, length, map, drop}
use Rattle.json_tree.specs.Json.{names_of, parts_of}
use Rattle.json_tree.specs.Text.{more_parts}
use Rattle.json_tree.specs.View.{view}
use Rattle.variant_write.specs.Conditions.{ElementsHaveNames, max_text_len}
use Rattle.shred_schema.specs.Groups.{nesting, kind_nesting, groups_nesting, groups_from}
use Rattle.shred_schema.specs.Lawful.{EachField, HasValue, IsWritten}
use Rattle.shred_schema.specs.Recs.{recs_in}
use Rattle.shred_schema.specs.Views.{group_of, kind_of, rec_of, named}
use Rattle.shredder.specs.Shredded.{by_names, shredded, fields_shredded, items_shredded}
use Rattle.shredder.specs.Taken.{without_all}
use Rattle.shredder.proofs.records.+shred.Given as goal

-- a node, its typed part, what is inside it, and back to a node

abbrev pub decreases-node_shredded : goal.decreases-node_shredded
decreases-node_shredded l = 5 * nesting (group_of l.node.now) + 2

abbrev pub decreases-typed_shredded : goal.decreases-typed_shredded
decreases-typed_shredded l = 5 * kind_nesting (kind_of l.typed.now) + 1

abbrev pub decreases-items_shredded : goal.decreases-items_shredded
decreases-items_shredded l = 5 * nesting (group_of l.node.now) + 3

abbrev pub decreases-fields_shredded : goal.decreases-fields_shredded
decreases-fields_shredded l = 5 * groups_nesting (groups_from (map named l.fields.now)) + 4

abbrev pub decreases-field_record : goal.decreases-field_record
decreases-field_record l = 5 * nesting (group_of l.node.now) + 3

abbrev pub invariant-items_shredded-loop-tree : goal.invariant-items_shredded-loop-tree
invariant-items_shredded-loop-tree l = record {
  names : ElementsHaveNames l.dict (parts_of (map view (drop l.tree-index l.trees)));
  small : length (more_parts (parts_of (map view (drop l.tree-index l.trees)))) ≤ max_text_len;
  same : map rec_of l.records.items ++ recs_in (items_shredded (shredded (by_names l.dict l.widths) (group_of l.fn.node)) (parts_of (map view (drop l.tree-index l.trees)))) ≡ recs_in (items_shredded (shredded (by_names l.dict l.widths) (group_of l.fn.node)) (parts_of (map view l.trees)));
}

abbrev pub invariant-fields_shredded-loop-k : goal.invariant-fields_shredded-loop-k
invariant-fields_shredded-loop-k l = record {
  nodes : EachField HasValue IsWritten (groups_from (map named (drop l.k l.fields)));
  inside : groups_nesting (groups_from (map named (drop l.k l.fields))) ≤ groups_nesting (groups_from (map named l.fields));
  same : map rec_of l.records.items ++ recs_in (fields_shredded (by_names l.dict l.widths) (groups_from (map named (drop l.k l.fields))) l.fn.members) ≡ recs_in (fields_shredded (by_names l.dict l.widths) (groups_from (map named l.fields)) l.fn.members);
  each : length l.kept.members.items ≡ length (names_of l.fn.members);
  kept : without_all (groups_from (map named (drop l.k l.fields))) l.kept.members.items l.fn.members ≡ without_all (groups_from (map named l.fields)) l.fn.kept.members.items l.fn.members;
}
