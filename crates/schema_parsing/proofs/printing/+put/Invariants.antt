use Rattle.std.proofs.Common.{◌≡◌, ◌≤◌, ◌+◌, ◌*◌, ◌++◌, map, drop}
use Rattle.vs_bytes.specs.Outcome.{Grows}
use Rattle.shred_schema.specs.Groups.{groups_from, nesting, groups_nesting}
use Rattle.shred_schema.specs.Views.{group_of, named}
use Rattle.schema_parsing.specs.Canonical.{fields_text, more_text}
use Rattle.schema_parsing.proofs.printing.+put.Given as goal

abbrev pub decreases-put_schema : goal.decreases-put_schema
decreases-put_schema l = 4 * nesting (group_of l.node.now) + 1

abbrev pub decreases-put_field : goal.decreases-put_field
decreases-put_field l = 4 * nesting (group_of l.node.now) + 2

abbrev pub decreases-put_bracketed : goal.decreases-put_bracketed
decreases-put_bracketed l = 4 * nesting (group_of l.item.now) + 2

abbrev pub decreases-put_fields : goal.decreases-put_fields
decreases-put_fields l = 4 * groups_nesting (groups_from (map named l.fields.now)) + 3

abbrev pub decreases-put_braced : goal.decreases-put_braced
decreases-put_braced l = 4 * groups_nesting (groups_from (map named l.fields.now)) + 4

abbrev pub invariant-put_fields-loop-field : goal.invariant-put_fields-loop-field
invariant-put_fields-loop-field l = record {
  text : l.into.items ++ more_text (groups_from (map named (drop l.field-index l.others))) ≡ l.fn.into.items ++ fields_text (groups_from (map named l.fields));
  grows : Grows l.fn.into.items l.into.items;
  inside : groups_nesting (groups_from (map named (drop l.field-index l.others))) ≤ groups_nesting (groups_from (map named l.fields));
}
