use Rattle.std.proofs.Common.{◌≡◌, map, drop}
use Rattle.json_tree.specs.Json.{fields_of}
use Rattle.shred_schema.specs.Groups.{groups_from}
use Rattle.shred_schema.specs.Views.{named}
use Rattle.variant_read.specs.View.{members_of}
use Rattle.unshredder.specs.Merging.{is_in_both}
use Rattle.unshredder.proofs.merging.is_in_both.Given as goal

abbrev pub invariant-loop-field : goal.invariant-loop-field
invariant-loop-field l = is_in_both (groups_from (map named (drop l.field-index l.fields))) (fields_of (members_of l.fn.object)) ≡ is_in_both (groups_from (map named l.fields)) (fields_of (members_of l.fn.object))
