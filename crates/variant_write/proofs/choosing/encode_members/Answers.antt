use Rattle.std.proofs.Common.{◌∙◌, refl, sym}
use Rattle.json_tree.specs.Json.{object}
use Rattle.json_tree.proofs.Views.{members_counted}
use Rattle.variant_write.specs.Conditions.{max_text_len}
use Rattle.variant_write.proofs.Walks.{object_small}
use Rattle.variant_write.proofs.choosing.encode_members.Goals as goal

pub append_chosen-done-requires-clause-kept : goal.append_chosen-done-requires-clause-kept
append_chosen-done-requires-clause-kept c = c.requires.kept ∙ sym (members_counted c.args.members.now c.as_slice.result.now c.as_slice.ensures.seen)

pub append_chosen-done-requires-clause-small : goal.append_chosen-done-requires-clause-small
append_chosen-done-requires-clause-small c = object_small max_text_len (object c.args.members.now) c.args.members.now _ refl c.as_slice.ensures.seen c.requires.small
