use Rattle.std.proofs.Common.{◌∙◌, sym, ap}
use Rattle.shred_schema.specs.Groups.{Group, width}
use Rattle.schema_parsing.specs.Parts.{room_left}
use Rattle.schema_parsing.proofs.ObjectNodes.{object_shown}
use Rattle.schema_parsing.proofs.Room.{left_of_both}
use Rattle.schema_parsing.proofs.leaves.+leaves.Goals as goal

pub room_after-returns-in-Fields : goal.room_after-returns-in-Fields
room_after-returns-in-Fields t c = record {
  left = c.room_after_fields.ensures.left ∙ left_of_both c.args.room _ _ c.in_ok-left.left (sym c.in_ok-left.ensures)
      ∙ ap (λ (g : Group). room_left c.args.room (width g)) (sym (object_shown c.args.node.now c.in-Fields.fields c.as_slice.result.now c.in-Fields.is c.as_slice.ensures));
}
