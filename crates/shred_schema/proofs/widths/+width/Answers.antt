use Rattle.std.proofs.Common.{◌∙◌, sym, ap, map}
use Rattle.shred_schema.specs.Groups.{kind_width, groups_width, groups_from}
use Rattle.shred_schema.specs.Views.{kind_of, named}
use Rattle.shred_schema.proofs.Viewed.{kind_is_object}
use Rattle.shred_schema.proofs.widths.+width.Goals as goal

pub typed_width-returns-in-Fields : goal.typed_width-returns-in-Fields
typed_width-returns-in-Fields t c =
    c.fields_width.ensures
    ∙ ap (λ fs. groups_width (groups_from (map named fs))) c.as_slice.ensures
    ∙ sym (ap (λ x. kind_width (kind_of x)) c.in-Fields.is ∙ ap kind_width (kind_is_object c.in-Fields.fields))
