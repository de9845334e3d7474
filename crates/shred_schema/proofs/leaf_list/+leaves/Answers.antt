use Rattle.std.proofs.Common.{◌≡◌, ◌∙◌, sym, ap, map}
use Rattle.shred_schema.specs.Groups.{object_of, groups_from}
use Rattle.shred_schema.specs.Views.{kind_of, named}
use Rattle.shred_schema.proofs.Viewed.{kind_is_object}
use Rattle.shred_schema.proofs.leaf_list.+leaves.Goals as goal

pub put_typed-returns-in-Fields : goal.put_typed-returns-in-Fields
put_typed-returns-in-Fields t c =
    let kind : kind_of c.args.typed.now ≡ object_of (groups_from (map named c.as_slice.result.now)) =
    ap kind_of c.in-Fields.is ∙ kind_is_object c.in-Fields.fields ∙ ap (λ fs. object_of (groups_from (map named fs))) (sym c.as_slice.ensures) in
    rw kind c.put_fields.ensures
