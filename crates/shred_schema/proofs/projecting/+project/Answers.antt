use Rattle.std.proofs.Common.{◌≡◌, ◌∙◌, sym, ap, map, arith}
use Rattle.shred_schema.specs.Groups.{object_of, groups_from}
use Rattle.shred_schema.specs.Projection.{kind_kept, groups_projected}
use Rattle.shred_schema.specs.Ranges.{reads}
use Rattle.shred_schema.specs.Views.{kind_of, named}
use Rattle.shred_schema.proofs.KeptFields.{all_kept}
use Rattle.shred_schema.proofs.Viewed.{kind_of_fields, kind_is_object}
use Rattle.shred_schema.proofs.projecting.+project.Goals as goal

pub keep_typed-returns-in_ok-kept-in-Fields : goal.keep_typed-returns-in_ok-kept-in-Fields
keep_typed-returns-in_ok-kept-in-Fields t c =
    let mask = reads c.args.mask.now in
    let kind : kind_of c.args.typed.now ≡ object_of (groups_from (map named c.as_slice.result.now)) =
    ap kind_of c.in-Fields.is ∙ kind_is_object c.in-Fields.fields ∙ ap (λ fs. object_of (groups_from (map named fs))) (sym c.as_slice.ensures) in
    kind_of_fields c.in_ok-kept-in-Fields.kept ∙ ap object_of c.in_ok-kept-in-Fields.ensures ∙ sym (ap (λ k. kind_kept k c.args.leaf mask) kind)

pub project_fields-returns : goal.project_fields-returns
project_fields-returns t c =
    let mask = reads c.args.mask.now in
    let fields = c.args.fields.now in
    all_kept fields c.loop-k.k c.loop-k.kept c.loop-k.first mask (groups_projected (groups_from (map named fields)) c.args.leaf mask) (omega (arith, c.loop-k-test.false)) c.loop-k.invariant.0
