use Rattle.std.proofs.Common.{◌≡◌, ◌∙◌, sym, ap, subst, List, ◌∷◌, ◌++◌, length, map}
use Rattle.std.specs.Prelude.{OnOk}
use Rattle.shred_schema.specs.Groups.{object_of, groups_from}
use Rattle.shred_schema.specs.Views.{kind_of, named}
use Rattle.shred_schema.specs.declared.kinds.Note.TheVariants as note
use Rattle.shred_schema.proofs.Viewed.{kind_is_object}
use Rattle.schema_elements.specs.declared.elements.SchemaElement.{SchemaElement}
use Rattle.written_columns.specs.Written.{group_element, typed_name, typed_elements, field_elements}
use Rattle.written_columns.proofs.Trees.{fields_counted}
use Rattle.written_columns.proofs.schemas.+elements.Goals as goal

pub put_typed-returns-in-Fields : goal.put_typed-returns-in-Fields
put_typed-returns-in-Fields t c =
    let kind : kind_of c.args.typed.now ≡ object_of (groups_from (map named c.as_slice.result.now)) =
    ap kind_of c.in-Fields.is ∙ kind_is_object c.in-Fields.fields ∙ ap (λ fs. object_of (groups_from (map named fs))) (sym c.as_slice.ensures) in
    let is : typed_elements (kind_of c.args.typed.now) ≡ group_element 1 typed_name (length c.as_slice.result.now) note.None ∷ field_elements (groups_from (map named c.as_slice.result.now)) =
    ap typed_elements kind ∙ ap (λ k. group_element 1 typed_name k note.None ∷ field_elements (groups_from (map named c.as_slice.result.now))) (fields_counted c.as_slice.result.now) in
    subst (λ (es : List SchemaElement). OnOk c.put_object.result (c.put_object.new.into ≡ c.args.into.now ++ es)) (sym is) c.put_object.ensures
