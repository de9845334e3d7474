use Rattle.std.proofs.Common.{◌≡◌, ◌∙◌, sym, ap, subst, ℕ, List, ◌++◌, map}
use Rattle.std.specs.Prelude.{OnOk}
use Rattle.shred_schema.specs.Groups.{object_of, groups_from}
use Rattle.shred_schema.specs.Views.{kind_of, named}
use Rattle.shred_schema.proofs.Viewed.{kind_is_object}
use Rattle.std.proofs.Common.{rules}
use Rattle.vs_bytes.specs.declared.leaf_columns.PrimKind.{PrimKind}
use Rattle.shred_schema.specs.Groups.{scalar}
use Rattle.shred_schema.specs.declared.nodes.Typed.{the_lemmas}
use Rattle.shred_schema.specs.declared.nodes.Typed.TheVariants as typed
use Rattle.written_columns.specs.Written.{typed_paths}
use Rattle.written_columns.proofs.paths.+paths.Goals as goal

pub put_typed-returns-in-Fields : goal.put_typed-returns-in-Fields
put_typed-returns-in-Fields t c =
    let kind : kind_of c.args.typed.now ≡ object_of (groups_from (map named c.as_slice.result.now)) =
    ap kind_of c.in-Fields.is ∙ kind_is_object c.in-Fields.fields ∙ ap (λ fs. object_of (groups_from (map named fs))) (sym c.as_slice.ensures) in
    subst (λ (ps : List (List (List ℕ))). OnOk c.put_object.result (c.put_object.new.into ≡ c.args.into.now ++ ps)) (sym (ap (λ k. typed_paths k c.args.way.now) kind)) c.put_object.ensures

kind_is_scalar : (q : PrimKind) → kind_of (typed.Prim q) ≡ scalar q
kind_is_scalar q = search (rules, the_lemmas)

pub put_typed-returns-in-Prim : goal.put_typed-returns-in-Prim
put_typed-returns-in-Prim t c =
    let kind : kind_of c.args.typed.now ≡ scalar c.in-Prim.field-0 = ap kind_of c.in-Prim.is ∙ kind_is_scalar c.in-Prim.field-0 in
    subst (λ (ps : List (List (List ℕ))). OnOk c.put_leaf.result (c.put_leaf.new.into ≡ c.args.into.now ++ ps)) (sym (ap (λ k. typed_paths k c.args.way.now) kind)) c.put_leaf.ensures
