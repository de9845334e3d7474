-- The typed part of a list, and what of it its items inherit.
use Rattle.std.proofs.Common.{rules, arith, ◌≤◌, ◌≡◌, ◌∙◌, sym, ap, subst, ℕ, ◌+◌, List, map, option_map, Option, Some}
use Rattle.shred_schema.specs.Groups.{Group, Kind, object_of, list_of, Groups, nesting, kind_nesting, groups_nesting}
use Rattle.shred_schema.specs.Recs.{RecPart, Recs, items, fields, recs_from, EachRec}
use Rattle.shred_schema.specs.Lawful.{AreNodes, IsObject, EachIn, EachField, HasEither, MayHold}
use Rattle.variant_read.specs.Meaning.{max_nesting}
use Rattle.shred_schema.specs.Shapes.{HasShape, PartHasShape, FieldsHaveShape}
use Rattle.shred_schema.specs.Views.{part_of, part_or_empty, rec_of}
use Rattle.shred_schema.specs.declared.records.Part.{Part, the_lemmas}
use Rattle.shred_schema.specs.declared.records.Part.TheVariants as code
use Rattle.shred_schema.specs.declared.records.Record.{Record}

items_are : (xs : List Record) → part_of (code.Items xs) ≡ items (recs_from (map rec_of xs))
items_are xs = search (rules, the_lemmas)

fields_are : (xs : List Record) → part_of (code.Fields xs) ≡ fields (recs_from (map rec_of xs))
fields_are xs = search (rules, the_lemmas)

pub part_items : (found : Option Part) (part : Part) (records held : List Record) → found ≡ Some part → part ≡ code.Items records → held ≡ records → part_or_empty (option_map part_of found) ≡ items (recs_from (map rec_of held))
part_items found part records held e f g = ap (λ (o : Option Part). part_or_empty (option_map part_of o)) e ∙ ap part_of f ∙ items_are records ∙ ap (λ (xs : List Record). items (recs_from (map rec_of xs))) (sym g)

pub part_fields : (found : Option Part) (part : Part) (records held : List Record) → found ≡ Some part → part ≡ code.Fields records → held ≡ records → part_or_empty (option_map part_of found) ≡ fields (recs_from (map rec_of held))
part_fields found part records held e f g = ap (λ (o : Option Part). part_or_empty (option_map part_of o)) e ∙ ap part_of f ∙ fields_are records ∙ ap (λ (xs : List Record). fields (recs_from (map rec_of xs))) (sym g)

pub list_shape : (t : Kind) (p : RecPart) (n : Group) (xs : Recs) → t ≡ list_of n → p ≡ items xs → PartHasShape t p → EachRec (HasShape n) xs
list_shape t p n xs e f h = subst (λ (k : Kind). PartHasShape k (items xs)) e (subst (PartHasShape t) f h)

pub list_nodes : (t : Kind) (n : Group) → t ≡ list_of n → EachIn HasEither MayHold t → AreNodes n
list_nodes t n e h = subst (EachIn HasEither MayHold) e h

pub list_deep : (t : Kind) (n : Group) (above : ℕ) → t ≡ list_of n → above + kind_nesting t ≤ max_nesting → above + nesting n + 1 ≤ max_nesting
list_deep t n above e h = omega (arith, ap kind_nesting e, h)

-- the same of the fields of an object

pub object_nodes : (t : Kind) (gs : Groups) → t ≡ object_of gs → EachIn HasEither MayHold t → IsObject gs × EachField HasEither MayHold gs
object_nodes t gs e h = subst (EachIn HasEither MayHold) e h

pub object_shape : (t : Kind) (p : RecPart) (gs : Groups) (xs : Recs) → t ≡ object_of gs → p ≡ fields xs → PartHasShape t p → FieldsHaveShape gs xs
object_shape t p gs xs e f h = subst (λ (k : Kind). PartHasShape k (fields xs)) e (subst (PartHasShape t) f h)

pub object_deep : (t : Kind) (gs : Groups) (above : ℕ) → t ≡ object_of gs → above + kind_nesting t ≤ max_nesting → above + groups_nesting gs + 1 ≤ max_nesting
object_deep t gs above e h = omega (arith, ap kind_nesting e, h)
