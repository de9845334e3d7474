use Rattle.std.proofs.Common.{◌≡◌, ◌∙◌, ◌+◌, sym, ap, subst, ◌<◌, length, map, option_map, rules, arith}
use Rattle.shred_schema.specs.Groups.{list_of, object_of, groups_from, kind_nesting}
use Rattle.shred_schema.specs.Recs.{items, fields, recs_from, EachRec}
use Rattle.shred_schema.specs.Shapes.{HasShape}
use Rattle.shred_schema.specs.Views.{group_of, kind_of, part_of, part_or_empty, rec_of, named}
use Rattle.shred_schema.proofs.Viewed.{kind_is_list, kind_is_object, recs_at}
use Rattle.unshredder.specs.declared.readings.Reading.{out-Reading}
use Rattle.unshredder.specs.Rows.{has_value}
use Rattle.unshredder.proofs.NextRead.{next_read, all_read}
use Rattle.unshredder.proofs.NodesRead.{of_element, of_fields}
use Rattle.unshredder.proofs.Parts.{list_shape, object_shape, part_items, part_fields}
use Rattle.unshredder.proofs.ValuesLeft.{has_none, has_one, none_has, passes_values, rec_passed}
use Rattle.unshredder.proofs.needing.+needing.Goals as goal

pub part_has_value-any_has_value-requires : goal.part_has_value-any_has_value-requires
part_has_value-any_has_value-requires t c =
    let kind : kind_of c.args.typed.now ≡ list_of (group_of c.get.result.now) =
    ap kind_of c.in-Items.is ∙ kind_is_list _ ∙ ap (λ n. list_of (group_of n)) (sym c.get.ensures) in
    let part : part_or_empty (option_map part_of c.args.part.now) ≡ items (recs_from (map rec_of c.as_slice-in-Items-part.result.now)) =
    part_items _ _ _ _ c.in-Some-part.is c.in-Items-part.is c.as_slice-in-Items-part.ensures in
    let some = c.requires.readings in
    (omega (arith, ap kind_nesting kind), (list_shape _ _ _ _ kind part c.requires.shape, record { mask = some.mask; leaf = some.leaf; holds = of_element _ _ _ _ _ _ kind c.index-inside-0.is some.holds }))

pub part_has_value-returns-in-Items-part : goal.part_has_value-returns-in-Items-part
part_has_value-returns-in-Items-part t c =
    let kind : kind_of c.args.typed.now ≡ list_of (group_of c.get.result.now) =
    ap kind_of c.in-Items.is ∙ kind_is_list _ ∙ ap (λ n. list_of (group_of n)) (sym c.get.ensures) in
    let part : part_or_empty (option_map part_of c.args.part.now) ≡ items (recs_from (map rec_of c.as_slice-in-Items-part.result.now)) =
    part_items _ _ _ _ c.in-Some-part.is c.in-Items-part.is c.as_slice-in-Items-part.ensures in
    λ mask leaf read are. rw (kind, part) (c.any_has_value.ensures mask leaf (of_element _ _ _ _ _ _ kind c.index-inside-0.is are))

pub part_has_value-returns-in-Fields-part : goal.part_has_value-returns-in-Fields-part
part_has_value-returns-in-Fields-part t c =
    let kind : kind_of c.args.typed.now ≡ object_of (groups_from (map named c.as_slice.result.now)) =
    ap kind_of c.in-Fields.is ∙ kind_is_object c.in-Fields.fields ∙ ap (λ fs. object_of (groups_from (map named fs))) (sym c.as_slice.ensures) in
    let part : part_or_empty (option_map part_of c.args.part.now) ≡ fields (recs_from (map rec_of c.as_slice-in-Fields-part.result.now)) =
    part_fields _ _ _ _ c.in-Some.is c.in-Fields-part.is c.as_slice-in-Fields-part.ensures in
    λ mask leaf read are. rw (kind, part) (c.fields_have_value.ensures mask leaf (of_fields _ _ _ _ _ kind are))

pub part_has_value-fields_have_value-requires : goal.part_has_value-fields_have_value-requires
part_has_value-fields_have_value-requires t c =
    let kind : kind_of c.args.typed.now ≡ object_of (groups_from (map named c.as_slice.result.now)) =
    ap kind_of c.in-Fields.is ∙ kind_is_object c.in-Fields.fields ∙ ap (λ fs. object_of (groups_from (map named fs))) (sym c.as_slice.ensures) in
    let part : part_or_empty (option_map part_of c.args.part.now) ≡ fields (recs_from (map rec_of c.as_slice-in-Fields-part.result.now)) =
    part_fields _ _ _ _ c.in-Some.is c.in-Fields-part.is c.as_slice-in-Fields-part.ensures in
    let some = c.requires.readings in
    (omega (arith, ap kind_nesting kind), (object_shape _ _ _ _ kind part c.requires.shape, record { mask = some.mask; leaf = some.leaf; holds = of_fields _ _ _ _ _ kind some.holds }))

pub fields_have_value-bounds-fields-k : goal.fields_have_value-bounds-fields-k
fields_have_value-bounds-fields-k t c =
    let some = c.requires.readings in
    let next = next_read _ _ c.args.fields.now c.args.records.now c.args.readings.now c.loop-reading.reading-index c.reading-item.result (passes_values _ _ _) (c.loop-reading.invariant some.mask some.leaf some.holds) (omega (arith, c.loop-reading-test.true)) c.reading-item.is in
    next.is_field

pub fields_have_value-offset_bounds-fields-k : goal.fields_have_value-offset_bounds-fields-k
fields_have_value-offset_bounds-fields-k t c =
    let some = c.requires.readings in
    let next = next_read _ _ c.args.fields.now c.args.records.now c.args.readings.now c.loop-reading.reading-index c.reading-item.result (passes_values _ _ _) (c.loop-reading.invariant some.mask some.leaf some.holds) (omega (arith, c.loop-reading-test.true)) c.reading-item.is in
    let within : (out-Reading c.reading-item.result).place < length c.args.fields.now = next.is_field in
    search rules

pub fields_have_value-bounds-records-k : goal.fields_have_value-bounds-records-k
fields_have_value-bounds-records-k t c =
    let some = c.requires.readings in
    let next = next_read _ _ c.args.fields.now c.args.records.now c.args.readings.now c.loop-reading.reading-index c.reading-item.result (passes_values _ _ _) (c.loop-reading.invariant some.mask some.leaf some.holds) (omega (arith, c.loop-reading-test.true)) c.reading-item.is in
    next.is_record

pub fields_have_value-offset_bounds-records-k : goal.fields_have_value-offset_bounds-records-k
fields_have_value-offset_bounds-records-k t c =
    let some = c.requires.readings in
    let next = next_read _ _ c.args.fields.now c.args.records.now c.args.readings.now c.loop-reading.reading-index c.reading-item.result (passes_values _ _ _) (c.loop-reading.invariant some.mask some.leaf some.holds) (omega (arith, c.loop-reading-test.true)) c.reading-item.is in
    let within : (out-Reading c.reading-item.result).place < length c.args.records.now = next.is_record in
    search rules

pub fields_have_value-has_value-requires : goal.fields_have_value-has_value-requires
fields_have_value-has_value-requires t c =
    let some = c.requires.readings in
    let next = next_read _ _ c.args.fields.now c.args.records.now c.args.readings.now c.loop-reading.reading-index c.reading-item.result (passes_values _ _ _) (c.loop-reading.invariant some.mask some.leaf some.holds) (omega (arith, c.loop-reading-test.true)) c.reading-item.is in
    let left = next.left c.index-fields-k.result c.index-fields-k.result c.index-records-k.result c.index-records-k.is in
    (omega (arith, left.inside), (left.shape.0, record { mask = some.mask; leaf = next.first; holds = next.here c.index-fields-k.result }))

pub fields_have_value-returns-then-has_value : goal.fields_have_value-returns-then-has_value
fields_have_value-returns-then-has_value t c =
    λ mask leaf are.
    let next = next_read _ _ c.args.fields.now c.args.records.now c.args.readings.now c.loop-reading.reading-index c.reading-item.result (passes_values _ _ _) (c.loop-reading.invariant mask leaf are) (omega (arith, c.loop-reading-test.true)) c.reading-item.is in
    let left = next.left c.index-fields-k.result c.index-fields-k.result c.index-records-k.result c.index-records-k.is in
    has_one _ _ _ _ _ _ _ _ _ left (sym (c.has_value.ensures mask _ (next.here c.index-fields-k.result)) ∙ c.if-has_value.true)

pub fields_have_value-loop-reading-preserved : goal.fields_have_value-loop-reading-preserved
fields_have_value-loop-reading-preserved t c =
    λ mask leaf are.
    let next = next_read _ _ c.args.fields.now c.args.records.now c.args.readings.now c.loop-reading.reading-index c.reading-item.result (passes_values _ _ _) (c.loop-reading.invariant mask leaf are) (omega (arith, c.loop-reading-test.true)) c.reading-item.is in
    let left = next.left c.index-fields-k.result c.index-fields-k.result c.index-records-k.result c.index-records-k.is in
    record {
      place = (out-Reading c.reading-item.result).place + 1;
      first = _;
      left = has_none _ _ _ _ _ _ _ _ _ left (sym (c.has_value.ensures mask _ (next.here c.index-fields-k.result)) ∙ c.if-has_value.false);
      readings = next.more c.index-fields-k.result;
    }

pub fields_have_value-returns : goal.fields_have_value-returns
fields_have_value-returns t c =
    λ mask leaf are.
    let all = all_read _ _ c.args.fields.now c.args.records.now c.args.readings.now c.loop-reading.reading-index (passes_values _ _ _) (c.loop-reading.invariant mask leaf are) (omega (arith, c.loop-reading-test.false)) in
    none_has _ _ _ _ _ all.1.1

pub any_has_value-loop-rec-preserved : goal.any_has_value-loop-rec-preserved
any_has_value-loop-rec-preserved t c =
    let at = recs_at c.args.records.now c.loop-rec.rec-index c.rec-item.result c.loop-rec-test.true in
    record {
      shape = (subst (EachRec (HasShape (group_of c.args.node.now))) at c.loop-rec.invariant.shape).1;
      same = λ mask leaf is. rec_passed (has_value mask (group_of c.args.node.now) leaf) c.args.records.now c.loop-rec.rec-index c.rec-item.result _ c.loop-rec-test.true c.rec-item.is (sym (c.has_value.ensures mask leaf is) ∙ c.if-has_value.false) (c.loop-rec.invariant.same mask leaf is);
    }
