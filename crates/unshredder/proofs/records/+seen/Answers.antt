use Rattle.std.proofs.lemmas.Result.{err_from_is_err_and}
use Rattle.std.proofs.Common.{◌≡◌, ◌∙◌, ◌+◌, refl, sym, ap, ◌<◌, length, map, option_map, [], rules, arith, Vec, Global}
use Rattle.json_tree.specs.View.{view, seen as pair_seen}
use Rattle.json_tree.specs.declared.types.Tree.{Tree}
use Rattle.vs_bytes.specs.declared.utf8_text.Text.{Text}
use Rattle.variant_meta.specs.MetaRefs.{names_of}
use Rattle.variant_read.specs.View.{json_of}
use Rattle.shred_schema.specs.Groups.{list_of, object_of, groups_from, kind_nesting}
use Rattle.shred_schema.specs.Recs.{items, fields, recs_from}
use Rattle.shred_schema.specs.Views.{group_of, kind_of, part_of, part_or_empty, rec_of, named}
use Rattle.shred_schema.proofs.Viewed.{kind_is_list, kind_is_object}
use Rattle.unshredder.proofs.Ahead.{nothing_left, passes_seen, items_whole}
use Rattle.unshredder.specs.declared.readings.Reading.{out-Reading}
use Rattle.unshredder.proofs.Apart.{not_repeated}
use Rattle.unshredder.proofs.NextRead.{next_read, next_field, all_read}
use Rattle.unshredder.proofs.NodesRead.{of_element, of_fields}
use Rattle.unshredder.proofs.OneMore.{put_turned, put_refused}
use Rattle.unshredder.proofs.Parts.{list_nodes, list_shape, list_deep, object_nodes, object_shape, object_deep, part_items, part_fields}
use Rattle.unshredder.proofs.records.+seen.Goals as goal

pub typed_seen-with_items-requires : goal.typed_seen-with_items-requires
typed_seen-with_items-requires t c =
    let kind : kind_of c.args.typed.now ≡ list_of (group_of c.get.result.now) =
    ap kind_of c.in-Items.is ∙ kind_is_list _ ∙ ap (λ n. list_of (group_of n)) (sym c.get.ensures) in
    let part : part_or_empty (option_map part_of c.args.part.now) ≡ items (recs_from (map rec_of c.as_slice-in-Items-part.result.now)) =
    part_items _ _ _ _ c.in-Some-part-2.is c.in-Items-part.is c.as_slice-in-Items-part.ensures in
    let some = c.requires.readings in
    (omega (arith, ap kind_nesting kind), (list_nodes _ _ kind c.requires.nodes, (list_shape _ _ _ _ kind part c.requires.shape, (record { mask = some.mask; leaf = some.leaf; holds = of_element _ _ _ _ _ _ kind c.index-inside-0.is some.holds }, list_deep _ _ c.args.above kind c.requires.deep))))

pub typed_seen-returns-in-Items-part : goal.typed_seen-returns-in-Items-part
typed_seen-returns-in-Items-part t c =
    let kind : kind_of c.args.typed.now ≡ list_of (group_of c.get.result.now) =
    ap kind_of c.in-Items.is ∙ kind_is_list _ ∙ ap (λ n. list_of (group_of n)) (sym c.get.ensures) in
    let part : part_or_empty (option_map part_of c.args.part.now) ≡ items (recs_from (map rec_of c.as_slice-in-Items-part.result.now)) =
    part_items _ _ _ _ c.in-Some-part-2.is c.in-Items-part.is c.as_slice-in-Items-part.ensures in
    λ mask leaf are. rw (kind, part) (c.with_items.ensures mask leaf (of_element _ _ _ _ _ _ kind c.index-inside-0.is are))

pub typed_seen-with_fields-requires : goal.typed_seen-with_fields-requires
typed_seen-with_fields-requires t c =
    let kind : kind_of c.args.typed.now ≡ object_of (groups_from (map named c.as_slice.result.now)) =
    ap kind_of c.in-Fields.is ∙ kind_is_object c.in-Fields.fields ∙ ap (λ fs. object_of (groups_from (map named fs))) (sym c.as_slice.ensures) in
    let part : part_or_empty (option_map part_of c.args.part.now) ≡ fields (recs_from (map rec_of c.as_slice-in-Fields-part.result.now)) =
    part_fields _ _ _ _ c.in-Some-part.is c.in-Fields-part.is c.as_slice-in-Fields-part.ensures in
    let nodes = object_nodes _ _ kind c.requires.nodes in
    let some = c.requires.readings in
    (omega (arith, ap kind_nesting kind), (nodes.0, (nodes.1, (object_shape _ _ _ _ kind part c.requires.shape, (record { mask = some.mask; leaf = some.leaf; holds = of_fields _ _ _ _ _ kind some.holds }, object_deep _ _ c.args.above kind c.requires.deep)))))

pub typed_seen-returns-in-Fields-part : goal.typed_seen-returns-in-Fields-part
typed_seen-returns-in-Fields-part t c =
    let kind : kind_of c.args.typed.now ≡ object_of (groups_from (map named c.as_slice.result.now)) =
    ap kind_of c.in-Fields.is ∙ kind_is_object c.in-Fields.fields ∙ ap (λ fs. object_of (groups_from (map named fs))) (sym c.as_slice.ensures) in
    let part : part_or_empty (option_map part_of c.args.part.now) ≡ fields (recs_from (map rec_of c.as_slice-in-Fields-part.result.now)) =
    part_fields _ _ _ _ c.in-Some-part.is c.in-Fields-part.is c.as_slice-in-Fields-part.ensures in
    λ mask leaf are. rw (kind, part) (c.with_fields.ensures mask leaf (of_fields _ _ _ _ _ kind are))

pub with_fields-unreachable-requires : goal.with_fields-unreachable-requires
with_fields-unreachable-requires t c =
    let some = c.requires.readings in
    let twice = c.in-Err.ensures.repeated.0 (search rules) in
    not_repeated some.mask (names_of c.args.meta.now) (groups_from (map named c.args.fields.now)) some.leaf (c.args.above + 1) (recs_from (map rec_of c.args.records.now)) (option_map json_of c.args.value) _ _ c.requires.object.differ c.in_ok-left.ensures.exact c.in_ok-left.ensures.differ (c.in_ok-pairs.ensures some.mask some.leaf some.holds) twice

pub fields_seen-bounds-fields-k : goal.fields_seen-bounds-fields-k
fields_seen-bounds-fields-k t c =
    let some = c.requires.readings in
    let next = next_read _ _ c.args.fields.now c.args.records.now c.args.readings.now c.loop-reading.reading-index c.reading-item.result (passes_seen _ _ _ _ _ _) (c.loop-reading.invariant some.mask some.leaf some.holds) (omega (arith, c.loop-reading-test.true)) c.reading-item.is in
    next.is_field

pub fields_seen-offset_bounds-fields-k : goal.fields_seen-offset_bounds-fields-k
fields_seen-offset_bounds-fields-k t c =
    let some = c.requires.readings in
    let next = next_read _ _ c.args.fields.now c.args.records.now c.args.readings.now c.loop-reading.reading-index c.reading-item.result (passes_seen _ _ _ _ _ _) (c.loop-reading.invariant some.mask some.leaf some.holds) (omega (arith, c.loop-reading-test.true)) c.reading-item.is in
    let within : (out-Reading c.reading-item.result).place < length c.args.fields.now = next.is_field in
    search rules

pub fields_seen-bounds-records-k : goal.fields_seen-bounds-records-k
fields_seen-bounds-records-k t c =
    let some = c.requires.readings in
    let next = next_read _ _ c.args.fields.now c.args.records.now c.args.readings.now c.loop-reading.reading-index c.reading-item.result (passes_seen _ _ _ _ _ _) (c.loop-reading.invariant some.mask some.leaf some.holds) (omega (arith, c.loop-reading-test.true)) c.reading-item.is in
    next.is_record

pub fields_seen-offset_bounds-records-k : goal.fields_seen-offset_bounds-records-k
fields_seen-offset_bounds-records-k t c =
    let some = c.requires.readings in
    let next = next_read _ _ c.args.fields.now c.args.records.now c.args.readings.now c.loop-reading.reading-index c.reading-item.result (passes_seen _ _ _ _ _ _) (c.loop-reading.invariant some.mask some.leaf some.holds) (omega (arith, c.loop-reading-test.true)) c.reading-item.is in
    let within : (out-Reading c.reading-item.result).place < length c.args.records.now = next.is_record in
    search rules

pub fields_seen-put_field-requires : goal.fields_seen-put_field-requires
fields_seen-put_field-requires t c =
    let some = c.requires.readings in
    let next = next_field _ _ _ _ _ _ _ c.index-fields-k.result (next_read _ _ c.args.fields.now c.args.records.now c.args.readings.now c.loop-reading.reading-index c.reading-item.result (passes_seen _ _ _ _ _ _) (c.loop-reading.invariant some.mask some.leaf some.holds) (omega (arith, c.loop-reading-test.true)) c.reading-item.is) c.index-fields-k.is in
    let left = next.left c.index-records-k.result c.index-records-k.is in
    (omega (arith, left.inside), (left.nodes.0, (left.shape.0, (record { mask = some.mask; leaf = next.first; holds = next.here }, omega (arith, left.inside, c.requires.deep)))))

pub fields_seen-returns-in_err-put_field : goal.fields_seen-returns-in_err-put_field
fields_seen-returns-in_err-put_field t c =
    λ mask leaf are.
    let next = next_field _ _ _ _ _ _ _ c.index-fields-k.result (next_read _ _ c.args.fields.now c.args.records.now c.args.readings.now c.loop-reading.reading-index c.reading-item.result (passes_seen _ _ _ _ _ _) (c.loop-reading.invariant mask leaf are) (omega (arith, c.loop-reading-test.true)) c.reading-item.is) c.index-fields-k.is in
    let left = next.left c.index-records-k.result c.index-records-k.is in
    let fault = err_from_is_err_and c.from_residual.result c.from_residual.ensures.1 in
    rw (fault.1, fault.2) (put_refused {A = Vec (Text × Tree) Global} {B = Text} (λ pairs. map pair_seen pairs.items) (λ none. []) _ _ _ _ _ _ _ _ _ _ _ _ _ left (c.in_err-put_field.ensures mask _ next.here))

pub fields_seen-loop-reading-preserved : goal.fields_seen-loop-reading-preserved
fields_seen-loop-reading-preserved t c =
    λ mask leaf are.
    let next = next_field _ _ _ _ _ _ _ c.index-fields-k.result (next_read _ _ c.args.fields.now c.args.records.now c.args.readings.now c.loop-reading.reading-index c.reading-item.result (passes_seen _ _ _ _ _ _) (c.loop-reading.invariant mask leaf are) (omega (arith, c.loop-reading-test.true)) c.reading-item.is) c.index-fields-k.is in
    let left = next.left c.index-records-k.result c.index-records-k.is in
    record {
      place = (out-Reading c.reading-item.result).place + 1;
      first = _;
      left = put_turned _ _ _ _ _ _ _ _ _ _ _ _ _ left (c.in_ok-put_field.ensures mask _ next.here);
      readings = next.more;
    }

pub fields_seen-returns : goal.fields_seen-returns
fields_seen-returns t c =
    λ mask leaf are.
    let all = all_read _ _ c.args.fields.now c.args.records.now c.args.readings.now c.loop-reading.reading-index (passes_seen _ _ _ _ _ _) (c.loop-reading.invariant mask leaf are) (omega (arith, c.loop-reading-test.false)) in
    nothing_left _ _ _ _ _ _ _ _ all.1.1

pub items_seen-returns : goal.items_seen-returns
items_seen-returns t c =
    λ mask leaf is. items_whole _ _ _ c.args.records.now c.loop-rec.rec-index (map view c.loop-rec.trees.items) _ refl (omega (arith, c.loop-rec-test.false)) (c.loop-rec.invariant.ahead mask leaf is) c.from_vec.ensures
