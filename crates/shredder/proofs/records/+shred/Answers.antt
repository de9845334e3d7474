use Rattle.std.proofs.Common.{◌≡◌, ◌∙◌, ◌≤◌, ◌++◌, length, sym, ap, map, arith, subst}
use Rattle.std.proofs.lemmas.List.{drop_all}
use Rattle.json_tree.specs.Json.{array, object, names_of, parts_of}
use Rattle.json_tree.specs.View.{view}
use Rattle.json_tree.specs.Text.{text_of}
use Rattle.variant_write.specs.Chosen.{chosen}
use Rattle.variant_write.specs.Conditions.{HasNames, max_text_len}
use Rattle.variant_write.proofs.Limits.{fields_within}
use Rattle.shred_schema.specs.Groups.{Groups, no_groups, list_of, object_of, groups_from, groups_nesting, kind_nesting}
use Rattle.shred_schema.specs.Lawful.{EachIn, EachField, HasValue, IsWritten}
use Rattle.shred_schema.specs.Recs.{recs_in, recs_from}
use Rattle.shred_schema.specs.Views.{group_of, kind_of, rec_of, named}
use Rattle.shred_schema.proofs.Viewed.{kind_is_list, kind_is_object, fields_at, fields_end, rec_is}
use Rattle.shredder.specs.Shredded.{by_names, shredded, field_record, fields_shredded, items_shredded, members_left}
use Rattle.shredder.proofs.Held.{array_held, found_held}
use Rattle.shredder.proofs.Made.{record_made, records_whole, list_node, array_made, object_made}
use Rattle.shredder.proofs.Taken.{taken_len, taken_turn, taken_are, as_many}
use Rattle.shredder.proofs.records.+shred.Goals as goal

pub typed_shredded-items_shredded-requires : goal.typed_shredded-items_shredded-requires
typed_shredded-items_shredded-requires t c =
    let kind : kind_of c.args.typed.now ≡ list_of (group_of c.get.result.now) =
    ap kind_of c.in-Items.is ∙ kind_is_list _ ∙ ap (λ n. list_of (group_of n)) (sym c.get.ensures) in
    let tree : view c.args.tree.now ≡ array c.in-Array.items = ap view c.in-Array.is in
    let held = array_held c.args.dict.now max_text_len (view c.args.tree.now) c.in-Array.items (map view c.as_slice-in-Array.result.now) tree c.as_slice-in-Array.ensures.seen c.requires.names c.requires.small in
    (omega (arith, ap kind_nesting kind), (list_node _ _ kind c.requires.node, (held.0, (held.1, c.requires.widths))))

pub typed_shredded-returns-in_ok-records-in-Array : goal.typed_shredded-returns-in_ok-records-in-Array
typed_shredded-returns-in_ok-records-in-Array t c =
    let kind : kind_of c.args.typed.now ≡ list_of (group_of c.get.result.now) =
    ap kind_of c.in-Items.is ∙ kind_is_list _ ∙ ap (λ n. list_of (group_of n)) (sym c.get.ensures) in
    let tree : view c.args.tree.now ≡ array (parts_of (map view c.as_slice-in-Array.result.now)) = ap view c.in-Array.is ∙ ap array c.as_slice-in-Array.ensures.seen in
    c.typed_alone-in-Array.ensures ∙ array_made (by_names c.args.dict.now c.args.widths) _ _ _ _ _ kind tree c.in_ok-records-in-Array.ensures

pub typed_shredded-fields_shredded-requires : goal.typed_shredded-fields_shredded-requires
typed_shredded-fields_shredded-requires t c =
    let kind : kind_of c.args.typed.now ≡ object_of (groups_from (map named c.as_slice-fields.result.now)) =
    ap kind_of c.in-Fields.is ∙ kind_is_object c.in-Fields.fields ∙ ap (λ fs. object_of (groups_from (map named fs))) (sym c.as_slice-fields.ensures) in
    let tree : view c.args.tree.now ≡ object c.in-Object.members = ap view c.in-Object.is in
    let each : length c.in_ok-kept-in-Object.kept.members.items ≡ length (names_of c.in-Object.members) = ap length c.in_ok-kept-in-Object.ensures ∙ as_many no_groups c.in-Object.members in
    (omega (arith, ap kind_nesting kind), (each, ((subst (EachIn HasValue IsWritten) kind c.requires.node).1, (subst (HasNames c.args.dict.now) tree c.requires.names, (subst (λ j. length (text_of j) ≤ max_text_len) tree c.requires.small, c.requires.widths)))))

pub typed_shredded-members_left-requires-clause-each : goal.typed_shredded-members_left-requires-clause-each
typed_shredded-members_left-requires-clause-each t c =
    ap length (c.as_slice.ensures.value ∙ taken_are (groups_from (map named c.as_slice-fields.result.now)) c.in-Object.members _ _ c.in_ok-kept-in-Object.ensures c.in_ok-records-in-Object.ensures.kept) ∙ as_many (groups_from (map named c.as_slice-fields.result.now)) c.in-Object.members

pub typed_shredded-returns-in_ok-value-in-Object : goal.typed_shredded-returns-in_ok-value-in-Object
typed_shredded-returns-in_ok-value-in-Object t c =
    let kind : kind_of c.args.typed.now ≡ object_of (groups_from (map named c.as_slice-fields.result.now)) =
    ap kind_of c.in-Fields.is ∙ kind_is_object c.in-Fields.fields ∙ ap (λ fs. object_of (groups_from (map named fs))) (sym c.as_slice-fields.ensures) in
    let tree : view c.args.tree.now ≡ object c.in-Object.members = ap view c.in-Object.is in
    let taken = c.as_slice.ensures.value ∙ taken_are (groups_from (map named c.as_slice-fields.result.now)) c.in-Object.members _ _ c.in_ok-kept-in-Object.ensures c.in_ok-records-in-Object.ensures.kept in
    let left = c.in_ok-value-in-Object.ensures ∙ ap (λ kept. members_left (by_names c.args.dict.now c.args.widths) (chosen kept c.in-Object.members)) taken in
    rec_is _ ∙ object_made (by_names c.args.dict.now c.args.widths) _ _ _ _ _ _ kind tree left c.in_ok-records-in-Object.ensures.made

pub fields_shredded-loop-k-preserved : goal.fields_shredded-loop-k-preserved
fields_shredded-loop-k-preserved t c =
    let at = fields_at c.args.fields.now c.loop-k.k c.index-fields-k.result c.index-fields-k-in-loop-k.result c.loop-k-test.true in
    let before = ap (λ gs. map rec_of c.loop-k.records.items ++ recs_in (fields_shredded (by_names c.args.dict.now c.args.widths) gs c.args.members.now)) (sym at) ∙ c.loop-k.invariant.same in
    let made = c.in_ok-field_record.ensures ∙ ap (field_record (shredded (by_names c.args.dict.now c.args.widths) _)) c.take-found.ensures.value in
    record {
      nodes = (subst (EachField HasValue IsWritten) at c.loop-k.invariant.nodes).1;
      inside = omega (arith, ap groups_nesting at, c.loop-k.invariant.inside);
      same = record_made _ _ _ _ _ _ c.in_ok-push.ensures.items before made;
      each = taken_len _ _ _ _ _ c.take-found.ensures.kept c.loop-k.invariant.each;
      kept = taken_turn _ _ _ _ _ _ _ _ at c.take-found.ensures.kept c.loop-k.invariant.kept;
    }

pub fields_shredded-field_record-requires : goal.fields_shredded-field_record-requires
fields_shredded-field_record-requires t c =
    let at = fields_at c.args.fields.now c.loop-k.k c.index-fields-k.result c.index-fields-k-in-loop-k.result c.loop-k-test.true in
    let held = found_held (λ tree. view tree.now) c.args.dict.now _ c.args.members.now max_text_len c.take-found.result c.requires.names (fields_within c.args.members.now max_text_len c.requires.small) c.take-found.ensures.value in
    (omega (arith, ap groups_nesting at, c.loop-k.invariant.inside), ((subst (EachField HasValue IsWritten) at c.loop-k.invariant.nodes).0, (held.0, (held.1, c.requires.widths))))

pub fields_shredded-returns-clause-made : goal.fields_shredded-returns-clause-made
fields_shredded-returns-clause-made t c =
    let none = fields_end c.args.fields.now c.loop-k.k (omega (arith, c.loop-k-test.false)) in
    ap (λ rs. recs_from (map rec_of rs)) c.from_vec.ensures ∙ records_whole c.loop-k.records.items _ _ c.loop-k.invariant.same (ap (λ (gs : Groups). recs_in (fields_shredded (by_names c.args.dict.now c.args.widths) gs c.args.members.now)) none)

pub items_shredded-returns : goal.items_shredded-returns
items_shredded-returns t c =
    let none = drop_all c.loop-tree.tree-index c.args.trees.now (omega (arith, c.loop-tree-test.false)) in
    ap (λ rs. recs_from (map rec_of rs)) c.from_vec.ensures ∙ records_whole c.loop-tree.records.items _ _ c.loop-tree.invariant.same (ap (λ trees. recs_in (items_shredded (shredded (by_names c.args.dict.now c.args.widths) (group_of c.args.node.now)) (parts_of (map view trees)))) none)
