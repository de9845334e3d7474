use Rattle.std.proofs.Common.{◌≡◌, ◌∙◌, sym, ap, subst, map, List, arith}
use Rattle.shred_schema.specs.Groups.{Groups, list_of, groups_from, groups_height}
use Rattle.shred_schema.specs.Recs.{recs_from}
use Rattle.shred_schema.specs.Shapes.{FieldsAreOf}
use Rattle.shred_schema.specs.Views.{group_of, kind_of, groups_of, named, rec_of}
use Rattle.shred_schema.specs.declared.records.Record.{Record}
use Rattle.shred_schema.proofs.Viewed.{fields_are, kind_is_list}
use Rattle.level_striping.proofs.Walks.{part_is_items}
use Rattle.striping_cost.proofs.Filled.{field_filled, fields_filled, field_low, item_filled}
use Rattle.striping_cost.proofs.filling.+fill.Goals as goal

pub filled_fields-filled-requires : goal.filled_fields-filled-requires
filled_fields-filled-requires t c =
    let all : groups_of c.args.fields.now ≡ groups_from (map named c.as_slice-members.result.now) = fields_are c.args.fields.now ∙ sym (ap (λ ms. groups_from (map named ms)) c.as_slice-members.ensures) in
    (omega (arith, field_low c.as_slice-members.result.now c.loop-k.k c.index-members-k.result (omega arith), c.decreases, ap groups_height all), tt)

pub filled_fields-loop-k-preserved : goal.filled_fields-loop-k-preserved
filled_fields-loop-k-preserved t c = field_filled c.as_slice-members.result.now c.loop-k.k c.index-members-k.result (groups_from (map named c.as_slice-members.result.now)) c.loop-k.records.items c.push.new.self.items c.in_ok-filled.field-0 (omega arith) c.in_ok-push.ensures.items c.in_ok-filled.ensures c.loop-k.invariant

pub filled_fields-returns : goal.filled_fields-returns
filled_fields-returns t c =
    let all : groups_of c.args.fields.now ≡ groups_from (map named c.as_slice-members.result.now) = fields_are c.args.fields.now ∙ sym (ap (λ ms. groups_from (map named ms)) c.as_slice-members.ensures) in
    let made = fields_filled c.as_slice-members.result.now c.loop-k.k (groups_from (map named c.as_slice-members.result.now)) c.loop-k.records.items (omega arith) c.loop-k.invariant in
    subst (λ (gs : Groups). FieldsAreOf gs (recs_from (map rec_of c.from_vec.result))) (sym all) (subst (λ (xs : List Record). FieldsAreOf (groups_from (map named c.as_slice-members.result.now)) (recs_from (map rec_of xs))) (sym c.from_vec.ensures) made)

pub filled_items-loop-item-preserved : goal.filled_items-loop-item-preserved
filled_items-loop-item-preserved t c = item_filled (group_of c.args.element.now) c.loop-item.records.items c.push.new.self.items c.in_ok-filled.field-0 c.in_ok-push.ensures.items c.loop-item.invariant c.in_ok-filled.ensures

pub filled_part-returns-in_ok-filled_items-in-Items : goal.filled_part-returns-in_ok-filled_items-in-Items
filled_part-returns-in_ok-filled_items-in-Items t c =
    let kind : kind_of c.args.typed.now ≡ list_of (group_of c.get.result.now) = ap kind_of c.in-Items.is ∙ (kind_is_list c.in-Items.element ∙ ap (λ n. list_of (group_of n)) (sym c.get.ensures)) in
    rw (kind, part_is_items) c.in_ok-filled_items-in-Items.ensures
