use Rattle.std.proofs.Common.{◌≡◌, ◌∙◌, ◌≤◌, sym, ap, subst, map, drop, length, get_or, arith}
use Rattle.shred_schema.specs.Groups.{groups_from, groups_height, kind_width, kind_height, list_of}
use Rattle.shred_schema.specs.Recs.{recs_from, items}
use Rattle.shred_schema.specs.Shapes.{IsOf}
use Rattle.shred_schema.specs.Views.{groups_of, group_of, kind_of, part_of, named, rec_of}
use Rattle.shred_schema.proofs.Viewed.{fields_are, kind_is_list}
use Rattle.level_striping.specs.Counts.{entry_count}
use Rattle.level_striping.proofs.Walks.{part_is_items, node_height, rest_width, record_left, fields_next, count_next, count_done}
use Rattle.level_striping.proofs.counting.+total.Goals as goal

pub fields_total-record_total-requires : goal.fields_total-record_total-requires
fields_total-record_total-requires t c =
    let all : groups_of c.args.fields.now ≡ groups_from (map named c.as_slice-members.result.now) = fields_are c.args.fields.now ∙ sym (ap (λ ms. groups_from (map named ms)) c.as_slice-members.ensures) in
    let low = node_height c.as_slice-members.result.now c.loop-k.k c.index-members-k.result (omega arith) in
    let wide = rest_width c.as_slice-members.result.now c.loop-k.k c.index-members-k.result (omega arith) in
    let there = record_left c.as_slice-members.result.now c.args.records.now c.loop-k.k c.index-members-k.result (omega arith) c.loop-k.invariant.3 in
    let of = fields_next c.as_slice-members.result.now c.args.records.now c.loop-k.k c.index-members-k.result c.index-records-k.result (omega arith) there c.loop-k.invariant.3 in
    (omega (arith, low, c.decreases, ap groups_height all), (subst (λ x. IsOf (group_of (get_or c.as_slice-members.result.now c.loop-k.k c.index-members-k.result).1) (rec_of x)) (sym c.index-records-k.is) of.0, omega (arith, wide, c.loop-k.invariant.2)))

pub fields_total-loop-k-preserved : goal.fields_total-loop-k-preserved
fields_total-loop-k-preserved t c =
    let wide = rest_width c.as_slice-members.result.now c.loop-k.k c.index-members-k.result (omega arith) in
    let there = record_left c.as_slice-members.result.now c.args.records.now c.loop-k.k c.index-members-k.result (omega arith) c.loop-k.invariant.3 in
    let of = fields_next c.as_slice-members.result.now c.args.records.now c.loop-k.k c.index-members-k.result c.index-records-k.result (omega arith) there c.loop-k.invariant.3 in
    let step = count_next c.as_slice-members.result.now c.args.records.now c.loop-k.k c.index-members-k.result c.index-records-k.result (omega arith) there in
    let same = ap (λ x. entry_count (group_of (get_or c.as_slice-members.result.now c.loop-k.k c.index-members-k.result).1) (rec_of x)) c.index-records-k.is in
    (omega (arith, step, same, c.record_total.ensures, c.saturating_add-total.ensures, c.loop-k.invariant.0), omega (arith, c.saturating_add-total.ensures), omega (arith, wide, c.loop-k.invariant.2), of.1)

pub fields_total-returns : goal.fields_total-returns
fields_total-returns t c =
    let all : groups_of c.args.fields.now ≡ groups_from (map named c.as_slice-members.result.now) = fields_are c.args.fields.now ∙ sym (ap (λ ms. groups_from (map named ms)) c.as_slice-members.ensures) in
    let done : length c.as_slice-members.result.now ≤ c.loop-k.k = omega arith in
    let none = count_done c.as_slice-members.result.now c.loop-k.k (recs_from (map rec_of (drop c.loop-k.k c.args.records.now))) done in
    rw all (omega (arith, none, c.loop-k.invariant.0, c.loop-k.invariant.1))

pub part_total-items_total-requires : goal.part_total-items_total-requires
part_total-items_total-requires t c =
    let kind : kind_of c.args.typed.now ≡ list_of (group_of c.get.result.now) = ap kind_of c.in-Items.is ∙ (kind_is_list c.in-Items.element ∙ ap (λ n. list_of (group_of n)) (sym c.get.ensures)) in
    let held : part_of c.args.part.now ≡ items (recs_from (map rec_of c.as_slice-in-Items-part.result.now)) = ap part_of c.in-Items-part.is ∙ (part_is_items c.in-Items-part.records ∙ ap (λ xs. items (recs_from (map rec_of xs))) (sym c.as_slice-in-Items-part.ensures)) in
    (omega (arith, c.decreases, ap kind_height kind), (rw (kind, held) at c.requires.of, omega (arith, ap kind_width kind, c.requires.few)))
