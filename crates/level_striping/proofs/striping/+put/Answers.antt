use Rattle.std.specs.List.{flat_map}
use Rattle.std.proofs.Common.{subst, get_or, ◌+◌, ◌≡◌, ◌≤◌, map, drop, length, arith, ap, sym, ◌∙◌}
use Rattle.shred_schema.specs.Groups.{groups_from, groups_width, groups_height, kind_width, kind_height, list_of}
use Rattle.shred_schema.specs.Recs.{recs_from, items}
use Rattle.shred_schema.specs.Views.{groups_of, group_of, kind_of, part_of, named, rec_of}
use Rattle.level_striping.specs.Entries.{entries}
use Rattle.shred_schema.specs.Shapes.{IsOf}
use Rattle.shred_schema.proofs.Viewed.{fields_are, kind_is_list}
use Rattle.level_striping.proofs.Walks.{part_is_items, node_height, rest_width, record_left, fields_next, width_done, entries_done, walk_ends, list_gains, items_done}
use Rattle.level_striping.proofs.striping.+put.Goals as goal

pub put_fields-put_record-requires : goal.put_fields-put_record-requires
put_fields-put_record-requires t c =
    let all : groups_of c.args.fields.now ≡ groups_from (map named c.as_slice-members.result.now) = fields_are c.args.fields.now ∙ sym (ap (λ ms. groups_from (map named ms)) c.as_slice-members.ensures) in
    let low = node_height c.as_slice-members.result.now c.loop-k.k c.index-members-k.result (omega arith) in
    let wide = rest_width c.as_slice-members.result.now c.loop-k.k c.index-members-k.result (omega arith) in
    let there = record_left c.as_slice-members.result.now c.args.records.now c.loop-k.k c.index-members-k.result (omega arith) c.loop-k.invariant.2 in
    let of = fields_next c.as_slice-members.result.now c.args.records.now c.loop-k.k c.index-members-k.result c.index-records-k.result (omega arith) there c.loop-k.invariant.2 in
    (omega (arith, low, c.decreases, ap groups_height all), (subst (λ x. IsOf (group_of (get_or c.as_slice-members.result.now c.loop-k.k c.index-members-k.result).1) (rec_of x)) (sym c.index-records-k.is) of.0, (omega (arith, wide, c.requires.inside, ap groups_width all, c.loop-k.invariant.1, c.loop-k.invariant.0.leaves), (omega (arith, c.requires.short, c.loop-k.invariant.0.leaves), (omega (arith, low, c.requires.lists, ap groups_height all), omega (arith, low, c.requires.level, ap groups_height all))))))

pub put_fields-returns-clause-next : goal.put_fields-returns-clause-next
put_fields-returns-clause-next t c =
    let all : groups_of c.args.fields.now ≡ groups_from (map named c.as_slice-members.result.now) = fields_are c.args.fields.now ∙ sym (ap (λ ms. groups_from (map named ms)) c.as_slice-members.ensures) in
    omega (arith, width_done c.as_slice-members.result.now c.loop-k.k (omega arith), ap groups_width all, c.loop-k.invariant.1)

pub put_fields-returns-clause-gains : goal.put_fields-returns-clause-gains
put_fields-returns-clause-gains t c =
    let all : groups_of c.args.fields.now ≡ groups_from (map named c.as_slice-members.result.now) = fields_are c.args.fields.now ∙ sym (ap (λ ms. groups_from (map named ms)) c.as_slice-members.ensures) in
    let done : length c.as_slice-members.result.now ≤ c.loop-k.k = omega arith in
    rw all (walk_ends _ _ _ _ c.loop-k.invariant.0 (λ j. entries_done c.as_slice-members.result.now c.loop-k.k _ c.loop-k.at c.args.levels.rep c.args.levels.lists c.args.levels.def j done))

pub put_items-returns-after-loop-record_in-clause-gains : goal.put_items-returns-after-loop-record_in-clause-gains
put_items-returns-after-loop-record_in-clause-gains t c =
    let gains = rw c.first_item.ensures at c.in_ok-next-in-Some.ensures.gains in
    rw c.in-Some.ensures.cases.0
    (list_gains c.args.leaves.now c.put_record.new.leaves c.loop-record_in.leaves (group_of c.args.element.now) c.args.leaf c.args.levels.rep c.args.levels.lists c.args.levels.def c.in-Some.first.now c.in-Some.later.now (λ j. flat_map (λ x. entries (group_of c.args.element.now) c.args.leaf (c.args.levels.lists + 1) (c.args.levels.lists + 1) (c.args.levels.def + 2) x j) (map rec_of (drop c.loop-record_in.record_in-index c.in-Some.later.now))) gains c.loop-record_in.invariant.0 (λ j. items_done (λ x. entries (group_of c.args.element.now) c.args.leaf (c.args.levels.lists + 1) (c.args.levels.lists + 1) (c.args.levels.def + 2) x j) c.in-Some.later.now c.loop-record_in.record_in-index (omega arith)))

pub put_part-put_items-requires : goal.put_part-put_items-requires
put_part-put_items-requires t c =
    let kind : kind_of c.args.typed.now ≡ list_of (group_of c.get.result.now) = ap kind_of c.in-Items.is ∙ (kind_is_list c.in-Items.element ∙ ap (λ n. list_of (group_of n)) (sym c.get.ensures)) in
    let held : part_of c.args.part.now ≡ items (recs_from (map rec_of c.as_slice-in-Items-part.result.now)) = ap part_of c.in-Items-part.is ∙ (part_is_items c.in-Items-part.records ∙ ap (λ xs. items (recs_from (map rec_of xs))) (sym c.as_slice-in-Items-part.ensures)) in
    (omega (arith, c.decreases, ap kind_height kind), (rw (kind, held) at c.requires.of, (omega (arith, ap kind_width kind, c.requires.inside), (omega (arith, c.requires.short), (omega (arith, ap kind_height kind, c.requires.lists), omega (arith, ap kind_height kind, c.requires.level))))))
