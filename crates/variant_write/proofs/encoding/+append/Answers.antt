use Rattle.std.proofs.Common.{◌≡◌, ◌∙◌, ◌+◌, ◌-◌, ◌<◌, ◌≤◌, ◌^◌, refl, ap, sym, subst, ℕ, List, [], take, drop, length, append-nil, map, rules, arith}
use denote.Param.Weighed.{at_most}
use Rattle.std.specs.List.{concat}
use Rattle.json_tree.specs.Inside.{items_sized, members_sized}
use Rattle.json_tree.specs.Json.{Json, Parts, Fields, parts_depth, fields_depth, parts_of, fields_of}
use Rattle.json_tree.specs.Text.{text_of, more_parts, more_fields}
use Rattle.json_tree.specs.View.{view, seen}
use Rattle.json_tree.specs.declared.types.Items.TheDeep.{size-Tree}
use Rattle.vs_bytes.proofs.Growing.{grows_more}
use Rattle.variant_meta.specs.Written.{ends_from}
use Rattle.variant_write.specs.Coded.{coded, elements_coded, values_coded, ids_of}
use Rattle.variant_write.specs.Conditions.{ElementsHaveNames, FieldsHaveNames, max_text_len}
use Rattle.variant_write.specs.Layout.{composed}
use Rattle.variant_write.proofs.Gathering.{Gathers, gathers_next, next_end, gathered_bytes, gathered_ends, stands, stands_after, ends_most}
use Rattle.variant_write.proofs.Limits.{text_within, others_within, value_within, fields_left_within, elements_total, elements_few, values_total, values_few}
use Rattle.variant_write.proofs.Sizes.{ends_len}
use Rattle.variant_write.proofs.Walks.{parts_next, parts_end, fields_next, fields_end, array_names, array_small, object_names, object_small}
use Rattle.variant_write.proofs.encoding.+append.Goals as goal

pub append-append_text-requires : goal.append-append_text-requires
append-append_text-requires t c =
    let small = subst (λ (j : Json). length (text_of j) ≤ max_text_len) (ap view c.in-Text.is) c.requires.small in
    let within = text_within c.in-Text.text max_text_len small in
    omega (arith, within, ap length c.as_bytes.ensures)

pub append-append_array-requires : goal.append-append_array-requires
append-append_array-requires t c =
    let is = ap view c.in-Array.is in (
      omega (arith, items_sized c.as_slice.result.now, ap parts_depth c.as_slice.ensures.seen, c.decreases, ap size-Tree c.in-Array.is),
      (
        array_names c.args.dict.now _ _ _ is c.as_slice.ensures.seen c.requires.names,
        (
          array_small max_text_len _ _ _ is c.as_slice.ensures.seen c.requires.small,
          c.requires.widths,
        ),
      ),
    )

pub append-append_object-requires : goal.append-append_object-requires
append-append_object-requires t c =
    let is = ap view c.in-Object.is in (
      omega (arith, members_sized c.as_slice-in-Object.result.now, ap fields_depth c.as_slice-in-Object.ensures.seen, c.decreases, ap size-Tree c.in-Object.is),
      (
        object_names c.args.dict.now _ _ _ is c.as_slice-in-Object.ensures.seen c.requires.names,
        (
          object_small max_text_len _ _ _ is c.as_slice-in-Object.ensures.seen c.requires.small,
          c.requires.widths,
        ),
      ),
    )

pub append_array-compose_array-requires-clause-small : goal.append_array-compose_array-requires-clause-small
append_array-compose_array-requires-clause-small t c =
    let items = elements_coded c.args.dict.now (parts_of (map view c.args.trees.now)) c.args.widths in
    let start : c.len-start.result ≡ length c.args.spare.now.items = grind arith in
    let first : c.len-first.result ≡ length c.args.ends.now.items = grind arith in
    let last = c.rest-items.ensures ∙ ap (drop c.len-start.result) c.as_slice.ensures.value ∙ stands c.args.spare.now.items (concat items) c.append_elements.new.into.items c.len-start.result c.in_ok-append_elements.ensures.ok start in
    subst (λ (xs : List ℕ). length xs < 2 ^ 32) (sym last) (elements_total c.args.dict.now (parts_of (map view c.args.trees.now)) c.args.widths c.requires.widths c.requires.small)

pub append_array-compose_array-requires-clause-few : goal.append_array-compose_array-requires-clause-few
append_array-compose_array-requires-clause-few t c =
    let items = elements_coded c.args.dict.now (parts_of (map view c.args.trees.now)) c.args.widths in
    let start : c.len-start.result ≡ length c.args.spare.now.items = grind arith in
    let first : c.len-first.result ≡ length c.args.ends.now.items = grind arith in
    let ends = c.since.ensures ∙ ap (drop c.len-first.result) (c.as_slice-2.ensures.value) ∙ stands c.args.ends.now.items (ends_from 0 items) c.append_elements.new.ends.items c.len-first.result c.in_ok-append_elements.ensures.ends first in
    omega (arith, ap length ends, ends_len 0 items, elements_few c.args.dict.now (parts_of (map view c.args.trees.now)) c.args.widths c.requires.small)

pub append_array-compose_array-requires-clause-ends : goal.append_array-compose_array-requires-clause-ends
append_array-compose_array-requires-clause-ends t c =
    let items = elements_coded c.args.dict.now (parts_of (map view c.args.trees.now)) c.args.widths in
    let start : c.len-start.result ≡ length c.args.spare.now.items = grind arith in
    let first : c.len-first.result ≡ length c.args.ends.now.items = grind arith in
    let last = c.rest-items.ensures ∙ ap (drop c.len-start.result) c.as_slice.ensures.value ∙ stands c.args.spare.now.items (concat items) c.append_elements.new.into.items c.len-start.result c.in_ok-append_elements.ensures.ok start in
    let ends = c.since.ensures ∙ ap (drop c.len-first.result) (c.as_slice-2.ensures.value) ∙ stands c.args.ends.now.items (ends_from 0 items) c.append_elements.new.ends.items c.len-first.result c.in_ok-append_elements.ensures.ends first in
    rw (ends, last) (ends_most items)

pub append_array-returns-clause-ok : goal.append_array-returns-clause-ok
unfolding coded composed
append_array-returns-clause-ok t c =
    let items = elements_coded c.args.dict.now (parts_of (map view c.args.trees.now)) c.args.widths in
    let start : c.len-start.result ≡ length c.args.spare.now.items = grind arith in
    let first : c.len-first.result ≡ length c.args.ends.now.items = grind arith in
    let last = c.rest-items.ensures ∙ ap (drop c.len-start.result) c.as_slice.ensures.value ∙ stands c.args.spare.now.items (concat items) c.append_elements.new.into.items c.len-start.result c.in_ok-append_elements.ensures.ok start in
    let ends = c.since.ensures ∙ ap (drop c.len-first.result) (c.as_slice-2.ensures.value) ∙ stands c.args.ends.now.items (ends_from 0 items) c.append_elements.new.ends.items c.len-first.result c.in_ok-append_elements.ensures.ends first in
    c.in_ok-compose_array.ensures.ok ∙ rw (c.in_ok-append_elements.ensures.spare, ends, last) refl

pub append_array-returns-clause-spare : goal.append_array-returns-clause-spare
append_array-returns-clause-spare t c =
    let items = elements_coded c.args.dict.now (parts_of (map view c.args.trees.now)) c.args.widths in
    let start : c.len-start.result ≡ length c.args.spare.now.items = grind arith in
    let first : c.len-first.result ≡ length c.args.ends.now.items = grind arith in
    c.truncate.ensures.items ∙ stands_after c.args.spare.now.items (concat items) c.append_elements.new.into.items c.len-start.result c.in_ok-append_elements.ensures.ok start

pub append_array-returns-clause-spare_grows : goal.append_array-returns-clause-spare_grows
append_array-returns-clause-spare_grows t c =
    let items = elements_coded c.args.dict.now (parts_of (map view c.args.trees.now)) c.args.widths in
    let start : c.len-start.result ≡ length c.args.spare.now.items = grind arith in
    let first : c.len-first.result ≡ length c.args.ends.now.items = grind arith in
    ([], c.truncate.ensures.items ∙ stands_after c.args.spare.now.items (concat items) c.append_elements.new.into.items c.len-start.result c.in_ok-append_elements.ensures.ok start ∙ sym (append-nil c.args.spare.now.items))

pub append_elements-overflow_cast-len : goal.append_elements-overflow_cast-len
unfolding coded elements_coded values_coded
append_elements-overflow_cast-len t c =
    let trees = c.args.trees.now in
    let i = c.loop-tree.tree-index in
    let next = parts_next trees i c.tree-item.result c.loop-tree-test.true c.tree-item.is in
    let names = c.args.dict.now in
    let others = parts_of (map view (drop (i + 1) trees)) in
    let end = next_end c.args.into.now.items c.args.ends.now.items (elements_coded names (parts_of (map view trees)) c.args.widths) c.loop-tree.into.items c.loop-tree.ends.items _ (elements_coded names others c.args.widths) (coded names (view c.tree-item.result) c.args.widths) c.append.new.into.items c.loop-tree.invariant.gathers (ap (λ (ps : Parts). elements_coded names ps c.args.widths) next) c.in_ok-append.ensures.ok in
    let most = end.1 in
    let start : c.len-start.result ≡ length c.args.into.now.items = grind arith in
    let now : c.len.result ≡ length c.append.new.into.items = grind arith in
    omega (arith, most, start, now, elements_total names (parts_of (map view trees)) c.args.widths c.requires.widths c.requires.small)

pub append_elements-loop-tree-preserved : goal.append_elements-loop-tree-preserved
unfolding coded elements_coded values_coded
append_elements-loop-tree-preserved t c =
    let trees = c.args.trees.now in
    let i = c.loop-tree.tree-index in
    let next = parts_next trees i c.tree-item.result c.loop-tree-test.true c.tree-item.is in
    let names = c.args.dict.now in
    let others = parts_of (map view (drop (i + 1) trees)) in
    let start : c.len-start.result ≡ length c.args.into.now.items = grind arith in
    let now : c.len.result ≡ length c.append.new.into.items = grind arith in
    let place : c.len.result - c.len-start.result ≡ length c.append.new.into.items - length c.args.into.now.items = omega (arith, start, now) in
    record {
      gathers = gathers_next c.args.into.now.items c.args.ends.now.items (elements_coded names (parts_of (map view trees)) c.args.widths) c.loop-tree.into.items c.loop-tree.ends.items _ (elements_coded names others c.args.widths) (coded names (view c.tree-item.result) c.args.widths) c.append.new.into.items c.push.new.self.items c.loop-tree.invariant.gathers (ap (λ (ps : Parts). elements_coded names ps c.args.widths) next) c.in_ok-append.ensures.ok
          (c.in_ok-push.ensures.items ∙ rw (c.in_ok-append.ensures.ends, place) refl);
      names = (subst (ElementsHaveNames names) next c.loop-tree.invariant.names).1;
      spare = c.in_ok-append.ensures.spare ∙ c.loop-tree.invariant.spare;
      small = others_within (view c.tree-item.result) others max_text_len (subst (λ (ps : Parts). length (more_parts ps) ≤ max_text_len) next c.loop-tree.invariant.small);
      grows = rw c.in_ok-append.ensures.ok (grows_more c.args.into.now.items c.loop-tree.into.items (coded names (view c.tree-item.result) c.args.widths) c.loop-tree.invariant.grows);
    }

pub append_elements-returns-clause-ok : goal.append_elements-returns-clause-ok
unfolding coded elements_coded values_coded
append_elements-returns-clause-ok t c =
    let trees = c.args.trees.now in
    let end = ap (λ (ps : Parts). elements_coded c.args.dict.now ps c.args.widths) (parts_end trees c.loop-tree.tree-index c.loop-tree-test.false) in
    let items = elements_coded c.args.dict.now (parts_of (map view trees)) c.args.widths in
    gathered_bytes c.args.into.now.items c.args.ends.now.items items c.loop-tree.into.items c.loop-tree.ends.items (subst (Gathers c.args.into.now.items c.args.ends.now.items items c.loop-tree.into.items c.loop-tree.ends.items) end c.loop-tree.invariant.gathers)

pub append_elements-returns-clause-ends : goal.append_elements-returns-clause-ends
unfolding coded elements_coded values_coded
append_elements-returns-clause-ends t c =
    let trees = c.args.trees.now in
    let end = ap (λ (ps : Parts). elements_coded c.args.dict.now ps c.args.widths) (parts_end trees c.loop-tree.tree-index c.loop-tree-test.false) in
    let items = elements_coded c.args.dict.now (parts_of (map view trees)) c.args.widths in
    gathered_ends c.args.into.now.items c.args.ends.now.items items c.loop-tree.into.items c.loop-tree.ends.items (subst (Gathers c.args.into.now.items c.args.ends.now.items items c.loop-tree.into.items c.loop-tree.ends.items) end c.loop-tree.invariant.gathers)

pub append_object-compose_object-requires-clause-small : goal.append_object-compose_object-requires-clause-small
append_object-compose_object-requires-clause-small t c =
    let items = values_coded c.args.dict.now (fields_of (map seen c.args.pairs.now)) c.args.widths in
    let start : c.len-start.result ≡ length c.args.spare.now.items = grind arith in
    let first : c.len-first.result ≡ length c.args.ends.now.items = grind arith in
    let last = c.rest-values.ensures ∙ ap (drop c.len-start.result) c.as_slice-2.ensures.value ∙ stands c.args.spare.now.items (concat items) c.append_values.new.into.items c.len-start.result c.in_ok-append_values.ensures.ok start in
    subst (λ (xs : List ℕ). length xs < 2 ^ 32) (sym last) (values_total c.args.dict.now (fields_of (map seen c.args.pairs.now)) c.args.widths c.requires.widths c.requires.small)

pub append_object-compose_object-requires-clause-few : goal.append_object-compose_object-requires-clause-few
append_object-compose_object-requires-clause-few t c =
    let items = values_coded c.args.dict.now (fields_of (map seen c.args.pairs.now)) c.args.widths in
    let start : c.len-start.result ≡ length c.args.spare.now.items = grind arith in
    let first : c.len-first.result ≡ length c.args.ends.now.items = grind arith in
    let middle : c.len-middle.result ≡ length c.append_values.new.ends.items = grind arith in
    let ends = c.since.ensures ∙ ap (drop c.len-first.result) (c.split_at.ensures.front ∙ ap (take c.len-middle.result) c.as_slice.ensures.value ∙ stands_after c.append_values.new.ends.items (ids_of c.args.dict.now (fields_of (map seen c.args.pairs.now))) c.append_ids.new.into.items c.len-middle.result c.in_ok-append_ids.ensures middle) ∙ stands c.args.ends.now.items (ends_from 0 items) c.append_values.new.ends.items c.len-first.result c.in_ok-append_values.ensures.ends first in
    omega (arith, ap length ends, ends_len 0 items, values_few c.args.dict.now (fields_of (map seen c.args.pairs.now)) c.args.widths c.requires.small)

pub append_object-compose_object-requires-clause-ends : goal.append_object-compose_object-requires-clause-ends
append_object-compose_object-requires-clause-ends t c =
    let items = values_coded c.args.dict.now (fields_of (map seen c.args.pairs.now)) c.args.widths in
    let start : c.len-start.result ≡ length c.args.spare.now.items = grind arith in
    let first : c.len-first.result ≡ length c.args.ends.now.items = grind arith in
    let middle : c.len-middle.result ≡ length c.append_values.new.ends.items = grind arith in
    let last = c.rest-values.ensures ∙ ap (drop c.len-start.result) c.as_slice-2.ensures.value ∙ stands c.args.spare.now.items (concat items) c.append_values.new.into.items c.len-start.result c.in_ok-append_values.ensures.ok start in
    let ends = c.since.ensures ∙ ap (drop c.len-first.result) (c.split_at.ensures.front ∙ ap (take c.len-middle.result) c.as_slice.ensures.value ∙ stands_after c.append_values.new.ends.items (ids_of c.args.dict.now (fields_of (map seen c.args.pairs.now))) c.append_ids.new.into.items c.len-middle.result c.in_ok-append_ids.ensures middle) ∙ stands c.args.ends.now.items (ends_from 0 items) c.append_values.new.ends.items c.len-first.result c.in_ok-append_values.ensures.ends first in
    rw (ends, last) (ends_most items)

pub append_object-returns-clause-ok : goal.append_object-returns-clause-ok
unfolding coded composed
append_object-returns-clause-ok t c =
    let items = values_coded c.args.dict.now (fields_of (map seen c.args.pairs.now)) c.args.widths in
    let start : c.len-start.result ≡ length c.args.spare.now.items = grind arith in
    let first : c.len-first.result ≡ length c.args.ends.now.items = grind arith in
    let middle : c.len-middle.result ≡ length c.append_values.new.ends.items = grind arith in
    let last = c.rest-values.ensures ∙ ap (drop c.len-start.result) c.as_slice-2.ensures.value ∙ stands c.args.spare.now.items (concat items) c.append_values.new.into.items c.len-start.result c.in_ok-append_values.ensures.ok start in
    let ends = c.since.ensures ∙ ap (drop c.len-first.result) (c.split_at.ensures.front ∙ ap (take c.len-middle.result) c.as_slice.ensures.value ∙ stands_after c.append_values.new.ends.items (ids_of c.args.dict.now (fields_of (map seen c.args.pairs.now))) c.append_ids.new.into.items c.len-middle.result c.in_ok-append_ids.ensures middle) ∙ stands c.args.ends.now.items (ends_from 0 items) c.append_values.new.ends.items c.len-first.result c.in_ok-append_values.ensures.ends first in
    let ids = c.split_at.ensures.back ∙ ap (drop c.len-middle.result) c.as_slice.ensures.value ∙ stands c.append_values.new.ends.items (ids_of c.args.dict.now (fields_of (map seen c.args.pairs.now))) c.append_ids.new.into.items c.len-middle.result c.in_ok-append_ids.ensures middle in
    c.in_ok-compose_object.ensures.ok ∙ rw (c.in_ok-append_values.ensures.spare, ends, ids, last) refl

pub append_object-returns-clause-spare : goal.append_object-returns-clause-spare
append_object-returns-clause-spare t c =
    let items = values_coded c.args.dict.now (fields_of (map seen c.args.pairs.now)) c.args.widths in
    let start : c.len-start.result ≡ length c.args.spare.now.items = grind arith in
    let first : c.len-first.result ≡ length c.args.ends.now.items = grind arith in
    c.truncate.ensures.items ∙ stands_after c.args.spare.now.items (concat items) c.append_values.new.into.items c.len-start.result c.in_ok-append_values.ensures.ok start

pub append_object-returns-clause-spare_grows : goal.append_object-returns-clause-spare_grows
append_object-returns-clause-spare_grows t c =
    let items = values_coded c.args.dict.now (fields_of (map seen c.args.pairs.now)) c.args.widths in
    let start : c.len-start.result ≡ length c.args.spare.now.items = grind arith in
    let first : c.len-first.result ≡ length c.args.ends.now.items = grind arith in
    ([], c.truncate.ensures.items ∙ stands_after c.args.spare.now.items (concat items) c.append_values.new.into.items c.len-start.result c.in_ok-append_values.ensures.ok start ∙ sym (append-nil c.args.spare.now.items))

pub append_values-append-requires : goal.append_values-append-requires
append_values-append-requires t c =
    let pairs = c.args.pairs.now in
    let i = c.loop-pair.pair-index in
    let pair = c.pair-item.result in
    let others = fields_of (map seen (drop (i + 1) pairs)) in
    let next = fields_next pairs i pair c.loop-pair-test.true c.pair-item.is in (
      first_of (search rules, search (rules, at_most), grind (arith, at_most)),
      (
        (subst (FieldsHaveNames c.args.dict.now) next c.loop-pair.invariant.names).1,
        (
          value_within pair.0 (view pair.1) others max_text_len (subst (λ (fs : Fields). length (more_fields fs) ≤ max_text_len) next c.loop-pair.invariant.small),
          c.requires.widths,
        ),
      ),
    )

pub append_values-overflow_cast-len : goal.append_values-overflow_cast-len
unfolding coded elements_coded values_coded
append_values-overflow_cast-len t c =
    let pairs = c.args.pairs.now in
    let i = c.loop-pair.pair-index in
    let next = fields_next pairs i c.pair-item.result c.loop-pair-test.true c.pair-item.is in
    let names = c.args.dict.now in
    let others = fields_of (map seen (drop (i + 1) pairs)) in
    let end = next_end c.args.into.now.items c.args.ends.now.items (values_coded names (fields_of (map seen pairs)) c.args.widths) c.loop-pair.into.items c.loop-pair.ends.items _ (values_coded names others c.args.widths) (coded names (view c.pair-item.result.1) c.args.widths) c.append.new.into.items c.loop-pair.invariant.gathers (ap (λ (fs : Fields). values_coded names fs c.args.widths) next) c.in_ok-append.ensures.ok in
    let most = end.1 in
    let start : c.len-start.result ≡ length c.args.into.now.items = grind arith in
    let now : c.len.result ≡ length c.append.new.into.items = grind arith in
    omega (arith, most, start, now, values_total names (fields_of (map seen pairs)) c.args.widths c.requires.widths c.requires.small)

pub append_values-loop-pair-preserved : goal.append_values-loop-pair-preserved
unfolding coded elements_coded values_coded
append_values-loop-pair-preserved t c =
    let pairs = c.args.pairs.now in
    let i = c.loop-pair.pair-index in
    let next = fields_next pairs i c.pair-item.result c.loop-pair-test.true c.pair-item.is in
    let names = c.args.dict.now in
    let others = fields_of (map seen (drop (i + 1) pairs)) in
    let start : c.len-start.result ≡ length c.args.into.now.items = grind arith in
    let now : c.len.result ≡ length c.append.new.into.items = grind arith in
    let place : c.len.result - c.len-start.result ≡ length c.append.new.into.items - length c.args.into.now.items = omega (arith, start, now) in
    record {
      gathers = gathers_next c.args.into.now.items c.args.ends.now.items (values_coded names (fields_of (map seen pairs)) c.args.widths) c.loop-pair.into.items c.loop-pair.ends.items _ (values_coded names others c.args.widths) (coded names (view c.pair-item.result.1) c.args.widths) c.append.new.into.items c.push.new.self.items c.loop-pair.invariant.gathers (ap (λ (fs : Fields). values_coded names fs c.args.widths) next) c.in_ok-append.ensures.ok
          (c.in_ok-push.ensures.items ∙ rw (c.in_ok-append.ensures.ends, place) refl);
      names = (subst (FieldsHaveNames names) next c.loop-pair.invariant.names).2;
      spare = c.in_ok-append.ensures.spare ∙ c.loop-pair.invariant.spare;
      small = fields_left_within c.pair-item.result.0 (view c.pair-item.result.1) others max_text_len (subst (λ (fs : Fields). length (more_fields fs) ≤ max_text_len) next c.loop-pair.invariant.small);
      grows = rw c.in_ok-append.ensures.ok (grows_more c.args.into.now.items c.loop-pair.into.items (coded names (view c.pair-item.result.1) c.args.widths) c.loop-pair.invariant.grows);
    }

pub append_values-returns-clause-ok : goal.append_values-returns-clause-ok
unfolding coded elements_coded values_coded
append_values-returns-clause-ok t c =
    let pairs = c.args.pairs.now in
    let end = ap (λ (fs : Fields). values_coded c.args.dict.now fs c.args.widths) (fields_end pairs c.loop-pair.pair-index c.loop-pair-test.false) in
    let items = values_coded c.args.dict.now (fields_of (map seen pairs)) c.args.widths in
    gathered_bytes c.args.into.now.items c.args.ends.now.items items c.loop-pair.into.items c.loop-pair.ends.items (subst (Gathers c.args.into.now.items c.args.ends.now.items items c.loop-pair.into.items c.loop-pair.ends.items) end c.loop-pair.invariant.gathers)

pub append_values-returns-clause-ends : goal.append_values-returns-clause-ends
unfolding coded elements_coded values_coded
append_values-returns-clause-ends t c =
    let pairs = c.args.pairs.now in
    let end = ap (λ (fs : Fields). values_coded c.args.dict.now fs c.args.widths) (fields_end pairs c.loop-pair.pair-index c.loop-pair-test.false) in
    let items = values_coded c.args.dict.now (fields_of (map seen pairs)) c.args.widths in
    gathered_ends c.args.into.now.items c.args.ends.now.items items c.loop-pair.into.items c.loop-pair.ends.items (subst (Gathers c.args.into.now.items c.args.ends.now.items items c.loop-pair.into.items c.loop-pair.ends.items) end c.loop-pair.invariant.gathers)
