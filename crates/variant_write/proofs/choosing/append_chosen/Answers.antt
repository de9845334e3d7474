use Rattle.std.proofs.Common.{◌≡◌, ◌∙◌, ◌<◌, ◌≤◌, ◌^◌, ◌++◌, ap, sym, subst, ℕ, List, take, drop, length, map, arith}
use Rattle.std.specs.List.{concat}
use Rattle.json_tree.specs.Json.{fields_of}
use Rattle.json_tree.specs.Text.{more_fields}
use Rattle.json_tree.specs.View.{seen}
use Rattle.variant_meta.specs.Written.{ends_from}
use Rattle.variant_write.specs.Chosen.{chosen}
use Rattle.variant_write.specs.Coded.{coded, values_coded, ids_of}
use Rattle.variant_write.specs.Conditions.{max_text_len}
use Rattle.variant_write.specs.Layout.{composed}
use Rattle.variant_write.proofs.ChosenMembers.{chosen_more}
use Rattle.variant_write.proofs.Gathering.{stands, stands_after, ends_most}
use Rattle.variant_write.proofs.Limits.{values_total, values_few}
use Rattle.variant_write.proofs.Sizes.{ends_len}
use Rattle.variant_write.proofs.choosing.append_chosen.Goals as goal

pub compose_object-requires-clause-small : goal.compose_object-requires-clause-small
compose_object-requires-clause-small c =
    let fields = chosen c.args.kept.now (fields_of (map seen c.args.pairs.now)) in
    let items = values_coded c.args.dict.now fields c.args.widths in
    let short : length (more_fields fields) ≤ max_text_len = omega (arith, chosen_more c.args.kept.now (fields_of (map seen c.args.pairs.now)), c.requires.small) in
    let last = c.as_slice-2.ensures.value ∙ c.in_ok-append_chosen_values.ensures.ok ∙ ap (λ (l : List ℕ). l ++ concat items) c.in_ok-spare.ensures.items in
    subst (λ (xs : List ℕ). length xs < 2 ^ 32) (sym last) (values_total c.args.dict.now fields c.args.widths c.requires.widths short)

pub compose_object-requires-clause-few : goal.compose_object-requires-clause-few
compose_object-requires-clause-few c =
    let fields = chosen c.args.kept.now (fields_of (map seen c.args.pairs.now)) in
    let items = values_coded c.args.dict.now fields c.args.widths in
    let short : length (more_fields fields) ≤ max_text_len = omega (arith, chosen_more c.args.kept.now (fields_of (map seen c.args.pairs.now)), c.requires.small) in
    let middle : c.len-middle.result ≡ length c.append_chosen_values.new.ends.items = grind arith in
    let ends = c.split_at.ensures.front ∙ ap (take c.len-middle.result) c.as_slice.ensures.value ∙ stands_after c.append_chosen_values.new.ends.items (ids_of c.args.dict.now fields) c.append_chosen_ids.new.into.items c.len-middle.result c.in_ok-append_chosen_ids.ensures middle ∙ c.in_ok-append_chosen_values.ensures.ends ∙ ap (λ (l : List ℕ). l ++ ends_from 0 items) c.in_ok-ends.ensures.items in
    omega (arith, ap length ends, ends_len 0 items, values_few c.args.dict.now fields c.args.widths short)

pub compose_object-requires-clause-ends : goal.compose_object-requires-clause-ends
compose_object-requires-clause-ends c =
    let fields = chosen c.args.kept.now (fields_of (map seen c.args.pairs.now)) in
    let items = values_coded c.args.dict.now fields c.args.widths in
    let middle : c.len-middle.result ≡ length c.append_chosen_values.new.ends.items = grind arith in
    let ends = c.split_at.ensures.front ∙ ap (take c.len-middle.result) c.as_slice.ensures.value ∙ stands_after c.append_chosen_values.new.ends.items (ids_of c.args.dict.now fields) c.append_chosen_ids.new.into.items c.len-middle.result c.in_ok-append_chosen_ids.ensures middle ∙ c.in_ok-append_chosen_values.ensures.ends ∙ ap (λ (l : List ℕ). l ++ ends_from 0 items) c.in_ok-ends.ensures.items in
    let last = c.as_slice-2.ensures.value ∙ c.in_ok-append_chosen_values.ensures.ok ∙ ap (λ (l : List ℕ). l ++ concat items) c.in_ok-spare.ensures.items in
    rw (ends, last) (ends_most items)

pub returns-clause-ok : goal.returns-clause-ok
unfolding coded composed
returns-clause-ok c =
    let fields = chosen c.args.kept.now (fields_of (map seen c.args.pairs.now)) in
    let items = values_coded c.args.dict.now fields c.args.widths in
    let middle : c.len-middle.result ≡ length c.append_chosen_values.new.ends.items = grind arith in
    let ends = c.split_at.ensures.front ∙ ap (take c.len-middle.result) c.as_slice.ensures.value ∙ stands_after c.append_chosen_values.new.ends.items (ids_of c.args.dict.now fields) c.append_chosen_ids.new.into.items c.len-middle.result c.in_ok-append_chosen_ids.ensures middle ∙ c.in_ok-append_chosen_values.ensures.ends ∙ ap (λ (l : List ℕ). l ++ ends_from 0 items) c.in_ok-ends.ensures.items in
    let last = c.as_slice-2.ensures.value ∙ c.in_ok-append_chosen_values.ensures.ok ∙ ap (λ (l : List ℕ). l ++ concat items) c.in_ok-spare.ensures.items in
    let ids = c.split_at.ensures.back ∙ ap (drop c.len-middle.result) c.as_slice.ensures.value ∙ stands c.append_chosen_values.new.ends.items (ids_of c.args.dict.now fields) c.append_chosen_ids.new.into.items c.len-middle.result c.in_ok-append_chosen_ids.ensures middle in
    rw (← c.in_ok-append_chosen_values.ensures.spare, ← ends, ← ids, ← last) c.compose_object.ensures.ok
