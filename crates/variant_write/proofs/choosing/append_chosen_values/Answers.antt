use Rattle.std.proofs.Common.{◌≡◌, ◌∙◌, ◌+◌, ◌-◌, ◌≤◌, ap, sym, subst, length, map, get_or, arith}
use Rattle.json_tree.specs.Json.{Fields, fields_of}
use Rattle.json_tree.specs.Text.{more_fields}
use Rattle.json_tree.specs.View.{view, seen}
use Rattle.vs_bytes.proofs.Growing.{grows_more}
use Rattle.variant_write.specs.Chosen.{chosen}
use Rattle.variant_write.specs.Coded.{coded, values_coded}
use Rattle.variant_write.specs.Conditions.{max_text_len}
use Rattle.variant_write.proofs.ChosenMembers.{chosen_more}
use Rattle.variant_write.proofs.ChosenSteps.{left_at, member_named, member_short, values_kept, left_out, none_left, pushed}
use Rattle.variant_write.proofs.Gathering.{Gathers, gathers_next, next_end, gathered_bytes, gathered_ends}
use Rattle.variant_write.proofs.Limits.{values_total}
use Rattle.variant_write.proofs.choosing.append_chosen_values.Goals as goal
use Rattle.variant_write.proofs.choosing.append_chosen_values.Goals.{then-kept-i+in_ok-append+in_ok-push, else-kept-i}

pub append-requires-clause-names : goal.append-requires-clause-names
append-requires-clause-names c = (member_named c.args.dict.now c.args.pairs.now c.loop-i.i c.index-pairs-i.result c.loop-i-test.true c.requires.names).1

pub append-requires-clause-small : goal.append-requires-clause-small
append-requires-clause-small c = member_short c.args.pairs.now c.loop-i.i max_text_len c.index-pairs-i.result c.loop-i-test.true c.requires.small

pub overflow_cast-len : goal.overflow_cast-len
unfolding coded values_coded
overflow_cast-len c =
    let names = c.args.dict.now in
    let pairs = c.args.pairs.now in
    let kept = c.args.kept.now in
    let i = c.loop-i.i in
    let pair = get_or pairs i c.index-pairs-i.result in
    let all = chosen kept (fields_of (map seen pairs)) in
    let next = values_kept names kept pairs i c.index-pairs-i.result (omega (arith, c.loop-i-test.true, c.requires.kept)) c.loop-i-test.true c.args.widths c.if-kept-i.true in
    let end = next_end c.args.into.now.items c.args.ends.now.items (values_coded names all c.args.widths) c.loop-i.into.items c.loop-i.ends.items _ (values_coded names (left_at kept pairs (i + 1)) c.args.widths) (coded names (view pair.1) c.args.widths) c.append.new.into.items c.loop-i.invariant.gathers next c.in_ok-append.ensures.ok in
    let most = end.1 in
    let start : c.len-start.result ≡ length c.args.into.now.items = grind arith in
    let now : c.len.result ≡ length c.append.new.into.items = grind arith in
    let short : length (more_fields all) ≤ max_text_len = omega (arith, chosen_more kept (fields_of (map seen pairs)), c.requires.small) in
    omega (arith, most, start, now, values_total names all c.args.widths c.requires.widths short)

pub loop-i-preserved : goal.loop-i-preserved
unfolding coded values_coded
loop-i-preserved c = elim c.if-kept-i.branch [
  | then-kept-i+in_ok-append+in_ok-push w ↦
      let names = c.args.dict.now in
      let pairs = c.args.pairs.now in
      let kept = c.args.kept.now in
      let i = c.loop-i.i in
      let pair = get_or pairs i w.index-pairs-i.result in
      let all = chosen kept (fields_of (map seen pairs)) in
      let next = values_kept names kept pairs i w.index-pairs-i.result (omega (arith, c.loop-i-test.true, c.requires.kept)) c.loop-i-test.true c.args.widths w.if-kept-i.true in
      let start : c.len-start.result ≡ length c.args.into.now.items = grind arith in
      let now : w.len.result ≡ length w.append.new.into.items = grind arith in
      let place : w.len.result - c.len-start.result ≡ length w.append.new.into.items - length c.args.into.now.items = omega (arith, start, now) in
      rw (w.into-is, w.spare-is, w.ends-is) (record {
        gathers = gathers_next c.args.into.now.items c.args.ends.now.items (values_coded names all c.args.widths) c.loop-i.into.items c.loop-i.ends.items _ (values_coded names (left_at kept pairs (i + 1)) c.args.widths) (coded names (view pair.1) c.args.widths) w.append.new.into.items w.push.new.self.items c.loop-i.invariant.gathers next w.in_ok-append.ensures.ok
            (pushed w.push.new.self.items w.append.new.ends.items c.loop-i.ends.items (w.len.result - c.len-start.result) _ w.in_ok-push.ensures.items w.in_ok-append.ensures.ends place);
        spare = w.in_ok-append.ensures.spare ∙ c.loop-i.invariant.spare;
        grows = rw w.in_ok-append.ensures.ok (grows_more c.args.into.now.items c.loop-i.into.items (coded names (view pair.1) c.args.widths) c.loop-i.invariant.grows);
      })
  | else-kept-i w ↦
      let names = c.args.dict.now in
      let all = values_coded names (chosen c.args.kept.now (fields_of (map seen c.args.pairs.now))) c.args.widths in
      let next = left_out c.args.kept.now c.args.pairs.now c.loop-i.i (omega (arith, c.loop-i-test.true, c.requires.kept)) c.loop-i-test.true w.if-kept-i.false in
      rw (w.into-is, w.spare-is, w.ends-is) (record {
        gathers = subst (λ (fields : Fields). Gathers c.args.into.now.items c.args.ends.now.items all c.loop-i.into.items c.loop-i.ends.items (values_coded names fields c.args.widths)) (sym next) c.loop-i.invariant.gathers;
        spare = c.loop-i.invariant.spare;
        grows = c.loop-i.invariant.grows;
      })
]

pub returns-clause-ok : goal.returns-clause-ok
unfolding coded values_coded
returns-clause-ok c =
    let items = values_coded c.args.dict.now (chosen c.args.kept.now (fields_of (map seen c.args.pairs.now))) c.args.widths in
    let end = ap (λ (fields : Fields). values_coded c.args.dict.now fields c.args.widths) (none_left c.args.kept.now c.args.pairs.now c.loop-i.i c.loop-i-test.false) in
    gathered_bytes c.args.into.now.items c.args.ends.now.items items c.loop-i.into.items c.loop-i.ends.items (subst (Gathers c.args.into.now.items c.args.ends.now.items items c.loop-i.into.items c.loop-i.ends.items) end c.loop-i.invariant.gathers)

pub returns-clause-ends : goal.returns-clause-ends
unfolding coded values_coded
returns-clause-ends c =
    let items = values_coded c.args.dict.now (chosen c.args.kept.now (fields_of (map seen c.args.pairs.now))) c.args.widths in
    let end = ap (λ (fields : Fields). values_coded c.args.dict.now fields c.args.widths) (none_left c.args.kept.now c.args.pairs.now c.loop-i.i c.loop-i-test.false) in
    gathered_ends c.args.into.now.items c.args.ends.now.items items c.loop-i.into.items c.loop-i.ends.items (subst (Gathers c.args.into.now.items c.args.ends.now.items items c.loop-i.into.items c.loop-i.ends.items) end c.loop-i.invariant.gathers)
