use Rattle.std.proofs.Common.{◌≡◌, ◌∙◌, refl, sym, ap, ◌+◌, ◌-◌, List, [], ◌∷◌, ◌++◌, true, false, map, Some, None, get_or, arith, rules, to_z-of_z, SFits}
use mir.Syntax.{w128}
use Rattle.shred_schema.specs.declared.records.Record.{Record}
use Rattle.std.specs.Option.{option_map}
use Rattle.std.proofs.lemmas.Result.{err_from_is_err_and}
use Rattle.vs_bytes.proofs.Refusals.{fails}
use Rattle.shred_schema.specs.Groups.{list_of, groups_from, width, kind_width, groups_width, groups_height}
use Rattle.shred_schema.specs.Ranges.{every}
use Rattle.shred_schema.specs.Recs.{recs_from}
use Rattle.shred_schema.specs.Views.{group_of, kind_of, groups_of, named, rec_of}
use Rattle.shred_schema.proofs.Viewed.{fields_are, kind_is_list, node_is, rec_is}
use Rattle.level_striping.proofs.Walks.{part_is_items}
use Rattle.record_assembly.specs.Reading.{are_nil, are_null, fields_read}
use Rattle.column_assembly.specs.Leaves.{heads}
use Rattle.column_assembly.proofs.OneEntry.{no_value}
use Rattle.record_taking.specs.Parts.{is_bare, rests}
use Rattle.record_taking.proofs.ItemTurns.{list_first, turn_some, turn_none, turn_end, turn_last, between_first, between_more, rests_nil, first_taken, item_taken, items_taken, items_missing, shrinks}
use Rattle.record_taking.proofs.Joined.{passed_on, passed_end, passed_to, taken_whole}
use Rattle.record_taking.proofs.PartsTaken.{typed_there, typed_broken, items_broken, as_items, bare_width, list_part, field_bare, field_taken, field_missing, put_fails, put_one, put_rest, fields_taken, fields_width, fields_done, field_height, field_leaves, kind_some}
use Rattle.record_taking.proofs.taking.+take.Goals as goal

pub take_fields-put_record-requires : goal.take_fields-put_record-requires
take_fields-put_record-requires t c =
    let all : groups_of c.args.fields.now ≡ groups_from (map named c.as_slice-members.result.now) = fields_are c.args.fields.now ∙ sym (ap (λ ms. groups_from (map named ms)) c.as_slice-members.ensures) in
    let low = field_height c.as_slice-members.result.now c.loop-k.k c.index-members-k.result (omega arith) in
    let wide = fields_width c.as_slice-members.result.now c.loop-k.k c.index-members-k.result (omega arith) in
    let leaves = field_leaves c.as_slice-members.result.now c.loop-k.k c.index-members-k.result (omega arith) c.loop-k.invariant.leaves in
    (omega (arith, low, c.decreases, ap groups_height all), (leaves.0, (omega (arith, wide, c.requires.inside, ap groups_width all, c.loop-k.invariant.sum, c.loop-k.invariant.passed.same), (omega (arith, c.requires.short, c.loop-k.invariant.passed.same), (omega (arith, low, c.requires.lists, ap groups_height all), omega (arith, low, c.requires.level, ap groups_height all))))))

pub take_fields-loop-k-preserved-then-is_bare : goal.take_fields-loop-k-preserved-then-is_bare
take_fields-loop-k-preserved-then-is_bare t c =
    let bare : is_bare (group_of (get_or c.as_slice-members.result.now c.loop-k.k c.index-members-k.result).1) ≡ true = sym c.is_bare.ensures ∙ c.if-is_bare.true in
    let wide = fields_width c.as_slice-members.result.now c.loop-k.k c.index-members-k.result (omega arith) in
    let leaves = field_leaves c.as_slice-members.result.now c.loop-k.k c.index-members-k.result (omega arith) c.loop-k.invariant.leaves in
    record {
      read = field_bare c.as_slice-members.result.now c.loop-k.k c.index-members-k.result c.loop-k.records.items c.push_reserved.new.self.items _ c.loop-k.cursors c.loop-k.at c.args.levels.rep c.args.levels.lists c.args.levels.def _ (omega arith) bare (c.push_reserved.ensures.items ∙ ap (λ (l : List Record). l ++ _ ∷ []) c.reserve.ensures.items) (rec_is _) c.loop-k.invariant.read;
      passed = c.loop-k.invariant.passed;
      order = c.loop-k.invariant.order;
      sum = omega (arith, wide, c.loop-k.invariant.sum, bare_width (group_of (get_or c.as_slice-members.result.now c.loop-k.k c.index-members-k.result).1) bare);
      leaves = leaves.1;
    }

pub take_fields-returns-clause-read : goal.take_fields-returns-clause-read
take_fields-returns-clause-read t c =
    let all : groups_of c.args.fields.now ≡ groups_from (map named c.as_slice-members.result.now) = fields_are c.args.fields.now ∙ sym (ap (λ ms. groups_from (map named ms)) c.as_slice-members.ensures) in
    ap (λ gs. fields_read gs c.args.leaf every c.args.levels.rep c.args.levels.lists c.args.levels.def (heads c.args.levels.lists c.args.cursors.now)) all
    ∙ (fields_taken c.as_slice-members.result.now c.loop-k.k c.loop-k.records.items c.loop-k.at c.args.levels.rep c.args.levels.lists c.args.levels.def (heads c.args.levels.lists c.loop-k.cursors) _ (omega arith) c.loop-k.invariant.read
    ∙ ap (λ xs. Some (recs_from (map rec_of xs))) (sym c.from_vec.ensures))

pub take_fields-returns-clause-next : goal.take_fields-returns-clause-next
take_fields-returns-clause-next t c =
    let all : groups_of c.args.fields.now ≡ groups_from (map named c.as_slice-members.result.now) = fields_are c.args.fields.now ∙ sym (ap (λ ms. groups_from (map named ms)) c.as_slice-members.ensures) in
    omega (arith, fields_done c.as_slice-members.result.now c.loop-k.k (omega arith), ap groups_width all, c.loop-k.invariant.sum)

pub take_fields-returns-clause-passed : goal.take_fields-returns-clause-passed
take_fields-returns-clause-passed t c =
    let all : groups_of c.args.fields.now ≡ groups_from (map named c.as_slice-members.result.now) = fields_are c.args.fields.now ∙ sym (ap (λ ms. groups_from (map named ms)) c.as_slice-members.ensures) in
    passed_end _ _ c.args.leaf (c.loop-k.at - c.args.leaf) _ c.args.levels.lists (omega (arith, fields_done c.as_slice-members.result.now c.loop-k.k (omega arith), ap groups_width all, c.loop-k.invariant.sum, c.loop-k.invariant.order)) c.loop-k.invariant.passed

pub take_items-returns-then-not-are_done-clause-read : goal.take_items-returns-then-not-are_done-clause-read
take_items-returns-then-not-are_done-clause-read t c =
    let count : c.in_ok-next.next - c.args.leaf ≡ width (group_of c.args.element.now) = omega (arith, c.in_ok-next.ensures.next) in
    let rest : are_nil every c.args.leaf (width (group_of c.args.element.now)) (rests c.args.levels.lists c.loop-alloc.cursors) ≡ false = sym (ap (λ w. are_nil every c.args.leaf w (rests c.args.levels.lists c.loop-alloc.cursors)) count) ∙ (sym c.are_done.ensures ∙ c.if-not-are_done.true) in
    items_missing c.loop-alloc.records.items _ _ (turn_end (group_of c.args.element.now) c.args.leaf c.args.levels.lists c.args.levels.def c.loop-alloc.cursors c.requires.some (sym c.goes_on.ensures ∙ c.loop-alloc-test.false) rest) c.loop-alloc.invariant.read

pub take_items-returns-clause-read : goal.take_items-returns-clause-read
take_items-returns-clause-read t c =
    let count : c.in_ok-next.next - c.args.leaf ≡ width (group_of c.args.element.now) = omega (arith, c.in_ok-next.ensures.next) in
    let rest : are_nil every c.args.leaf (width (group_of c.args.element.now)) (rests c.args.levels.lists c.loop-alloc.cursors) ≡ true = sym (ap (λ w. are_nil every c.args.leaf w (rests c.args.levels.lists c.loop-alloc.cursors)) count) ∙ (sym c.are_done.ensures ∙ c.if-not-are_done.false) in
    items_taken c.loop-alloc.records.items _ _ (turn_last (group_of c.args.element.now) c.args.leaf c.args.levels.lists c.args.levels.def c.loop-alloc.cursors rest) c.loop-alloc.invariant.read
    ∙ ap (λ xs. Some (map rec_of xs)) (sym c.from_vec.ensures)

pub take_items-returns-clause-passed : goal.take_items-returns-clause-passed
take_items-returns-clause-passed t c =
    let count : c.in_ok-next.next - c.args.leaf ≡ width (group_of c.args.element.now) = omega (arith, c.in_ok-next.ensures.next) in
    let rest : are_nil every c.args.leaf (width (group_of c.args.element.now)) (rests c.args.levels.lists c.loop-alloc.cursors) ≡ true = sym (ap (λ w. are_nil every c.args.leaf w (rests c.args.levels.lists c.loop-alloc.cursors)) count) ∙ (sym c.are_done.ensures ∙ c.if-not-are_done.false) in
    taken_whole c.args.cursors.now c.loop-alloc.cursors c.args.leaf (width (group_of c.args.element.now)) c.args.levels.lists c.loop-alloc.invariant.between (rests_nil c.args.leaf (width (group_of c.args.element.now)) c.args.levels.lists c.loop-alloc.cursors rest)

pub take_list-returns-then-not-take_nulls-clause-read : goal.take_list-returns-then-not-take_nulls-clause-read
take_list-returns-then-not-take_nulls-clause-read t c =
    let count : c.args.leaf + c.width.result - c.args.leaf ≡ width (group_of c.args.element.now) = omega (arith, c.width.ensures) in
    let rest : are_null every c.args.leaf (width (group_of c.args.element.now)) c.args.levels.rep (c.args.levels.def + 1) (heads c.args.levels.lists c.args.cursors.now) ≡ false = sym (ap (λ w. are_null every c.args.leaf w c.args.levels.rep (c.args.levels.def + 1) (heads c.args.levels.lists c.args.cursors.now)) count) ∙ (sym c.take_nulls.ensures.were ∙ c.if-not-take_nulls.true) in
    items_broken (group_of c.args.element.now) c.args.leaf c.args.levels.rep c.args.levels.lists c.args.levels.def (heads c.args.levels.lists c.args.cursors.now) c.requires.some (sym c.is_null.ensures ∙ c.if-is_null.true) rest

pub take_part-returns-in_err-records-in-Items-clause-read : goal.take_part-returns-in_err-records-in-Items-clause-read
take_part-returns-in_err-records-in-Items-clause-read t c =
    let kind : kind_of c.args.typed.now ≡ list_of (group_of c.get.result.now) = ap kind_of c.in-Items.is ∙ (kind_is_list c.in-Items.element ∙ ap (λ n. list_of (group_of n)) (sym c.get.ensures)) in
    let p = err_from_is_err_and c.from_residual-in_err-records-in-Items.result c.from_residual-in_err-records-in-Items.ensures.1 in
    rw (p.1, p.2) (fails c.in_err-records-in-Items.field-0.0 _ _ c.in_err-records-in-Items.ensures.read (λ none. rw kind (list_part (group_of c.get.result.now) c.args.leaf c.args.levels.rep c.args.levels.lists c.args.levels.def (heads c.args.levels.lists c.args.cursors.now) ∙ ap (option_map as_items) none)))

pub take_part-returns-in_ok-records-in-Items-clause-read : goal.take_part-returns-in_ok-records-in-Items-clause-read
take_part-returns-in_ok-records-in-Items-clause-read t c =
    let kind : kind_of c.args.typed.now ≡ list_of (group_of c.get.result.now) = ap kind_of c.in-Items.is ∙ (kind_is_list c.in-Items.element ∙ ap (λ n. list_of (group_of n)) (sym c.get.ensures)) in
    rw kind (list_part (group_of c.get.result.now) c.args.leaf c.args.levels.rep c.args.levels.lists c.args.levels.def (heads c.args.levels.lists c.args.cursors.now) ∙ (ap (option_map as_items) c.in_ok-records-in-Items.ensures.read ∙ ap Some (sym (part_is_items c.in_ok-records-in-Items.records))))

pub take_typed-returns-then-not-take_nulls : goal.take_typed-returns-then-not-take_nulls
take_typed-returns-then-not-take_nulls t c =
    let some = kind_some (kind_of c.args.typed.now) (sym c.is_free.ensures ∙ c.if-is_free.false) c.requires.leaves in
    let count : c.args.leaf + c.typed_width.result - c.args.leaf ≡ kind_width (kind_of c.args.typed.now) = omega (arith, c.typed_width.ensures) in
    let rest : are_null every c.args.leaf (kind_width (kind_of c.args.typed.now)) c.args.levels.rep c.args.levels.def (heads c.args.levels.lists c.args.cursors.now) ≡ false = sym (ap (λ w. are_null every c.args.leaf w c.args.levels.rep c.args.levels.def (heads c.args.levels.lists c.args.cursors.now)) count) ∙ (sym c.take_nulls.ensures.were ∙ c.if-not-take_nulls.true) in
    record {
      read = typed_broken (kind_of c.args.typed.now) c.args.leaf c.args.levels.rep c.args.levels.lists c.args.levels.def (heads c.args.levels.lists c.args.cursors.now) some (sym c.is_null.ensures ∙ c.if-is_null.true) rest;
      next = tt;
      passed = tt;
    }

pub take_typed-returns : goal.take_typed-returns
take_typed-returns t c =
    let some = kind_some (kind_of c.args.typed.now) (sym c.is_free.ensures ∙ c.if-is_free.false) c.requires.leaves in
    record {
      read = typed_there (kind_of c.args.typed.now) c.args.leaf c.args.levels.rep c.args.levels.lists c.args.levels.def (heads c.args.levels.lists c.args.cursors.now) some (sym c.is_null.ensures ∙ c.if-is_null.false) ∙ c.in_ok-part.ensures.read;
      next = c.in_ok-part.ensures.next;
      passed = c.in_ok-part.ensures.passed;
    }

pub take_fields-returns-in_err-at-clause-read : goal.take_fields-returns-in_err-at-clause-read
take_fields-returns-in_err-at-clause-read t c =
    let all : groups_of c.args.fields.now ≡ groups_from (map named c.as_slice-members.result.now) = fields_are c.args.fields.now ∙ sym (ap (λ ms. groups_from (map named ms)) c.as_slice-members.ensures) in
    let p = err_from_is_err_and c.from_residual-in_err-at.result c.from_residual-in_err-at.ensures.1 in
    rw (p.1, p.2) (put_fails c.in_err-at.field-0.0 _ _ _ _ c.in_err-at.ensures.puts (λ none. ap (λ gs. fields_read gs c.args.leaf every c.args.levels.rep c.args.levels.lists c.args.levels.def (heads c.args.levels.lists c.args.cursors.now)) all
    ∙ field_missing c.as_slice-members.result.now c.loop-k.k c.index-members-k.result c.loop-k.records.items c.loop-k.at c.args.levels.rep c.args.levels.lists c.args.levels.def (heads c.args.levels.lists c.loop-k.cursors) _ (omega arith) c.loop-k.invariant.read none))

pub take_fields-loop-k-preserved : goal.take_fields-loop-k-preserved
take_fields-loop-k-preserved t c =
    let wide = fields_width c.as_slice-members.result.now c.loop-k.k c.index-members-k.result (omega arith) in
    let leaves = field_leaves c.as_slice-members.result.now c.loop-k.k c.index-members-k.result (omega arith) c.loop-k.invariant.leaves in
    record {
      read = rw c.in_ok-at.ensures.next (field_taken c.as_slice-members.result.now c.loop-k.k c.index-members-k.result c.loop-k.records.items c.put_record.new.records.items c.in_ok-at.ensures.puts.one c.loop-k.cursors c.put_record.new.cursors c.loop-k.at c.args.levels.rep c.args.levels.lists c.args.levels.def _ (omega arith) c.in_ok-at.ensures.puts.put c.in_ok-at.ensures.puts.is c.in_ok-at.ensures.passed c.loop-k.invariant.read);
      passed = passed_to _ _ _ c.args.leaf c.loop-k.at _ _ c.args.levels.lists c.loop-k.invariant.order c.in_ok-at.ensures.next c.loop-k.invariant.passed c.in_ok-at.ensures.passed;
      order = omega (arith, c.loop-k.invariant.order, c.in_ok-at.ensures.next);
      sum = omega (arith, wide, c.loop-k.invariant.sum, c.in_ok-at.ensures.next);
      leaves = leaves.1;
    }

pub take_items-returns-in_err-next-clause-read : goal.take_items-returns-in_err-next-clause-read
take_items-returns-in_err-next-clause-read t c =
    let p = err_from_is_err_and c.from_residual-in_err-next.result c.from_residual-in_err-next.ensures.1 in
    rw (p.1, p.2) (put_fails c.in_err-next.field-0.0 _ _ _ _ c.in_err-next.ensures.puts (λ none. list_first (group_of c.args.element.now) c.args.leaf c.args.levels.rep c.args.levels.lists c.args.levels.def c.args.cursors.now c.args.cursors.now None none (λ q e. cc)))

pub take_items-loop-alloc-init : goal.take_items-loop-alloc-init
take_items-loop-alloc-init t c = record {
  read = first_taken c.in_ok-records.records.items c.put_record.new.records.items c.in_ok-next.ensures.puts.one _ _ c.in_ok-records.ensures.items c.in_ok-next.ensures.puts.put (list_first (group_of c.args.element.now) c.args.leaf c.args.levels.rep c.args.levels.lists c.args.levels.def c.args.cursors.now c.put_record.new.cursors (Some (rec_of c.in_ok-next.ensures.puts.one)) c.in_ok-next.ensures.puts.is (λ q e. c.in_ok-next.ensures.passed));
  between = between_first (group_of c.args.element.now) c.args.leaf c.args.levels.lists c.args.cursors.now c.put_record.new.cursors c.in_ok-next.ensures.passed;
}

pub take_items-returns-in_err-put_record-clause-read : goal.take_items-returns-in_err-put_record-clause-read
take_items-returns-in_err-put_record-clause-read t c =
    let p = err_from_is_err_and c.from_residual-in_err-put_record.result c.from_residual-in_err-put_record.ensures.1 in
    rw (p.1, p.2) (put_fails c.in_err-put_record.field-0.0 _ _ _ _ c.in_err-put_record.ensures.puts (λ none. items_missing c.loop-alloc.records.items _ _ (turn_none (group_of c.args.element.now) c.args.leaf c.args.levels.lists c.args.levels.def c.loop-alloc.cursors c.requires.some (sym c.goes_on.ensures ∙ c.loop-alloc-test.true) none) c.loop-alloc.invariant.read))

pub take_items-loop-alloc-smaller : goal.take_items-loop-alloc-smaller
take_items-loop-alloc-smaller t c = shrinks c.args.levels.lists c.args.leaf (width (group_of c.args.element.now)) c.loop-alloc.cursors c.put_record-in-loop-alloc.new.cursors c.requires.some (sym c.goes_on.ensures ∙ c.loop-alloc-test.true) c.in_ok-put_record.ensures.passed

pub take_items-loop-alloc-preserved : goal.take_items-loop-alloc-preserved
take_items-loop-alloc-preserved t c =
    let puts = c.in_ok-put_record.ensures.puts in
    record {
      read = item_taken c.loop-alloc.records.items c.put_record-in-loop-alloc.new.records.items puts.one _ _ _ puts.put (turn_some (group_of c.args.element.now) c.args.leaf c.args.levels.lists c.args.levels.def c.loop-alloc.cursors c.put_record-in-loop-alloc.new.cursors (rec_of puts.one) c.requires.some (sym c.goes_on.ensures ∙ c.loop-alloc-test.true) puts.is c.in_ok-put_record.ensures.passed) c.loop-alloc.invariant.read;
      between = between_more (group_of c.args.element.now) c.args.leaf c.args.levels.lists c.args.levels.def c.loop-alloc.cursors c.args.cursors.now c.put_record-in-loop-alloc.new.cursors (rec_of puts.one) c.loop-alloc.invariant.between puts.is c.in_ok-put_record.ensures.passed;
    }

pub put_valued-returns-clause-puts : goal.put_valued-returns-clause-puts
put_valued-returns-clause-puts t c =
    put_rest c.args.node.now.value (kind_of c.args.node.now.typed) _ c.in-Some.value c.args.leaf c.args.levels.rep c.args.levels.lists c.args.levels.def c.args.cursors.now c.take_value-taken.new.cursors (node_is c.args.node.now) (sym c.in-Some.ensures.value) c.in-Some.ensures.passed _ _ _ _ refl (rw c.slot_width.ensures at c.put_typed.ensures.puts)

pub put_valued-returns-clause-passed : goal.put_valued-returns-clause-passed
put_valued-returns-clause-passed t c =
    rw (node_is c.args.node.now)
    (passed_on c.put_typed.result c.args.cursors.now c.take_value-taken.new.cursors c.put_typed.new.cursors c.args.leaf _ _ c.args.levels.lists c.in-Some.ensures.passed (rw c.slot_width.ensures at c.put_typed.ensures.passed))

pub put_record-returns-in-None-clause-puts : goal.put_record-returns-in-None-clause-puts
put_record-returns-in-None-clause-puts t c =
    put_rest c.args.node.now.value (kind_of c.args.node.now.typed) _ None c.args.leaf c.args.levels.rep c.args.levels.lists c.args.levels.def c.args.cursors.now c.take_no_value.new.cursors (node_is c.args.node.now) (no_value _ (sym c.if-not-take_no_value.false ∙ c.take_no_value.ensures.none)) (c.take_no_value.ensures.passed c.if-not-take_no_value.false) _ _ _ _ refl (rw (c.slot_width.ensures, c.in-None.ensures.kept) at c.put_typed.ensures.puts)

pub put_record-returns-in_ok-reserve-in-Some-clause-puts : goal.put_record-returns-in_ok-reserve-in-Some-clause-puts
put_record-returns-in_ok-reserve-in-Some-clause-puts t c =
    let fits : SFits w128 c.in-Some.number = search rules in
    put_one c.args.node.now.value (kind_of c.args.node.now.typed) _ None c.args.leaf c.args.levels.rep c.args.levels.lists c.args.levels.def c.args.cursors.now c.take_no_value.new.cursors (node_is c.args.node.now) (no_value _ (sym c.if-not-take_no_value.false ∙ c.take_no_value.ensures.none)) (c.take_no_value.ensures.passed c.if-not-take_no_value.false) _ _ _ _ _ c.push_reserved.ensures.items c.reserve.ensures.items (rw (to_z-of_z fits) at c.number_record.ensures) (rw c.slot_width.ensures at c.in-Some.ensures.read)
