use Rattle.std.proofs.Common.{◌∙◌, refl, ◌+◌, ◌-◌, map, arith, length}
use Rattle.std.proofs.lemmas.List.{map-append}
use Rattle.std.proofs.lemmas.Result.{err_from_is_err_and}
use Rattle.json_tree.specs.View.{view, seen}
use Rattle.json_grammar.specs.Grammar.{no_elements, first_element, end_elements, next_element, no_entries, first_entry, end_entries, next_entry}
use Rattle.json_grammar.specs.Reading.{value_at, entry_at}
use Rattle.exact_json.specs.Meaning.{tree_of, flaws_of, elements_flaws, more_elements_flaws, pair_in, entry_flaws, pairs_in, entries_flaws, more_pairs_in, more_entries_flaws}
use Rattle.exact_json.specs.Parsing.{items_in, more_items_in}
use Rattle.exact_json.specs.Shown.{shown}
use Rattle.vs_bytes.proofs.Refusals.{fails}
use Rattle.exact_json.proofs.Turns.{ends, stops, refuses, turns, starts, element_counts, element_first, entry_counts, entry_first, entry_is, array_within, object_within}
use Rattle.exact_json.proofs.values.+parser.Goals as goal

pub read_elements-loop-turn-init : goal.read_elements-loop-turn-init
read_elements-loop-turn-init t c =
    starts 93 end_elements next_element (λ xs. value_at c.args.depth xs) tree_of flaws_of more_items_in more_elements_flaws no_elements first_element items_in elements_flaws (element_first (λ xs. value_at c.args.depth xs))
    (map view c.push.new.self.items) (shown c.args.noted.now) (shown c.read_value.new.noted) c.args.text.now (view c.in_ok-tree.tree) c.in_ok-tree.behind.now c.past_gap-rest.result.now (length c.past_gap-rest.result.now - 0)
    c.in_default.ensures c.in_ok-tree.ensures.told (rw (c.in_ok-push.ensures.items, c.in_ok-trees.ensures.items) refl) c.past_gap-rest.ensures (omega arith)

pub read_elements-returns-in-Some-after_byte : goal.read_elements-returns-in-Some-after_byte
read_elements-returns-in-Some-after_byte t c = record {
  told = c.loop-turn.invariant ∙ ends 93 end_elements next_element (λ xs. value_at c.args.depth xs) tree_of flaws_of more_items_in more_elements_flaws (element_counts (λ xs. value_at c.args.depth xs)) (map view c.loop-turn.trees.items) (shown c.loop-turn.noted)
      (length c.past_gap-rest.result.now - c.loop-turn.turn) (length c.past_gap-rest.result.now - (c.loop-turn.turn + 1)) c.loop-turn.rest.now c.in-Some-after_byte.behind.now
      (omega arith) c.in-Some-after_byte.ensures;
}

pub read_elements-returns-in_default-after_byte-2 : goal.read_elements-returns-in_default-after_byte-2
read_elements-returns-in_default-after_byte-2 t c = record {
  told = c.loop-turn.invariant ∙ stops 93 end_elements next_element (λ xs. value_at c.args.depth xs) tree_of flaws_of more_items_in more_elements_flaws (map view c.loop-turn.trees.items) (shown c.loop-turn.noted)
      (length c.past_gap-rest.result.now - c.loop-turn.turn) (length c.past_gap-rest.result.now - (c.loop-turn.turn + 1)) c.loop-turn.rest.now
      (omega arith) c.in_default-after_byte.ensures c.in_default-after_byte-2.ensures;
}

pub read_elements-returns-in_err-tree-2 : goal.read_elements-returns-in_err-tree-2
read_elements-returns-in_err-tree-2 t c = record {
  told = let p = err_from_is_err_and c.from_residual-in_err-tree-2.result c.from_residual-in_err-tree-2.ensures.1 in rw (p.1, p.2) (fails c.in_err-tree-2.field-0.0 _ _ c.in_err-tree-2.ensures.told (λ none. c.loop-turn.invariant ∙
      refuses 93 end_elements next_element (λ xs. value_at c.args.depth xs) tree_of flaws_of more_items_in more_elements_flaws (map view c.loop-turn.trees.items) (shown c.loop-turn.noted)
      (length c.past_gap-rest.result.now - c.loop-turn.turn) (length c.past_gap-rest.result.now - (c.loop-turn.turn + 1)) c.loop-turn.rest.now c.in-Some-after_byte-2.next.now c.past_gap.result.now
      (omega arith) c.in_default-after_byte.ensures c.in-Some-after_byte-2.ensures c.past_gap.ensures none));
}

pub read_elements-loop-turn-preserved : goal.read_elements-loop-turn-preserved
read_elements-loop-turn-preserved t c = c.loop-turn.invariant ∙
    turns 93 end_elements next_element (λ xs. value_at c.args.depth xs) tree_of flaws_of more_items_in more_elements_flaws (element_counts (λ xs. value_at c.args.depth xs)) (map view c.loop-turn.trees.items) (map view c.push-in-loop-turn.new.self.items) (shown c.loop-turn.noted) (shown c.read_value-in-loop-turn.new.noted)
    (length c.past_gap-rest.result.now - c.loop-turn.turn) (length c.past_gap-rest.result.now - (c.loop-turn.turn + 1)) c.loop-turn.rest.now c.in-Some-after_byte-2.next.now c.past_gap.result.now
    (view c.in_ok-tree-2.tree) c.in_ok-tree-2.behind.now c.past_gap-rest-in-loop-turn.result.now
    (omega arith) c.in_default-after_byte.ensures c.in-Some-after_byte-2.ensures c.past_gap.ensures c.in_ok-tree-2.ensures.told (rw c.in_ok-push-2.ensures.items (map-append view c.loop-turn.trees.items _)) c.past_gap-rest-in-loop-turn.ensures

pub read_entries-loop-turn-init : goal.read_entries-loop-turn-init
read_entries-loop-turn-init t c =
    starts 125 end_entries next_entry (λ xs. entry_at (λ ys. value_at c.args.depth ys) xs) pair_in entry_flaws more_pairs_in more_entries_flaws no_entries first_entry pairs_in entries_flaws (entry_first (λ xs. entry_at (λ ys. value_at c.args.depth ys) xs))
    (map seen c.push.new.self.items) (shown c.args.noted.now) (shown c.read_entry.new.noted) c.args.text.now (seen c.in_ok-pair.pair) c.in_ok-pair.behind.now c.past_gap-rest.result.now (length c.past_gap-rest.result.now - 0)
    c.in_default.ensures c.in_ok-pair.ensures.told (rw (c.in_ok-push.ensures.items, c.in_ok-pairs.ensures.items) refl) c.past_gap-rest.ensures (omega arith)

pub read_entries-returns-in-Some-after_byte : goal.read_entries-returns-in-Some-after_byte
read_entries-returns-in-Some-after_byte t c = record {
  told = c.loop-turn.invariant ∙ ends 125 end_entries next_entry (λ xs. entry_at (λ ys. value_at c.args.depth ys) xs) pair_in entry_flaws more_pairs_in more_entries_flaws (entry_counts (λ xs. entry_at (λ ys. value_at c.args.depth ys) xs)) (map seen c.loop-turn.pairs.items) (shown c.loop-turn.noted)
      (length c.past_gap-rest.result.now - c.loop-turn.turn) (length c.past_gap-rest.result.now - (c.loop-turn.turn + 1)) c.loop-turn.rest.now c.in-Some-after_byte.behind.now
      (omega arith) c.in-Some-after_byte.ensures;
}

pub read_entries-returns-in_default-after_byte-2 : goal.read_entries-returns-in_default-after_byte-2
read_entries-returns-in_default-after_byte-2 t c = record {
  told = c.loop-turn.invariant ∙ stops 125 end_entries next_entry (λ xs. entry_at (λ ys. value_at c.args.depth ys) xs) pair_in entry_flaws more_pairs_in more_entries_flaws (map seen c.loop-turn.pairs.items) (shown c.loop-turn.noted)
      (length c.past_gap-rest.result.now - c.loop-turn.turn) (length c.past_gap-rest.result.now - (c.loop-turn.turn + 1)) c.loop-turn.rest.now
      (omega arith) c.in_default-after_byte.ensures c.in_default-after_byte-2.ensures;
}

pub read_entries-returns-in_err-pair-2 : goal.read_entries-returns-in_err-pair-2
read_entries-returns-in_err-pair-2 t c = record {
  told = let p = err_from_is_err_and c.from_residual-in_err-pair-2.result c.from_residual-in_err-pair-2.ensures.1 in rw (p.1, p.2) (fails c.in_err-pair-2.field-0.0 _ _ c.in_err-pair-2.ensures.told (λ none. c.loop-turn.invariant ∙
      refuses 125 end_entries next_entry (λ xs. entry_at (λ ys. value_at c.args.depth ys) xs) pair_in entry_flaws more_pairs_in more_entries_flaws (map seen c.loop-turn.pairs.items) (shown c.loop-turn.noted)
      (length c.past_gap-rest.result.now - c.loop-turn.turn) (length c.past_gap-rest.result.now - (c.loop-turn.turn + 1)) c.loop-turn.rest.now c.in-Some-after_byte-2.next.now c.past_gap.result.now
      (omega arith) c.in_default-after_byte.ensures c.in-Some-after_byte-2.ensures c.past_gap.ensures none));
}

pub read_entries-loop-turn-preserved : goal.read_entries-loop-turn-preserved
read_entries-loop-turn-preserved t c = c.loop-turn.invariant ∙
    turns 125 end_entries next_entry (λ xs. entry_at (λ ys. value_at c.args.depth ys) xs) pair_in entry_flaws more_pairs_in more_entries_flaws (entry_counts (λ xs. entry_at (λ ys. value_at c.args.depth ys) xs)) (map seen c.loop-turn.pairs.items) (map seen c.push-in-loop-turn.new.self.items) (shown c.loop-turn.noted) (shown c.read_entry-in-loop-turn.new.noted)
    (length c.past_gap-rest.result.now - c.loop-turn.turn) (length c.past_gap-rest.result.now - (c.loop-turn.turn + 1)) c.loop-turn.rest.now c.in-Some-after_byte-2.next.now c.past_gap.result.now
    (seen c.in_ok-pair-2.pair) c.in_ok-pair-2.behind.now c.past_gap-rest-in-loop-turn.result.now
    (omega arith) c.in_default-after_byte.ensures c.in-Some-after_byte-2.ensures c.past_gap.ensures c.in_ok-pair-2.ensures.told (rw c.in_ok-push-2.ensures.items (map-append seen c.loop-turn.pairs.items _)) c.past_gap-rest-in-loop-turn.ensures

pub read_entry-returns : goal.read_entry-returns
read_entry-returns t c = record {
  told = entry_is (λ xs. value_at c.args.depth xs) (shown c.args.noted.now) c.args.text.now c.in-Some.inside.now c.in_ok-name.name (shown c.read_string.new.noted) c.in_ok-name.behind.now c.in-Some-after_byte.rest.now c.in-Some.ensures c.in_ok-name.ensures.told
      (rw (← c.past_gap.ensures) c.in-Some-after_byte.ensures) ∙ rw (← c.past_gap-2.ensures, c.in_ok-tree.ensures.told) refl;
}

pub read_entry-returns-in_err-tree : goal.read_entry-returns-in_err-tree
read_entry-returns-in_err-tree t c = record {
  told = let p = err_from_is_err_and c.from_residual-in_err-tree.result c.from_residual-in_err-tree.ensures.1 in rw (p.1, p.2) (fails c.in_err-tree.field-0.0 _ _ c.in_err-tree.ensures.told (λ none.
      entry_is (λ xs. value_at c.args.depth xs) (shown c.args.noted.now) c.args.text.now c.in-Some.inside.now c.in_ok-name.name (shown c.read_string.new.noted) c.in_ok-name.behind.now c.in-Some-after_byte.rest.now c.in-Some.ensures c.in_ok-name.ensures.told
      (rw (← c.past_gap.ensures) c.in-Some-after_byte.ensures) ∙ rw (← c.past_gap-2.ensures, none) refl));
}

pub read_array-returns : goal.read_array-returns
read_array-returns t c = record {
  told = array_within c.args.depth (c.args.depth - 1) (shown c.args.noted.now) c.args.text.now (omega arith) ∙ rw (← c.past_gap.ensures, c.in_ok-trees.ensures.told, c.array_tree.ensures) refl;
}

pub read_array-returns-in_err-trees : goal.read_array-returns-in_err-trees
read_array-returns-in_err-trees t c = record {
  told = let p = err_from_is_err_and c.from_residual.result c.from_residual.ensures.1 in rw (p.1, p.2) (fails c.in_err-trees.field-0.0 _ _ c.in_err-trees.ensures.told (λ none.
      array_within c.args.depth (c.args.depth - 1) (shown c.args.noted.now) c.args.text.now (omega arith) ∙ rw (← c.past_gap.ensures, none) refl));
}

pub read_object-returns : goal.read_object-returns
read_object-returns t c = record {
  told = object_within c.args.depth (c.args.depth - 1) (shown c.args.noted.now) c.args.text.now (omega arith) ∙ rw (← c.past_gap.ensures, c.in_ok-pairs.ensures.told, c.object_tree-tree.ensures.tree, c.note_repeated.ensures, c.object_tree-tree.ensures.repeated) refl;
}
