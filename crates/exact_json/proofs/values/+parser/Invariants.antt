use Rattle.std.proofs.Common.{◌≡◌, ◌+◌, ◌-◌, ◌*◌, ◌++◌, map}
use Rattle.std.specs.Option.{option_map}
use Rattle.json_tree.specs.View.{view, seen}
use Rattle.json_grammar.specs.Reading.{value_at, elements_at, more_elements_at, entries_at, more_entries_at}
use Rattle.exact_json.specs.Meaning.{joined, more_pairs_in, more_elements_flaws, more_entries_flaws}
use Rattle.exact_json.specs.Parsing.{told_elements, told_entries, more_items_in}
use Rattle.exact_json.specs.Shown.{shown}
use Rattle.exact_json.proofs.values.+parser.Given as goal

abbrev pub decreases-read_value : goal.decreases-read_value
decreases-read_value l = 4 * l.depth + 1

abbrev pub decreases-read_array : goal.decreases-read_array
decreases-read_array l = 4 * l.depth

abbrev pub decreases-read_object : goal.decreases-read_object
decreases-read_object l = 4 * l.depth

abbrev pub decreases-read_entry : goal.decreases-read_entry
decreases-read_entry l = 4 * l.depth + 2

abbrev pub decreases-read_elements : goal.decreases-read_elements
decreases-read_elements l = 4 * l.depth + 3

abbrev pub decreases-read_entries : goal.decreases-read_entries
decreases-read_entries l = 4 * l.depth + 3

abbrev pub invariant-read_elements-loop-turn : goal.invariant-read_elements-loop-turn
invariant-read_elements-loop-turn l =
    told_elements (shown l.fn.noted) (elements_at (value_at l.depth) l.text) ≡ option_map (λ p. (map view l.trees.items ++ more_items_in p.0, joined (shown l.noted) (more_elements_flaws p.0), p.1)) (more_elements_at (value_at l.depth) (l.turn-end - l.turn) l.rest)

abbrev pub invariant-read_entries-loop-turn : goal.invariant-read_entries-loop-turn
invariant-read_entries-loop-turn l =
    told_entries (shown l.fn.noted) (entries_at (value_at l.depth) l.text) ≡ option_map (λ p. (map seen l.pairs.items ++ more_pairs_in p.0, joined (shown l.noted) (more_entries_flaws p.0), p.1)) (more_entries_at (value_at l.depth) (l.turn-end - l.turn) l.rest)
