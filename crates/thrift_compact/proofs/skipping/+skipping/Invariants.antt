use Rattle.std.proofs.Common.{◌≡◌, ◌-◌, ◌+◌, ◌*◌, length, pos}
use Rattle.thrift_compact.specs.Skipping.{fields, elements, pairs, skipped}
use Rattle.thrift_compact.proofs.skipping.+skipping.Given as goal

-- the fields that are left decide
abbrev pub invariant-skip_fields-loop-turn : goal.invariant-skip_fields-loop-turn
invariant-skip_fields-loop-turn l =
    fields (skipped l.room) (length l.bytes - l.turn) l.last l.rest ≡ fields (skipped l.room) (length l.bytes) (pos 0) l.bytes

-- the elements that are left decide
abbrev pub invariant-skip_elements-loop-turn : goal.invariant-skip_elements-loop-turn
invariant-skip_elements-loop-turn l = elements (skipped l.room) l.kind (l.size - l.turn) l.rest ≡ elements (skipped l.room) l.kind l.size l.bytes

abbrev pub invariant-skip_pairs-loop-turn : goal.invariant-skip_pairs-loop-turn
invariant-skip_pairs-loop-turn l = pairs (skipped l.room) l.key l.value (l.size - l.turn) l.rest ≡ pairs (skipped l.room) l.key l.value l.size l.bytes

-- containers in containers, and the steps within one
abbrev pub decreases-skip : goal.decreases-skip
decreases-skip l = 5 * l.room

abbrev pub decreases-skip_element : goal.decreases-skip_element
decreases-skip_element l = 5 * l.room + 1

abbrev pub decreases-skip_elements : goal.decreases-skip_elements
decreases-skip_elements l = 5 * l.room + 2

abbrev pub decreases-skip_pairs : goal.decreases-skip_pairs
decreases-skip_pairs l = 5 * l.room + 2

abbrev pub decreases-skip_fields : goal.decreases-skip_fields
decreases-skip_fields l = 5 * l.room + 2

abbrev pub decreases-skip_list : goal.decreases-skip_list
decreases-skip_list l = 5 * l.room + 3

abbrev pub decreases-skip_map : goal.decreases-skip_map
decreases-skip_map l = 5 * l.room + 3

abbrev pub decreases-skip_container : goal.decreases-skip_container
decreases-skip_container l = 5 * l.room + 4
