use Rattle.std.proofs.Common.{◌+◌, ◌-◌, ◌*◌, codes}
use Rattle.query_tree.specs.Formula.{conjunction, disjunction}
use Rattle.filter_parsing.specs.Grammar.{both, either}
use Rattle.filter_parsing.specs.Reading.{unit_at, conj_at}
use Rattle.filter_parsing.specs.Parts.{part_of}
use Rattle.filter_parsing.proofs.ParserParts.{Ahead}
use Rattle.filter_parsing.proofs.filters.+parser.Given as goal

abbrev pub decreases-read_unit : goal.decreases-read_unit
decreases-read_unit l = 4 * l.room + 1

abbrev pub decreases-read_denied : goal.decreases-read_denied
decreases-read_denied l = 4 * l.room

abbrev pub decreases-read_bracketed : goal.decreases-read_bracketed
decreases-read_bracketed l = 4 * l.room

abbrev pub decreases-read_conj : goal.decreases-read_conj
decreases-read_conj l = 4 * l.room + 2

abbrev pub decreases-read_filter : goal.decreases-read_filter
decreases-read_filter l = 4 * l.room + 3

abbrev pub invariant-read_conj-loop-turn : goal.invariant-read_conj-loop-turn
invariant-read_conj-loop-turn l = Ahead (codes "and") both conjunction (λ xs. unit_at l.room xs) l.fn.text (part_of l.left) (l.turn-end - l.turn) l.rest

abbrev pub invariant-read_filter-loop-turn : goal.invariant-read_filter-loop-turn
invariant-read_filter-loop-turn l = Ahead (codes "or") either disjunction (λ ys. conj_at (λ xs. unit_at l.room xs) ys) l.fn.text (part_of l.left) (l.turn-end - l.turn) l.rest
