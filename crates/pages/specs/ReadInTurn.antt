-- Entries that are made one by one: each takes its value from the front of the bytes.
use Rattle.std.specs.Prelude.{ℕ, ◌==◌, Bool, true, false, List, [], ◌∷◌, ◌++◌, drop, Option, None, Some, Result, Ok}
use Rattle.vs_bytes.specs.Outcome.{◌>>=◌}
use Rattle.vs_bytes.specs.declared.leaf_columns.Cell.{Cell}
use Rattle.vs_bytes.specs.declared.leaf_columns.Entry.{Entry}
use Rattle.vs_bytes.specs.declared.leaf_columns.Leaf.{Leaf}
use Rattle.vs_bytes.specs.declared.rule.Rule.{Rule}
use Rattle.plain_values.specs.Plain.{plain_cells}
use Rattle.pages.specs.Bodies.{entry, value_count, joined}

-- the value of an entry that has one or has none, and how many bytes it takes
abbrev pub value_at : (List ℕ → Result (Cell × ℕ) Rule) → Bool → List ℕ → Result (Option Cell × ℕ) Rule
value_at front true bytes = front bytes >>= (λ c. Ok (Some c.0, c.1))
value_at front false bytes = Ok (None, 0)

-- the entries of levels, each one at the maximum definition level with a value from the front of the bytes
abbrev pub entries_in_turn : (List ℕ → Result (Cell × ℕ) Rule) → ℕ → List ℕ → List ℕ → List ℕ → Result (List Entry) Rule
entries_in_turn front maximum [] defs bytes = Ok []
entries_in_turn front maximum (rep ∷ reps) [] bytes = Ok []
entries_in_turn front maximum (rep ∷ reps) (def ∷ defs) bytes =
    value_at front (def == maximum) bytes >>= (λ v.
    entries_in_turn front maximum reps defs (drop v.1 bytes) >>= (λ es.
    Ok (entry rep def v.0 ∷ es)))

-- what was found and one more entry, and how many bytes its value takes
abbrev pub one_more : (List ℕ → Result (Cell × ℕ) Rule) → ℕ → ℕ → ℕ → List Entry → List ℕ → Result (List Entry × ℕ) Rule
one_more front maximum rep def found bytes = value_at front (def == maximum) bytes >>= (λ v. Ok (found ++ entry rep def v.0 ∷ [], v.1))

-- the entries of levels, where all values are read first
abbrev pub entries_at_once : Leaf → List ℕ → List ℕ → List ℕ → Result (List Entry) Rule
entries_at_once leaf reps defs bytes =
    plain_cells leaf.phys leaf.prim (value_count leaf.def defs) bytes >>= (λ cells. Ok (joined leaf.def reps defs cells))

-- what was made, in front of what follows
abbrev pub before : List Entry → Result (List Entry) Rule → Result (List Entry) Rule
before found rest = rest >>= (λ es. Ok (found ++ es))
