-- The body of a data page: repetition levels, definition levels, and the values of the entries at the maximum
-- definition level.
use Rattle.std.specs.Prelude.{ℕ, ◌==◌, if◌then◌else◌, List, [], ◌∷◌, drop, slice_get, Option, None, Result, Ok}
use Rattle.std.specs.List.{count_by}
use Rattle.vs_bytes.specs.Outcome.{◌>>=◌}
use Rattle.vs_bytes.specs.declared.leaf_columns.Cell.{Cell}
use Rattle.vs_bytes.specs.declared.leaf_columns.Entry.{Entry}
use Rattle.vs_bytes.specs.declared.leaf_columns.Leaf.{Leaf}
use Rattle.vs_bytes.specs.declared.rule.Rule.{Rule}
use Rattle.plain_values.specs.Plain.{plain_cells}
use Rattle.pages.specs.Levels.{levels_of}

abbrev pub entry : ℕ → ℕ → Option Cell → Entry
entry rep def value = record { rep = rep; def = def; value = value }

-- how many entries have a value
abbrev pub value_count : ℕ → List ℕ → ℕ
value_count maximum defs = count_by (λ def. def == maximum) defs

-- the entries of levels. Each one at the maximum definition level has the next of the values
abbrev pub joined : ℕ → List ℕ → List ℕ → List Cell → List Entry
joined maximum [] defs cells = []
joined maximum (rep ∷ reps) [] cells = []
joined maximum (rep ∷ reps) (def ∷ defs) cells =
    if def == maximum then entry rep def (slice_get cells 0) ∷ joined maximum reps defs (drop 1 cells)
    else entry rep def None ∷ joined maximum reps defs cells

-- `count` entries, where `rep_levels`, `def_levels` and `values` say how so many levels or values are read from the
-- front, and how many bytes levels take. Bytes after the last value are passed over
abbrev pub body_of : (ℕ → List ℕ → Result (List ℕ × ℕ) Rule) → (ℕ → List ℕ → Result (List ℕ × ℕ) Rule) → (ℕ → List ℕ → Result (List Cell) Rule) → ℕ → ℕ → List ℕ → Result (List Entry) Rule
body_of rep_levels def_levels values maximum count bytes =
    rep_levels count bytes >>= (λ reps.
    def_levels count (drop reps.1 bytes) >>= (λ defs.
    values (value_count maximum defs.0) (drop defs.1 (drop reps.1 bytes)) >>= (λ cells.
    Ok (joined maximum reps.0 defs.0 cells))))

-- the body of a data page of the first form, whose values are in PLAIN
unfoldable pub data_body : Leaf → ℕ → List ℕ → Result (List Entry) Rule
data_body leaf count body =
    body_of (levels_of leaf.rep) (levels_of leaf.def) (plain_cells leaf.phys leaf.prim) leaf.def count body
