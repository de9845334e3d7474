-- Where rows begin in the entries of a leaf: an entry of repetition level 0 begins a row (the parquet-format README,
-- "Nested Encoding").
use Rattle.std.specs.Prelude.{ℕ, ◌==◌, Bool, true, List, [], ◌∷◌, count_by}
use Rattle.vs_bytes.specs.declared.leaf_columns.Entry.{Entry}

-- how many rows begin in entries
abbrev pub row_starts : List Entry → ℕ
row_starts entries = count_by (λ e. e.rep == 0) entries

-- entries begin with a row
abbrev pub begins_row : List Entry → Bool
begins_row [] = true
begins_row (e ∷ es) = e.rep == 0
