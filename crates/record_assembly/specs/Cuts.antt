-- Where an item of a list ends in a leaf: an entry whose repetition level is m or less begins the next item, m being
-- the level of the list. Rows are the items at level 0.
use Rattle.std.specs.Prelude.{ℕ, nat_lt, List, [], ◌∷◌, Bool, true, false, cond}
use Rattle.vs_bytes.specs.declared.leaf_columns.Entry.{Entry}

-- the entries in front of the first one that begins an item
abbrev pub until : ℕ → List Entry → List Entry
until m [] = []
until m (e ∷ es) = cond (nat_lt m e.rep) (e ∷ until m es) []

-- that entry and those after it
abbrev pub beyond : ℕ → List Entry → List Entry
beyond m [] = []
beyond m (e ∷ es) = cond (nat_lt m e.rep) (beyond m es) (e ∷ es)

-- the first item's entries, and those of the items after it
abbrev pub first_item : ℕ → List Entry → List Entry
first_item m [] = []
first_item m (e ∷ es) = e ∷ until m es

abbrev pub later_items : ℕ → List Entry → List Entry
later_items m [] = []
later_items m (e ∷ es) = beyond m es

abbrev pub is_nil : List Entry → Bool
is_nil [] = true
is_nil (e ∷ es) = false
