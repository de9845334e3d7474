-- Rows, cut into groups.
use Rattle.std.specs.Prelude.{List, [], ◌∷◌, ◌++◌, Bool, cond, fold}

-- groups that are closed, and the rows after them
pub record Cut (Row : Type 0) : Type 0 where
  pub closed : List (List Row)
  pub rest : List Row

module _ {Row : Type 0} (is_full : List Row → Bool) where
  -- a group closes with the row that makes it full
  abbrev pub with_row : Cut Row → Row → Cut Row
  with_row c row = cond (is_full (c.rest ++ row ∷ []))
      (record { closed = c.closed ++ (c.rest ++ row ∷ []) ∷ []; rest = [] })
      (record { closed = c.closed; rest = c.rest ++ row ∷ [] })

  unfoldable pub cut_of : List Row → Cut Row
  cut_of rows = fold with_row (record { closed = []; rest = [] }) rows

-- the rows that are left are the last group, if there are any
abbrev pub with_last : {Row : Type 0} → List (List Row) → List Row → List (List Row)
with_last closed [] = closed
with_last closed rest = closed ++ rest ∷ []

abbrev pub groups_of : {Row : Type 0} → Cut Row → List (List Row)
groups_of c = with_last c.closed c.rest
