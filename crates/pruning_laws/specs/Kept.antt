-- What a query says of rows of which only the leaves that it needs are read.
use Rattle.std.specs.Prelude.{◌≡◌, ◌+◌, ℕ, true, List, Option, Result, Ok}
use Rattle.json_tree.specs.Json.{Json}
use Rattle.vs_bytes.specs.declared.leaf_columns.Entry.{Entry}
use Rattle.vs_bytes.specs.declared.rule.Rule.{Rule}
use Rattle.query_tree.specs.Asked.{Asked}
use Rattle.path_query.specs.Answer.{row_text, answer_of}
use Rattle.shred_schema.specs.Groups.{Group, width}
use Rattle.shred_schema.specs.Ranges.{is_among}
use Rattle.group_reading.specs.ChunkEntries.{has_rows}
use Rattle.group_reading.specs.declared.group_faults.GroupFault.{GroupFault}

-- each chunk of a group that gives entries has as many rows as the group
abbrev pub HaveRows : Group → ℕ → (ℕ → Result (List Entry) Rule) → Type 0
HaveRows n count chunk = (j : ℕ) (entries : List Entry) → is_among j 0 (1 + width n) ≡ true → chunk j ≡ Ok entries → has_rows count entries ≡ true

-- no rule is violated in what is seen of a row, and the query prints of it what it prints of the row
pub record KeepsRow (asked : Asked) (seen : Result (Option Json) Rule) (row : Option Json) : Type 0 where
  pub shown : Option Json
  pub is_shown : seen ≡ Ok shown
  pub text : row_text asked shown ≡ row_text asked row

-- the same of the rows of a group
pub record KeepsRows (asked : Asked) (seen : Result (List (Option Json)) GroupFault) (rows : List (Option Json)) : Type 0 where
  pub shown : List (Option Json)
  pub are_shown : seen ≡ Ok shown
  pub text : answer_of asked shown ≡ answer_of asked rows
