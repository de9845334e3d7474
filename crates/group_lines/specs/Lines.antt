-- What is made of the rows of a group: the lines of a query, or the rows themselves. Where the rows violate a rule,
-- nothing is made of them but this rule.
use Rattle.std.specs.Prelude.{◌≡◌, ℕ, Bool, List, [], ◌++◌, map, Option, Result, Ok, Err, OnErr}
use Rattle.std.specs.Option.{option_map}
use Rattle.json_tree.specs.Json.{Json}
use Rattle.json_tree.specs.View.{view}
use Rattle.json_tree.specs.declared.types.Tree.{Tree}
use Rattle.vs_bytes.specs.Outcome.{◌>>=◌, Grows}
use Rattle.vs_bytes.specs.declared.refused.Refused.{Refused}
use Rattle.vs_bytes.specs.declared.refused.Refused.TheVariants.{Fault, NoMemory}
use Rattle.query_tree.specs.Asked.{Asked}
use Rattle.path_query.specs.Answer.{answer_of}
use Rattle.shred_schema.specs.Groups.{Group}
use Rattle.shred_schema.specs.Ranges.{reads}
use Rattle.group_reading.specs.RowsAhead.{rows_ahead}
use Rattle.group_reading.specs.declared.group_faults.GroupFault.{GroupFault}
use Rattle.group_reading.specs.declared.group_rows.GroupRows.{GroupRows}

-- the lines of a query
abbrev pub lines_of : Asked → Result (List (Option Json)) GroupFault → Result (List ℕ) GroupFault
lines_of asked rows = rows >>= λ found. Ok (answer_of asked found)

-- the rows that are still to come, in the terms of the column
abbrev pub rows_left : Bool → Group → List Bool → GroupRows → Result (List (Option Json)) GroupFault
rows_left optional n mask rows = rows_ahead (reads mask) optional n rows

-- lines were appended
pub record Prints (asked : Asked) (rows : Result (List (Option Json)) GroupFault) (old new : List ℕ) : Type 0 where
  pub text : List ℕ
  pub lines : lines_of asked rows ≡ Ok text
  pub appended : new ≡ old ++ text

-- nothing was, and the rows violate a rule; or there was no memory
pub record Withholds (rows : Result (List (Option Json)) GroupFault) (old new : List ℕ) (fault : GroupFault) : Type 0 where
  pub violated : rows ≡ Err fault
  pub same : new ≡ old

abbrev pub PrintsRows : Asked → Result (List (Option Json)) GroupFault → List ℕ → List ℕ → Result (Unit {0}) (Refused GroupFault) → Type 0
PrintsRows asked rows old new (Ok _) = Prints asked rows old new
PrintsRows asked rows old new (Err (Fault fault)) = Withholds rows old new fault
PrintsRows asked rows old new (Err NoMemory) = new ≡ old

-- the same where the output isn't cut back: it only grew
pub record Spoils (rows : Result (List (Option Json)) GroupFault) (old new : List ℕ) (fault : GroupFault) : Type 0 where
  pub violated : rows ≡ Err fault
  pub grown : Grows old new

abbrev pub AppendsRows : Asked → Result (List (Option Json)) GroupFault → List ℕ → List ℕ → Result (Unit {0}) (Refused GroupFault) → Type 0
AppendsRows asked rows old new (Ok _) = Prints asked rows old new
AppendsRows asked rows old new (Err (Fault fault)) = Spoils rows old new fault
AppendsRows asked rows old new (Err NoMemory) = Grows old new

-- The rows themselves.

abbrev pub trees_of : List (Option Tree) → List (Option Json)
trees_of rows = map (option_map view) rows
