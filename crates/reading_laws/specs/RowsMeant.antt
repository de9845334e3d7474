-- What row records mean, one after the other.
use Rattle.std.specs.Prelude.{ℕ, ◌+◌, Bool, List, [], ◌∷◌, Option, Result, Ok}
use Rattle.json_tree.specs.Json.{Json}
use Rattle.vs_bytes.specs.Outcome.{◌>>=◌}
use Rattle.shred_schema.specs.Groups.{Group}
use Rattle.shred_schema.specs.Ranges.{every}
use Rattle.shred_schema.specs.Recs.{RowRec}
use Rattle.unshredder.specs.Rows.{row_seen}
use Rattle.group_reading.specs.GroupRows.{at_place}
use Rattle.group_reading.specs.declared.group_faults.GroupFault.{GroupFault}
use Rattle.group_reading.specs.declared.group_faults.PlaceInGroup.TheVariants as place

-- the rows of records of which the first is row k, where a mask says which leaves are read; or the first rule that a
-- record violates
unfoldable pub rows_meant : (ℕ → Bool) → Group → ℕ → List RowRec → Result (List (Option Json)) GroupFault
rows_meant mask n k [] = Ok []
rows_meant mask n k (x ∷ xs) =
    at_place (place.Row k) (row_seen mask n x) >>= λ row.
    rows_meant mask n (k + 1) xs >>= λ rows.
    Ok (row ∷ rows)

-- of all records of a group, where each leaf is read
abbrev pub rows_of : Group → List RowRec → Result (List (Option Json)) GroupFault
rows_of n rows = rows_meant every n 0 rows
