-- The rows of a file, group by group.
use Rattle.std.specs.Prelude.{ℕ, ◌+◌, Bool, List, [], ◌∷◌, ◌++◌, Option, Result, Ok, Err}
use Rattle.json_tree.specs.Json.{Json}
use Rattle.vs_bytes.specs.Outcome.{◌>>=◌}
use Rattle.footer_structs.specs.declared.row_groups.GroupMeta.{GroupMeta}
use Rattle.shred_schema.specs.Groups.{Group}
use Rattle.file_columns.specs.declared.columns.FileColumn.{FileColumn}
use Rattle.group_reading.specs.declared.group_faults.GroupFault.{GroupFault}
use Rattle.store_read.specs.FileGroups.{file_group_seen}

-- what is wrong in a row group, and which group it is
pub record FileFault : Type 0 where
  pub group : ℕ
  pub fault : GroupFault

abbrev pub in_group : {A : Type 0} → ℕ → Result A GroupFault → Result A FileFault
in_group k (Ok a) = Ok a
in_group k (Err fault) = Err (record { group = k; fault = fault })

-- the rows of groups of which the first is group k, where a mask says which leaves are read and the file's footer begins
-- at `end`; or the first rule that they violate
unfoldable pub rows_in : (ℕ → Bool) → Bool → Group → ℕ → FileColumn → ℕ → List GroupMeta → List ℕ → Result (List (Option Json)) FileFault
rows_in mask optional n end column k [] file = Ok []
rows_in mask optional n end column k (g ∷ gs) file =
    in_group k (file_group_seen mask optional n end column g file) >>= λ rows.
    rows_in mask optional n end column (k + 1) gs file >>= λ later.
    Ok (rows ++ later)
