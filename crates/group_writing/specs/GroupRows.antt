-- The rows of a group that is written.
use Rattle.std.specs.Prelude.{ℕ, ◌≤◌, Bool, List}
use Rattle.shred_schema.specs.Groups.{Group}
use Rattle.shred_schema.specs.Recs.{RowRec}
use Rattle.striping_laws.specs.Rows.{AreWritten, max_texts_len}

-- rows that shredding gives, whose texts, with 1 more for each row, have `total` bytes or fewer
pub record IsGroup (optional : Bool) (n : Group) (rows : List RowRec) : Type 0 where
  pub total : ℕ
  pub few : total ≤ max_texts_len
  pub written : AreWritten optional n total rows
