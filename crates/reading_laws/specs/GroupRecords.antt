-- The records that the chunks of a row group have.
use Rattle.std.specs.Prelude.{◌≡◌, ℕ, ◌+◌, Bool, true, List, length, Option, Result, Ok}
use Rattle.std.specs.List.{AllByRecursion}
use Rattle.json_tree.specs.Json.{Json}
use Rattle.vs_bytes.specs.declared.leaf_columns.Entry.{Entry}
use Rattle.vs_bytes.specs.declared.rule.Rule.{Rule}
use Rattle.shred_schema.specs.Groups.{Group, width}
use Rattle.shred_schema.specs.Ranges.{is_among}
use Rattle.shred_schema.specs.Recs.{RowRec}
use Rattle.shred_schema.specs.Shapes.{RowIsOf}
use Rattle.level_striping.specs.Entries.{stripes}
use Rattle.reading_laws.specs.RowsMeant.{rows_of}

-- `count` records of the column, whose stripes the chunks have in all leaves, and which mean the rows
pub record HasRecords (optional : Bool) (n : Group) (count : ℕ) (chunk : ℕ → Result (List Entry) Rule) (rows : List (Option Json)) : Type 0 where
  pub records : List RowRec
  pub of : AllByRecursion (RowIsOf optional n) records
  pub chunks : (j : ℕ) → is_among j 0 (1 + width n) ≡ true → chunk j ≡ Ok (stripes optional n records j)
  pub meant : rows_of n records ≡ Ok rows
  pub counted : length records ≡ count
