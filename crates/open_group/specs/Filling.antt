-- Which rows fill a row group: it closes with the row with which its rows, its texts or its entries reach a limit.
use Rattle.std.specs.Prelude.{ℕ, ◌+◌, List, [], ◌∷◌, length, map, Bool, true, nat_le, ◌||◌, Option}
use Rattle.json_tree.specs.Json.{Json}
use Rattle.shred_schema.specs.Groups.{Group, width}
use Rattle.shred_schema.specs.Recs.{RowRec}
use Rattle.shred_schema.specs.Views.{group_of}
use Rattle.shred_schema.specs.declared.nodes.Column.{Column}
use Rattle.shredder.specs.Shredded.{shred_row}
use Rattle.level_striping.specs.Counts.{leaf_sum}
use Rattle.level_striping.specs.Entries.{row_entries}
use Rattle.striping_laws.specs.Rows.{texts_len}
use Rattle.open_group.specs.declared.settings.Settings.{Settings}

-- in bytes of canonical text, with 1 more for each row
abbrev pub texts_limit : ℕ
texts_limit = 16777216

-- in entries over all leaf columns
abbrev pub entries_limit : ℕ
entries_limit = 4194304

-- how many entries a record has over all leaf columns, the metadata's included, and how many records have together
unfoldable pub row_count : Group → RowRec → ℕ
row_count n row = leaf_sum 0 (1 + width n) (λ j. length (row_entries true n 0 row j))

-- the same, of a column
abbrev pub counted_entries : Column → RowRec → ℕ
counted_entries column row = leaf_sum 0 (1 + width (group_of column.node)) (λ j. length (row_entries column.optional (group_of column.node) 0 row j))

abbrev pub rows_count : Group → List RowRec → ℕ
rows_count n [] = 0
rows_count n (row ∷ rows) = row_count n row + rows_count n rows

-- by the numbers of rows, of bytes of text and of entries
abbrev pub is_full_by : Settings → ℕ → ℕ → ℕ → Bool
is_full_by settings rows texts entries = nat_le settings.group_rows rows || (nat_le texts_limit texts || nat_le entries_limit entries)

-- the records of rows
abbrev pub records_of : Settings → Group → List (Option Json) → List RowRec
records_of settings n rows = map (λ row. shred_row n row settings.widths) rows

-- the rows fill a group
unfoldable pub is_full : Settings → Group → List (Option Json) → Bool
is_full settings n rows = is_full_by settings (length rows) (texts_len rows) (rows_count n (records_of settings n rows))
