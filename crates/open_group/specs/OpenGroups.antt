-- A row group that is open.
use Rattle.std.specs.Prelude.{◌≡◌, ℕ, ◌-◌, ◌^◌, ◌<◌, ◌≤◌, min, true, List, length, map, Option}
use Rattle.std.specs.Option.{option_map}
use Rattle.std.specs.List.{AllByRecursion}
use Rattle.std.specs.Borrow.{Bor}
use Rattle.json_tree.specs.Json.{Json}
use Rattle.json_tree.specs.View.{view}
use Rattle.json_tree.specs.declared.types.Tree.{Tree}
use Rattle.vs_bytes.specs.declared.leaf_columns.Leaf.{Leaf}
use Rattle.variant_write.specs.Conditions.{IsWidths}
use Rattle.shred_schema.specs.Groups.{Group}
use Rattle.shred_schema.specs.Leaves.{column_leaves}
use Rattle.shred_schema.specs.Recs.{RowRec}
use Rattle.shred_schema.specs.Views.{group_of, row_rec_of}
use Rattle.shred_schema.specs.declared.nodes.Column.{Column}
use Rattle.shred_schema.specs.declared.records.RowRecord.{RowRecord}
use Rattle.schema_parsing.specs.Grammar.{IsSchema}
use Rattle.schema_parsing.specs.Canonical.{schema_text}
use Rattle.striping_laws.specs.Rows.{AreWritten, max_texts_len, min_page_bytes}
use Rattle.group_writing.specs.GroupChunks.{Path}
use Rattle.open_group.specs.declared.settings.Settings.{Settings}
use Rattle.open_group.specs.Filling.{rows_count}

-- the column, the schema paths of its leaves, the settings, the records of the rows so far, and how long the rows'
-- texts are, with 1 more for each
pub record Open : Type 0 where
  pub column : Column
  pub paths : List Path
  pub settings : Settings
  pub rows : List RowRecord
  pub texts : ℕ

-- the records, as plain data
abbrev pub records_in : Open → List RowRec
records_in g = map row_rec_of g.rows

abbrev pub node_of : Open → Group
node_of g = group_of g.column.node

-- a row that is handed in
abbrev pub row_of : Option (Bor Tree) → Option Json
row_of row = option_map (λ tree. view tree.now) row

-- settings that a writer takes
pub record IsSettings (settings : Settings) : Type 0 where
  pub widths : IsWidths settings.widths
  pub pages : min_page_bytes ≤ settings.page_bytes

-- a list header can say how many names a schema path has
abbrev pub IsShortPath : Path → Type 0
IsShortPath path = length path < 2 ^ 32

-- what is known of the column: a schema describes it
pub record IsWrittenColumn (column : Column) (paths : List Path) : Type 0 where
  pub optional : column.optional ≡ true
  pub schema : IsSchema (schema_text (group_of column.node)) (group_of column.node)
  pub each : length paths ≡ length (column_leaves true (group_of column.node))
  pub short : AllByRecursion IsShortPath paths

-- and of the rows
pub record AreGathered (n : Group) (records : List RowRec) (texts entries : ℕ) : Type 0 where
  pub written : AreWritten true n texts records
  pub few : texts ≤ max_texts_len
  pub counted : entries ≡ min (rows_count n records) (2 ^ 64 - 1)

pub record IsSound (column : Column) (leaves : List Leaf) (paths : List Path) (settings : Settings) (rows : List RowRecord) (texts entries : ℕ) : Type 0 where
  pub is_column : IsWrittenColumn column paths
  pub are_leaves : leaves ≡ column_leaves true (group_of column.node)
  pub chosen : IsSettings settings
  pub gathered : AreGathered (group_of column.node) (map row_rec_of rows) texts entries

-- the column and the choices stay
pub record KeepsColumn (before after : Open) : Type 0 where
  pub column : after.column ≡ before.column
  pub paths : after.paths ≡ before.paths
  pub settings : after.settings ≡ before.settings
