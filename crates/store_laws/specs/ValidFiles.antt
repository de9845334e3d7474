-- Files that violate no rule, and their rows.
use Rattle.std.specs.Prelude.{◌≡◌, ℕ, ◌+◌, ◌<◌, Bool, List, Option, Some, Ok}
use Rattle.std.specs.List.{AllByRecursion}
use Rattle.json_tree.specs.Json.{Json}
use Rattle.file_columns.specs.Columns.{ColumnView, column_of}
use Rattle.file_columns.specs.Views.{shown}
use Rattle.file_columns.specs.declared.columns.FileColumn.{FileColumn}
use Rattle.thrift_structs.specs.ChunkRanges.{chunk_range}
use Rattle.thrift_structs.specs.declared.column_chunks.ChunkMeta.{ChunkMeta}
use Rattle.footer_structs.specs.declared.row_groups.GroupMeta.{GroupMeta}
use Rattle.shred_schema.specs.Groups.{Group, width}
use Rattle.footer_structs.specs.Footers.{orders_in}
use Rattle.store_read.specs.FileGroups.{leaf_at, chunk_at}
use Rattle.thrift_footer.specs.Opening.{opening}
use Rattle.thrift_footer.specs.declared.opening.Opened.{Opened}
use Rattle.reading_laws.specs.FullMasks.{ReadsAll}
use Rattle.store_laws.specs.Accuracy.{IsAccurateGroup}
use Rattle.store_laws.specs.FileRows.{rows_in}

-- the file opens, it has the column of the name, and the groups give the rows where each leaf is read
pub record IsValid (file name : List ℕ) (rows : List (Option Json)) : Type 0 where
  pub opened : Opened
  pub view : ColumnView
  pub opens : opening file ≡ Ok opened
  pub has_column : column_of opened.meta.schema name (orders_in opened.meta.column_orders) ≡ Ok view
  pub groups : (column : FileColumn) (mask : ℕ → Bool) → shown column ≡ view → ReadsAll mask view.node → rows_in mask view.optional view.node opened.end column 0 opened.meta.row_groups file ≡ Ok rows

-- the statistics of each chunk of the column are accurate
abbrev pub IsHonest : List ℕ → List ℕ → Type 0
IsHonest file name = (opened : Opened) (column : FileColumn) → opening file ≡ Ok opened → column_of opened.meta.schema name (orders_in opened.meta.column_orders) ≡ Ok (shown column)
    → AllByRecursion (IsAccurateGroup (shown column).node opened.end column file) opened.meta.row_groups

-- a group has the chunk of leaf j, and no rule refuses its range
pub record HasRange (end : ℕ) (column : FileColumn) (group : GroupMeta) (j : ℕ) : Type 0 where
  pub chunk : ChunkMeta
  pub range : ℕ × ℕ
  pub there : chunk_at column group j ≡ Some chunk
  pub is_range : chunk_range chunk (leaf_at column j) end ≡ Ok range

-- each leaf's
abbrev pub HasRanges : Group → ℕ → FileColumn → GroupMeta → Type 0
HasRanges n end column group = (j : ℕ) → j < 1 + width n → HasRange end column group j

-- those of all groups
abbrev pub AllInRange : List ℕ → List ℕ → Type 0
AllInRange file name = (opened : Opened) (column : FileColumn) → opening file ≡ Ok opened → column_of opened.meta.schema name (orders_in opened.meta.column_orders) ≡ Ok (shown column)
    → AllByRecursion (HasRanges (shown column).node opened.end column) opened.meta.row_groups
