-- The rows of a row group that is read from its file.
use Rattle.std.specs.Prelude.{◌≡◌, ℕ, ◌+◌, Bool, false, List, length, Option, Result, Ok, Err}
use Rattle.json_tree.specs.Json.{Json}
use Rattle.shred_schema.specs.Groups.{width}
use Rattle.shred_schema.specs.Lawful.{IsWellFormed}
use Rattle.shred_schema.specs.Ranges.{reads, none_read}
use Rattle.shred_schema.specs.Views.{group_of}
use Rattle.shelf.specs.Storage.{Storage}
use Rattle.shelf.specs.declared.byte_range.ByteRange.{ByteRange}
use Rattle.footer_structs.specs.declared.row_groups.GroupMeta.{GroupMeta}
use Rattle.file_columns.specs.declared.columns.FileColumn.{FileColumn}
use Rattle.group_reading.specs.RowsAhead.{rows_ahead, StandsFor}
use Rattle.group_reading.specs.declared.group_faults.GroupFault.{GroupFault}
use Rattle.group_reading.specs.declared.group_rows.GroupRows.{GroupRows}
use Rattle.store_read.specs.FileGroups.{leaves_plan, file_group_seen}
use Rattle.store_read.specs.Ranges.{OfFile, Asks, AsksFirst, FailsAt, Refuses}
use Rattle.store_read.specs.declared.read_stop.ReadStop.{ReadStop}
use Rattle.store_read.specs.declared.read_stop.ReadStop.TheVariants.{Violated, Failed, NoMemory}

-- the column is well-formed, has a leaf, a place and a part of the mask for each of its leaves, and the mask reads some
-- leaf
pub record CanRead (column : FileColumn) (mask : List Bool) : Type 0 where
  pub well : IsWellFormed (group_of column.column.node)
  pub leaves : length column.leaves ≡ 1 + width (group_of column.column.node)
  pub places : length column.places ≡ 1 + width (group_of column.column.node)
  pub told : length mask ≡ 1 + width (group_of column.column.node)
  pub some : none_read (reads mask) 0 (1 + width (group_of column.column.node)) ≡ false

-- the rows of the group, under a mask, by the bytes of the file
abbrev pub group_in : List Bool → ℕ → FileColumn → GroupMeta → List ℕ → Result (List (Option Json)) GroupFault
group_in mask end column group file = file_group_seen (reads mask) column.column.optional (group_of column.column.node) end column group file

-- what is read of the file for them
abbrev pub group_plan : List Bool → List ℕ → ℕ → FileColumn → GroupMeta → List ByteRange
group_plan mask name end column group = leaves_plan (reads mask) name end column group 0 (length mask)

-- the rows that are still to come
abbrev pub rows_left : List Bool → FileColumn → GroupRows → Result (List (Option Json)) GroupFault
rows_left mask column rows = rows_ahead (reads mask) column.column.optional (group_of column.column.node) rows

-- the chunks are read, and the rows that are still to come are those of the group
pub record Begins (before after : Storage) (name : List ℕ) (mask : List Bool) (end : ℕ) (column : FileColumn) (group : GroupMeta) (rows : GroupRows) : Type 0 where
  pub stands : StandsFor column.column.optional (group_of column.column.node) mask rows
  pub of_file : OfFile before name (λ file. group_in mask end column group file ≡ rows_left mask column rows)
  pub asks : Asks before after (group_plan mask name end column group)

abbrev pub ReadsGroup : Storage → Storage → List ℕ → List Bool → ℕ → FileColumn → GroupMeta → Result GroupRows (ReadStop GroupFault) → Type 0
ReadsGroup before after name mask end column group (Ok rows) = Begins before after name mask end column group rows
ReadsGroup before after name mask end column group (Err (Violated fault)) = Refuses before after name (group_plan mask name end column group) (λ file. group_in mask end column group file ≡ Err fault)
ReadsGroup before after name mask end column group (Err Failed) = FailsAt before after (group_plan mask name end column group)
ReadsGroup before after name mask end column group (Err NoMemory) = AsksFirst before after (group_plan mask name end column group)
