-- The chunks of a row group in its file, and the rows of the group.
use Rattle.std.specs.Prelude.{ℕ, zero, suc, ◌+◌, Bool, if◌then◌else◌, List, [], ◌∷◌, ◌++◌, Option, None, Some, Result, Ok, Err, slice_index, slice_index_or, slice_get}
use Rattle.json_tree.specs.Json.{Json}
use Rattle.vs_bytes.specs.Numbers.{part}
use Rattle.vs_bytes.specs.Outcome.{◌>>=◌}
use Rattle.vs_bytes.specs.declared.leaf_columns.Entry.{Entry}
use Rattle.vs_bytes.specs.declared.leaf_columns.Leaf.{Leaf}
use Rattle.vs_bytes.specs.declared.leaf_columns.Phys.TheVariants as phys
use Rattle.vs_bytes.specs.declared.leaf_columns.PrimKind.TheVariants as prim
use Rattle.vs_bytes.specs.declared.rule.Rule.{Rule}
use Rattle.vs_bytes.specs.declared.rule.Rule.TheVariants as rule
use Rattle.thrift_structs.specs.ChunkRanges.{chunk_range, count_of}
use Rattle.thrift_structs.specs.declared.column_chunks.ColumnMeta.{ColumnMeta}
use Rattle.thrift_structs.specs.declared.column_chunks.ChunkMeta.{ChunkMeta}
use Rattle.shelf.specs.declared.byte_range.ByteRange.{ByteRange}
use Rattle.footer_structs.specs.declared.row_groups.GroupMeta.{GroupMeta}
use Rattle.shred_schema.specs.Groups.{Group}
use Rattle.file_columns.specs.declared.columns.FileColumn.{FileColumn}
use Rattle.group_reading.specs.ChunkEntries.{chunk_entries}
use Rattle.group_reading.specs.GroupRows.{leaves_seen, group_seen}
use Rattle.group_reading.specs.declared.group_faults.GroupFault.{GroupFault}

-- One chunk, in a file whose footer begins at `end`.

-- how many entries it has by its metadata
abbrev pub values_in : Option ColumnMeta → ℕ
values_in None = 0
values_in (Some column) = count_of column.num_values

-- its entries, or the first rule that it violates
unfoldable pub chunk_seen : ℕ → ℕ → Leaf → ChunkMeta → List ℕ → Result (List Entry) Rule
chunk_seen end rows leaf chunk file =
    chunk_range chunk leaf end >>= λ range. chunk_entries leaf (values_in chunk.meta_data) rows (part file range.0 range.1)

-- what is read of the file for it: nothing where its metadata breaks a rule
abbrev pub range_in : List ℕ → Result (ℕ × ℕ) Rule → List ByteRange
range_in name (Ok range) = record { name = name; at = range.0; size = range.1 } ∷ []
range_in name (Err broken) = []

unfoldable pub chunk_plan : List ℕ → ℕ → Leaf → ChunkMeta → List ByteRange
chunk_plan name end leaf chunk = range_in name (chunk_range chunk leaf end)

-- The chunk of leaf j of a column in a row group.

-- what stands in for a leaf that isn't there
abbrev pub no_leaf : Leaf
no_leaf = record { rep = 0; def = 0; phys = phys.Boolean; prim = prim.Raw }

abbrev pub leaf_at : FileColumn → ℕ → Leaf
leaf_at column j = slice_index_or column.leaves j no_leaf

abbrev pub chunk_at : FileColumn → GroupMeta → ℕ → Option ChunkMeta
chunk_at column group j = slice_get group.columns (slice_index column.places j)

-- how many rows a group has
abbrev pub rows_in : GroupMeta → ℕ
rows_in group = count_of group.num_rows

-- a group may lack the chunk
abbrev pub with_chunk : Option ChunkMeta → (ChunkMeta → Result (List Entry) Rule) → Result (List Entry) Rule
with_chunk None seen = Err rule.FooterField
with_chunk (Some chunk) seen = seen chunk

unfoldable pub nth_seen : ℕ → FileColumn → GroupMeta → ℕ → List ℕ → Result (List Entry) Rule
nth_seen end column group j file =
    with_chunk (chunk_at column group j) (λ chunk. chunk_seen end (rows_in group) (leaf_at column j) chunk file)

abbrev pub plan_in : Option ChunkMeta → (ChunkMeta → List ByteRange) → List ByteRange
plan_in None plan = []
plan_in (Some chunk) plan = plan chunk

unfoldable pub nth_plan : List ℕ → ℕ → FileColumn → GroupMeta → ℕ → List ByteRange
nth_plan name end column group j = plan_in (chunk_at column group j) (chunk_plan name end (leaf_at column j))

-- The chunks of the leaves that are read.

-- the entries of `count` leaves from leaf j on, or the first rule that their chunks violate
abbrev pub entries_seen : (ℕ → Bool) → ℕ → FileColumn → GroupMeta → ℕ → ℕ → List ℕ → Result (List (List Entry)) GroupFault
entries_seen mask end column group j count file = leaves_seen mask (λ k. nth_seen end column group k file) j count

-- what is read of the file for them
abbrev pub leaf_plan : (ℕ → Bool) → List ℕ → ℕ → FileColumn → GroupMeta → ℕ → List ByteRange
leaf_plan mask name end column group j = if mask j then nth_plan name end column group j else []

unfoldable pub leaves_plan : (ℕ → Bool) → List ℕ → ℕ → FileColumn → GroupMeta → ℕ → ℕ → List ByteRange
leaves_plan mask name end column group j zero = []
leaves_plan mask name end column group j (suc count) =
    leaf_plan mask name end column group j ++ leaves_plan mask name end column group (j + 1) count

-- The rows of a row group, or the first rule that it violates.

unfoldable pub file_group_seen : (ℕ → Bool) → Bool → Group → ℕ → FileColumn → GroupMeta → List ℕ → Result (List (Option Json)) GroupFault
file_group_seen mask optional n end column group file =
    group_seen mask optional n (rows_in group) (λ j. nth_seen end column group j file)
