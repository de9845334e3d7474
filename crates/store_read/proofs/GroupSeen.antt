-- The rows of a row group, by the entries of its leaves.
use Rattle.std.proofs.Common.{◌≡◌, ◌∙◌, sym, ap, ℕ, ◌+◌, ◌<◌, Bool, true, List, [], length, get_or, Result, Ok, Err, arith}
use Rattle.vs_bytes.specs.Outcome.{◌>>=◌}
use Rattle.vs_bytes.specs.declared.leaf_columns.Entry.{Entry}
use Rattle.shred_schema.specs.Groups.{width}
use Rattle.shred_schema.specs.Ranges.{is_among, reads}
use Rattle.shred_schema.specs.Views.{group_of}
use Rattle.shred_schema.proofs.LeafRanges.{among_high}
use Rattle.shelf.specs.Storage.{Storage}
use Rattle.footer_structs.specs.declared.row_groups.GroupMeta.{GroupMeta}
use Rattle.file_columns.specs.declared.columns.FileColumn.{FileColumn}
use Rattle.group_reading.specs.ChunkEntries.{has_rows}
use Rattle.group_reading.specs.GroupRows.{leaves_seen, rows_seen, group_seen}
use Rattle.group_reading.specs.RowsAhead.{StandsFor}
use Rattle.group_reading.specs.declared.group_faults.GroupFault.{GroupFault}
use Rattle.group_reading.specs.declared.group_rows.GroupRows.{GroupRows}
use Rattle.store_read.specs.FileGroups.{rows_in, nth_seen, entries_seen, file_group_seen}
use Rattle.store_read.specs.GroupRead.{CanRead, group_in, group_plan, rows_left, Begins, ReadsGroup}
use Rattle.store_read.specs.Ranges.{AsksFirst, ReadsFile}
use Rattle.store_read.specs.declared.read_stop.ReadStop.{ReadStop}
use Rattle.store_read.specs.declared.read_stop.ReadStop.TheVariants.{Violated, Failed, NoMemory}
use Rattle.store_read.proofs.Reading.{asks_all}

-- of the leaves' entries, or the first rule that their chunks violate
seen_by : (mask : List Bool) (end : ℕ) (column : FileColumn) (group : GroupMeta) (file : List ℕ) (found : Result (List (List Entry)) GroupFault) → CanRead column mask → entries_seen (reads mask) end column group 0 (length mask) file ≡ found →
    group_in mask end column group file ≡ (found >>= λ leaves. rows_seen (reads mask) column.column.optional (group_of column.column.node) (rows_in group) 0 (λ j. get_or leaves j []))
unfolding file_group_seen group_seen
seen_by mask end column group file found can is =
    ap (λ (r : Result (List (List Entry)) GroupFault). r >>= λ leaves. rows_seen (reads mask) column.column.optional (group_of column.column.node) (rows_in group) 0 (λ j. get_or leaves j []))
    (ap (λ count. leaves_seen (reads mask) (λ j. nth_seen end column group j file) 0 count) (sym can.told) ∙ is)

pub rows_begin : (before after : Storage) (name : List ℕ) (mask : List Bool) (end : ℕ) (column : FileColumn) (group : GroupMeta) (leaves : List (List Entry)) (rows : GroupRows) → CanRead column mask →
    ReadsFile {A = List (List Entry)} {B = List (List Entry)} (λ leaves. leaves) before after name (group_plan mask name end column group) (entries_seen (reads mask) end column group 0 (length mask)) (Ok leaves) →
    StandsFor column.column.optional (group_of column.column.node) mask rows →
    rows_left mask column rows ≡ rows_seen (reads mask) column.column.optional (group_of column.column.node) (rows_in group) 0 (λ j. get_or leaves j []) →
    Begins before after name mask end column group rows
rows_begin before after name mask end column group leaves rows can read stands ahead = record {
  stands = stands;
  of_file = λ file known. seen_by mask end column group file (Ok leaves) can (read.of_file file known) ∙ sym ahead;
  asks = read.asks;
}

pub rows_lost : (before after : Storage) (name : List ℕ) (mask : List Bool) (end : ℕ) (column : FileColumn) (group : GroupMeta) (leaves : List (List Entry)) →
    ReadsFile {A = List (List Entry)} {B = List (List Entry)} (λ leaves. leaves) before after name (group_plan mask name end column group) (entries_seen (reads mask) end column group 0 (length mask)) (Ok leaves) →
    AsksFirst before after (group_plan mask name end column group)
rows_lost before after name mask end column group leaves read = asks_all before after (group_plan mask name end column group) read.asks

pub leaves_stop : (before after : Storage) (name : List ℕ) (mask : List Bool) (end : ℕ) (column : FileColumn) (group : GroupMeta) (stop : ReadStop GroupFault) → CanRead column mask →
    ReadsFile {A = List (List Entry)} {B = List (List Entry)} (λ leaves. leaves) before after name (group_plan mask name end column group) (entries_seen (reads mask) end column group 0 (length mask)) (Err stop) →
    ReadsGroup before after name mask end column group (Err stop)
leaves_stop before after name mask end column group (Violated fault) can stops = record {
  of_file = λ file known. seen_by mask end column group file (Err fault) can (stops.of_file file known);
  asks = stops.asks;
}
leaves_stop before after name mask end column group Failed can stops = stops
leaves_stop before after name mask end column group NoMemory can stops = stops

-- each leaf that is read has the rows of the group
pub rows_there : (mask : List Bool) (column : FileColumn) (count : ℕ) (leaves : List (List Entry)) → CanRead column mask → ((j : ℕ) → j < length mask → reads mask j ≡ true → has_rows count (get_or leaves j []) ≡ true) →
    (j : ℕ) → is_among j 0 (1 + width (group_of column.column.node)) ≡ true → reads mask j ≡ true → has_rows count (get_or leaves j []) ≡ true
rows_there mask column count leaves can rows j among read =
    rows j (omega (arith, can.told, among_high j 0 (1 + width (group_of column.column.node)) among)) read
