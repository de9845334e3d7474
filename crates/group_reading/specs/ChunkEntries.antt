-- The entries of a chunk in a row group. An entry of repetition level 0 begins a row (the parquet-format README, "Nested
-- Encoding"), and a chunk has an entry or more for each row of its group (parquet.thrift, RowGroup).
use Rattle.std.specs.Prelude.{ℕ, if◌then◌else◌, List, Some, Result, Ok, Err}
use Rattle.vs_bytes.specs.Outcome.{◌>>=◌}
use Rattle.vs_bytes.specs.declared.leaf_columns.Entry.{Entry}
use Rattle.vs_bytes.specs.declared.leaf_columns.Leaf.{Leaf}
use Rattle.vs_bytes.specs.declared.rule.Rule.{Rule}
use Rattle.vs_bytes.specs.declared.rule.Rule.TheVariants as rule
use Rattle.chunks.specs.Turns.{standing, entries_of}
pub use Rattle.chunks.specs.RowStarts.{row_starts, begins_row, has_rows}

abbrev pub with_rows : ℕ → List Entry → Result (List Entry) Rule
with_rows rows entries = if has_rows rows entries then Ok entries else Err rule.RowCount

-- the entries of a leaf column's chunk that has `values` of them by its metadata, in a group of so many rows; or the
-- first rule that the chunk violates: those of its pages, then `ValueCount`, and `RowCount` last
unfoldable pub chunk_entries : Leaf → ℕ → ℕ → List ℕ → Result (List Entry) Rule
chunk_entries leaf values rows bytes = entries_of (standing leaf (Some values) bytes) >>= with_rows rows
