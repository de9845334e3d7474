-- The rows that begin in the entries of a leaf.
use Rattle.std.specs.Prelude.{ℕ, ◌==◌, Bool, ◌&&◌, List}
use Rattle.vs_bytes.specs.declared.leaf_columns.Entry.{Entry}
pub use Rattle.pages.specs.RowStarts.{row_starts, begins_row}

-- entries are those of so many rows
abbrev pub has_rows : ℕ → List Entry → Bool
has_rows rows entries = begins_row entries && (row_starts entries == rows)
