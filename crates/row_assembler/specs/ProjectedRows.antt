-- Rows of a column without the leaves that aren't read; the metadata, if it is read, is its leaf 0.
use Rattle.std.specs.Prelude.{ℕ, ◌+◌, List, Bool, true, false, cond, Option, Some}
use Rattle.vs_bytes.specs.declared.leaf_columns.Entry.{Entry}
use Rattle.shred_schema.specs.Groups.{Group, width}
use Rattle.shred_schema.specs.Ranges.{every}
use Rattle.shred_schema.specs.Recs.{RowRec, absent}
use Rattle.record_assembly.specs.Reading.{are_null, read, with_meta, meta_read}

-- how many leaves stand before those of the node
abbrev pub meta_width : Bool → ℕ
meta_width meta = cond meta 1 0

-- a row that is there
abbrev pub present_kept : Bool → Group → ℕ → (ℕ → List Entry) → Option RowRec
present_kept meta n d es = with_meta (meta_read meta 0 d (es 0)) (read n (meta_width meta) every 0 0 d es)

-- a row, `optional` where it may be absent
abbrev pub row_kept : Bool → Bool → Group → (ℕ → List Entry) → Option RowRec
row_kept meta false n es = present_kept meta n 0 es
row_kept meta true n es = cond (are_null every 0 (meta_width meta + width n) 0 0 es) (Some absent) (present_kept meta n 1 es)
