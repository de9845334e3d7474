-- The rows that a file is written of.
use Rattle.std.specs.Prelude.{◌≡◌, ◌≤◌, Bool, true, List, map, length, Option, None, Some}
use Rattle.json_tree.specs.Json.{Json, depth_of}
use Rattle.json_tree.specs.Text.{text_of}
use Rattle.json_tree.specs.Valid.{IsValid}
use Rattle.variant_read.specs.Meaning.{max_nesting}
use Rattle.variant_write.specs.Conditions.{max_text_len}
use Rattle.variant_write.specs.declared.widths.Widths.{Widths}
use Rattle.shred_schema.specs.Groups.{Group}
use Rattle.shred_schema.specs.Recs.{RowRec}
use Rattle.shredder.specs.Shredded.{shred_row}

-- a document within the limits of a Variant value. A row without one is absent, in an optional column
abbrev pub IsDocument : Bool → Option Json → Type 0
IsDocument optional None = optional ≡ true
IsDocument optional (Some j) = IsValid j × (length (text_of j) ≤ max_text_len) × (depth_of j ≤ max_nesting)

-- the records of rows
abbrev pub shredded_rows : Group → Widths → List (Option Json) → List RowRec
shredded_rows n widths rows = map (λ row. shred_row n row widths) rows
