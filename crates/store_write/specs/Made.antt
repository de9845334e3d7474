-- The bytes of the file of rows: one column of shredded Variants, written by the choices of the caller.
use Rattle.std.specs.Prelude.{ℕ, List, map, length, ℤ, pos, codes, Option, Result, true}
use Rattle.json_tree.specs.Json.{Json}
use Rattle.shred_schema.specs.Groups.{Group}
use Rattle.shred_schema.specs.Recs.{RowRec}
use Rattle.schema_elements.specs.declared.elements.SchemaElement.{SchemaElement}
use Rattle.footer_structs.specs.FooterWriting.{footer_bytes}
use Rattle.footer_structs.specs.declared.row_groups.GroupMeta.{GroupMeta}
use Rattle.written_columns.specs.Written.{schema_elements, column_paths}
use Rattle.group_writing.specs.GroupChunks.{Path, chunks_size, chunks_written, chunk_metas}
use Rattle.open_group.specs.declared.settings.Settings.{Settings}
use Rattle.open_group.specs.Filling.{is_full, records_of}
use Rattle.closed_groups.specs.ClosedGroups.{file_meta, group_meta}
use Rattle.store_write.specs.Frames.{Format}
use Rattle.store_write.specs.Frames as frame

-- the name of the column
abbrev pub column_name : List ℕ
column_name = codes "doc"

abbrev pub schema_of : Group → List SchemaElement
schema_of n = schema_elements true column_name n

abbrev pub paths_of : Group → List Path
paths_of n = column_paths column_name n

-- each leaf has TYPE_ORDER
abbrev pub orders_of : List Path → List ℤ
orders_of paths = map (λ path. pos 1) paths

-- the chunks of records, and the struct of their group
abbrev pub chunks_of : Settings → Group → List RowRec → List (List ℕ)
chunks_of settings n records = chunks_written settings.page_bytes true n records

abbrev pub struct_of : Settings → Group → List Path → ℕ → List RowRec → GroupMeta
struct_of settings n paths place records =
    group_meta (chunk_metas settings.page_bytes true n paths place records) (chunks_size (chunks_of settings n records)) (length records)

-- how the rows of a node are written
abbrev pub format : Settings → Group → Format (Option Json) GroupMeta
format settings n = record {
  is_full = is_full settings n;
  chunks = λ rows. chunks_of settings n (records_of settings n rows);
  meta = λ place rows. struct_of settings n (paths_of n) place (records_of settings n rows);
  footer = λ metas. footer_bytes (file_meta (schema_of n) (orders_of (paths_of n)) metas);
}

-- the bytes of the file of rows, or the length of the footer that would be too long with a group that closes
abbrev pub made : Settings → Group → List (Option Json) → Result (List ℕ) ℕ
made settings n rows = frame.made (format settings n) rows
