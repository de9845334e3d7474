-- Footers: the metadata of a file that bytes hold, or the rule that they violate.
use Rattle.std.specs.Prelude.{ℕ, ◌+◌, ◌==◌, Bool, ◌&&◌, if◌then◌else◌, List, [], ◌∷◌, length, unsigned_abs, Option, Some, None, Result, Ok, Err}
use Rattle.std.specs.List.{list_all}
use Rattle.vs_bytes.specs.Outcome.{◌>>=◌}
use Rattle.vs_bytes.specs.declared.rule.Rule.{Rule}
use Rattle.vs_bytes.specs.declared.rule.Rule.TheVariants.{FooterField, RowCount}
use Rattle.thrift_compact.specs.Numbers.{mapped}
use Rattle.thrift_compact.specs.Trees.{struct_at, known_at}
use Rattle.schema_elements.specs.SchemaTrees.{are_trees, leaf_count, has_length}
use Rattle.footer_structs.specs.Footers.{file_shapes, file_of}
use Rattle.footer_structs.specs.declared.row_groups.GroupMeta.{GroupMeta}
use Rattle.footer_structs.specs.declared.file_metadata.FileMeta.{FileMeta}

-- a row group has a chunk for each leaf
abbrev pub has_chunks : ℕ → GroupMeta → Bool
has_chunks leaves g = length g.columns == leaves

-- The fields go together: the schema is one tree, each leaf of FIXED_LEN_BYTE_ARRAY tells how long its values are, and
-- each row group has as many chunks as the schema has leaves.
unfoldable pub fields_fit : FileMeta → Bool
fields_fit m = are_trees 1 m.schema && list_all has_length m.schema && list_all (has_chunks (leaf_count m.schema)) m.row_groups

unfoldable pub total_rows : List GroupMeta → ℕ
total_rows [] = 0
total_rows (g ∷ gs) = unsigned_abs g.num_rows + total_rows gs

-- the file has the rows of its groups
unfoldable pub rows_fit : FileMeta → Bool
rows_fit m = total_rows m.row_groups == unsigned_abs m.num_rows

abbrev pub judged : Option FileMeta → Result FileMeta Rule
judged None = Err FooterField
judged (Some m) = if fields_fit m then (if rows_fit m then Ok m else Err RowCount) else Err FooterField

-- the metadata that bytes begin with. What follows it is passed over
unfoldable pub footer : List ℕ → Result FileMeta Rule
footer bytes = mapped file_of (struct_at (known_at file_shapes) bytes) >>= λ m. judged m.0
