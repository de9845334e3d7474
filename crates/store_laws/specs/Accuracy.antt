-- Statistics that are accurate (parquet.thrift, Statistics).
use Rattle.std.specs.Prelude.{◌≡◌, ℕ, ◌+◌, ◌<◌, Bool, false, List, IfSome, Ok, slice_index_or}
use Rattle.vs_bytes.specs.declared.leaf_columns.Entry.{Entry}
use Rattle.footer_structs.specs.declared.row_groups.GroupMeta.{GroupMeta}
use Rattle.group_stats.specs.Accurate.{AreAccurate}
use Rattle.shred_schema.specs.Groups.{Group, width}
use Rattle.file_columns.specs.declared.columns.FileColumn.{FileColumn}
use Rattle.store_read.specs.FileGroups.{leaf_at, chunk_at, nth_seen}

-- whether the file tells of leaf j that its bounds are in the order of its type
abbrev pub is_ordered_at : FileColumn → ℕ → Bool
is_ordered_at column j = slice_index_or column.ordered j false

-- those of the chunk of leaf j, where the chunk has entries
abbrev pub IsAccurateChunk : ℕ → FileColumn → GroupMeta → ℕ → List ℕ → Type 0
IsAccurateChunk end column group j file =
    IfSome (chunk_at column group j) (λ chunk. IfSome chunk.meta_data (λ meta. IfSome meta.statistics (λ stats.
    (es : List Entry) → nth_seen end column group j file ≡ Ok es → AreAccurate (leaf_at column j) (is_ordered_at column j) es stats)))

-- those of each chunk of a group
abbrev pub IsAccurateGroup : Group → ℕ → FileColumn → List ℕ → GroupMeta → Type 0
IsAccurateGroup n end column file group = (j : ℕ) → j < 1 + width n → IsAccurateChunk end column group j file
