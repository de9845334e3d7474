-- What the writer of a chunk asks of its entries.
use Rattle.std.specs.Prelude.{ℕ, ◌^◌, ◌<◌, ◌≤◌, List, length}
use Rattle.std.specs.List.{All}
use Rattle.vs_bytes.specs.declared.leaf_columns.Entry.{Entry}
use Rattle.vs_bytes.specs.declared.leaf_columns.Leaf.{Leaf}
use Rattle.pages.specs.Entries.{IsEntry}
use Rattle.pages.specs.Written.{weights}
use Rattle.chunks.specs.PageCuts.{chunk_written}

-- entries are of the leaf column, don't weigh too much, and take fewer bytes than a chunk that is read may have
pub record FitsChunk (leaf : Leaf) (page_bytes : ℕ) (entries : List Entry) : Type 0 where
  pub of : All (IsEntry leaf) entries
  pub light : weights leaf.phys entries ≤ 1000000000
  pub short : length (chunk_written leaf page_bytes entries) < 2 ^ 30
