-- Pages in order, whose entries are given in pieces.
use Rattle.std.specs.Prelude.{◌≡◌, ℕ, ◌≤◌, ◌<◌, List, [], length, drop, slice_index_or}
use Rattle.std.specs.List.{flat_map}
use Rattle.vs_bytes.specs.declared.leaf_columns.Entry.{Entry}

-- the entries of pages
abbrev pub all_of : List (List Entry) → List Entry
all_of pages = flat_map (λ page. page) pages

-- `at` is the first page from `from` on of which an entry is left, or the end
pub record IsFirstLeft (pages : List (List Entry)) (from at : ℕ) : Type 0 where
  pub within : at ≤ length pages
  pub same : all_of (drop at pages) ≡ all_of (drop from pages)
  pub some : at < length pages → slice_index_or pages at [] ≡ [] → ⊥
