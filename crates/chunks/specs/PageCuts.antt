-- How the entries of a column chunk are cut into pages, and the chunk that is written. The format leaves the size of a
-- page to the writer (README.md of parquet-format, "Data page size"). An entry of repetition level 0 begins a row.
use Rattle.std.specs.Prelude.{ℕ, suc, ◌+◌, ◌==◌, nat_le, Bool, true, ◌&&◌, if◌then◌else◌, List, [], ◌∷◌, ◌++◌}
use Rattle.std.specs.List.{flat_map}
use Rattle.vs_bytes.specs.declared.leaf_columns.Entry.{Entry}
use Rattle.vs_bytes.specs.declared.leaf_columns.Leaf.{Leaf}
use Rattle.vs_bytes.specs.declared.leaf_columns.Phys.{Phys}
use Rattle.pages.specs.Written.{page_written, weight, weights}

-- a page ends after the row with which its weight reaches `page_bytes`, or at the chunk's end
abbrev pub ends : Phys → ℕ → List Entry → List Entry → Bool
ends type page_bytes page [] = true
ends type page_bytes page (next ∷ later) = next.rep == 0 && nat_le page_bytes (weights type page)

-- the pages of entries, the first of which has the entries of `page` already
unfoldable pub pages_from : Phys → ℕ → List Entry → List Entry → List (List Entry)
pages_from type page_bytes page [] = []
pages_from type page_bytes page (e ∷ es) =
    if ends type page_bytes (page ++ e ∷ []) es then (page ++ e ∷ []) ∷ pages_from type page_bytes [] es
    else pages_from type page_bytes (page ++ e ∷ []) es

-- the pages of a chunk's entries
abbrev pub pages_of : Phys → ℕ → List Entry → List (List Entry)
pages_of type page_bytes entries = pages_from type page_bytes [] entries

-- the chunk: its pages one after the other
unfoldable pub chunk_written : Leaf → ℕ → List Entry → List ℕ
chunk_written leaf page_bytes entries = flat_map (page_written leaf) (pages_of leaf.phys page_bytes entries)

-- How many entries the first page has, with the weight alone.

-- whether an entry stands after the end of a page that weighs so much
abbrev pub begins_page : ℕ → ℕ → Entry → Bool
begins_page page_bytes held e = e.rep == 0 && nat_le page_bytes held

-- of the entries after those of a page that weighs so much
unfoldable pub later_len : Phys → ℕ → ℕ → List Entry → ℕ
later_len type page_bytes held [] = 0
later_len type page_bytes held (e ∷ es) =
    if begins_page page_bytes held e then 0
    else suc (later_len type page_bytes (held + weight type e) es)

unfoldable pub page_len : Phys → ℕ → List Entry → ℕ
page_len type page_bytes [] = 0
page_len type page_bytes (e ∷ es) = suc (later_len type page_bytes (weight type e) es)
