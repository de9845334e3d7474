-- Rows as the writer of a file has them.
use Rattle.std.specs.Prelude.{◌≡◌, ℕ, ◌+◌, ◌^◌, ◌≤◌, Bool, true, List, [], ◌∷◌, length, Option, None, Some}
use Rattle.std.specs.List.{AllByRecursion}
use Rattle.json_tree.specs.Json.{Json}
use Rattle.json_tree.specs.Text.{text_of}
use Rattle.json_tree.specs.Valid.{IsValid}
use Rattle.vs_bytes.specs.declared.leaf_columns.Entry.{Entry}
use Rattle.variant_write.specs.Conditions.{max_text_len}
use Rattle.shred_schema.specs.Groups.{Group}
use Rattle.shred_schema.specs.Recs.{RowRec}
use Rattle.shred_schema.specs.Shapes.{RowIsOf}
use Rattle.level_striping.specs.Sizes.{RowsAreWithin}
use Rattle.striping_laws.specs.Fitting.{RowFitsLeaves}

-- rows of a column that can be written, and whose texts, with 1 more for each, have `total` bytes at most
pub record AreWritten (optional : Bool) (n : Group) (total : ℕ) (rows : List RowRec) : Type 0 where
  pub of : AllByRecursion (RowIsOf optional n) rows
  pub fit : AllByRecursion (RowFitsLeaves n) rows
  pub within : RowsAreWithin n total rows

-- a document can be a row. A row without one is absent, and so stands in an optional column alone
abbrev pub CanBeRow : Bool → Option Json → Type 0
CanBeRow optional None = optional ≡ true
CanBeRow optional (Some j) = IsValid j × (length (text_of j) ≤ max_text_len)

-- the length of a row's text, and the sum over rows, with 1 more for each

abbrev pub text_len : Option Json → ℕ
text_len None = 0
text_len (Some j) = length (text_of j)

abbrev pub texts_len : List (Option Json) → ℕ
texts_len [] = 0
texts_len (row ∷ rows) = (text_len row + 1) + texts_len rows

-- the greatest sum for a row group: one that ends with the row with which the sum reaches 16 MiB, where no text is
-- longer than these
abbrev pub max_texts_len : ℕ
max_texts_len = 2 ^ 25

-- the smallest page that a writer may be asked for
abbrev pub min_page_bytes : ℕ
min_page_bytes = 1024

-- entries of which the first begins a row
abbrev pub BeginWithRow : List Entry → Type 0
BeginWithRow [] = ⊥
BeginWithRow (e ∷ es) = e.rep ≡ 0
