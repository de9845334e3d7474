-- Entries that were put into leaves.
use Rattle.std.specs.Prelude.{◌≡◌, ℕ, List, [], ◌++◌, length, slice_index_or}
use Rattle.vs_bytes.specs.declared.leaf_columns.Entry.{Entry}

-- each leaf has its entries of `more` in addition
pub record Gains (old new : List (List Entry)) (more : ℕ → List Entry) : Type 0 where
  pub leaves : length new ≡ length old
  pub each : (j : ℕ) → slice_index_or new j [] ≡ slice_index_or old j [] ++ more j
