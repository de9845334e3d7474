-- What is read from entries.
use Rattle.std.specs.Prelude.{◌≡◌, ℕ, ◌+◌, List, map, Bool, true}
use Rattle.std.specs.List.{AllByRecursion}
use Rattle.vs_bytes.specs.declared.leaf_columns.Entry.{Entry}
use Rattle.shred_schema.specs.Groups.{Group, width}
use Rattle.shred_schema.specs.Ranges.{is_among}
use Rattle.shred_schema.specs.Recs.{Rec, RowRec}
use Rattle.shred_schema.specs.Shapes.{IsOf, RowIsOf}
use Rattle.level_striping.specs.Entries.{entries, row_entries, stripes}
use Rattle.record_assembly.specs.Shown.{shown, row_shown}

-- `count` leaves from k on, where the mask reads them, have these entries
abbrev pub Have : (ℕ → Bool) → ℕ → ℕ → (ℕ → List Entry) → (ℕ → List Entry) → Type 0
Have mask k count es given = (j : ℕ) → is_among j k count ≡ true → mask j ≡ true → es j ≡ given j

-- a record of the node has these entries, and `q` is what the mask leaves of it
pub record LeftOfRecord (n : Group) (k : ℕ) (mask : ℕ → Bool) (r m d : ℕ) (es : ℕ → List Entry) (q : Rec) : Type 0 where
  pub one : Rec
  pub of : IsOf n one
  pub have : Have mask k (width n) es (entries n k r m d one)
  pub left : shown n k mask one ≡ q

-- the same of a row
pub record LeftOfRow (optional : Bool) (n : Group) (mask : ℕ → Bool) (r : ℕ) (es : ℕ → List Entry) (q : RowRec) : Type 0 where
  pub one : RowRec
  pub of : RowIsOf optional n one
  pub have : Have mask 0 (1 + width n) es (row_entries optional n r one)
  pub left : row_shown n mask one ≡ q

-- and of all rows of a column
pub record LeftOfRows (optional : Bool) (n : Group) (mask : ℕ → Bool) (es : ℕ → List Entry) (qs : List RowRec) : Type 0 where
  pub rows : List RowRec
  pub of : AllByRecursion (RowIsOf optional n) rows
  pub have : Have mask 0 (1 + width n) es (stripes optional n rows)
  pub left : map (row_shown n mask) rows ≡ qs
