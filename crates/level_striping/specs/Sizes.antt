-- How many entries a record has in one leaf, and how much they weigh, beside the size of the text that it was made of.
use Rattle.std.specs.Prelude.{ℕ, ◌+◌, ◌*◌, ◌≤◌, List, [], ◌∷◌, length, Option, Some, None}
use Rattle.vs_bytes.specs.declared.leaf_columns.Cell.{Cell}
use Rattle.vs_bytes.specs.declared.leaf_columns.Cell.TheVariants as leaf_cell
use Rattle.vs_bytes.specs.declared.leaf_columns.Entry.{Entry}
use Rattle.shred_schema.specs.Groups.{Group, group, Kind, scalar, object_of, list_of, Groups, field}
use Rattle.shred_schema.specs.Recs.{Rec, rec, RecPart, cell, fields, items, Recs, no_recs, recs, RowRec, absent, present}

-- ---- what an entry weighs at most: 4 for its levels, and the bytes of its value. A number has 16 bytes at most, and
-- 4 bytes stand before other bytes

abbrev pub cell_weight : Cell → ℕ
cell_weight (leaf_cell.Bool b) = 1
cell_weight (leaf_cell.Num z) = 16
cell_weight (leaf_cell.Bytes bytes) = 4 + length bytes

abbrev pub value_weight : Option Cell → ℕ
value_weight None = 0
value_weight (Some c) = cell_weight c

abbrev pub weight_sum : List Entry → ℕ
weight_sum [] = 0
weight_sum (e ∷ es) = 4 + value_weight e.value + weight_sum es

-- entries are as few and as light as a text of `size` bytes allows
pub record AreFew (size : ℕ) (es : List Entry) : Type 0 where
  pub few : length es ≤ size
  pub light : weight_sum es ≤ 20 * size

-- ---- records that a text of `size` bytes gives: bytes of a value are at most 6 times as many, those of a cell no more,
-- and the items of a list share the text

abbrev pub ValueIsWithin : ℕ → Option (List ℕ) → Type 0
ValueIsWithin size None = Unit {0}
ValueIsWithin size (Some bytes) = length bytes ≤ 6 * size

abbrev pub CellIsWithin : ℕ → Cell → Type 0
CellIsWithin size (leaf_cell.Bool b) = Unit {0}
CellIsWithin size (leaf_cell.Num z) = Unit {0}
CellIsWithin size (leaf_cell.Bytes bytes) = length bytes ≤ size

-- a size for each record, of which `size` is the sum or more
abbrev pub ShareSize : (ℕ → Rec → Type 0) → ℕ → Recs → Type 0
ShareSize P size no_recs = Unit {0}
ShareSize P size (recs x xs) = (a : ℕ) × (b : ℕ) × (a + b ≤ size) × P a x × ShareSize P b xs

abbrev mutual
  pub IsWithin : Group → ℕ → Rec → Type 0
  IsWithin (group s t) size (rec v p) = (1 ≤ size) × ValueIsWithin size v × PartIsWithin t size p

  pub PartIsWithin : Kind → ℕ → RecPart → Type 0
  PartIsWithin (scalar q) size (cell c) = CellIsWithin size c
  PartIsWithin (object_of gs) size (fields xs) = FieldsAreWithin gs size xs
  PartIsWithin (list_of n) size (items xs) = ShareSize (IsWithin n) size xs
  PartIsWithin t size p = Unit {0}

  pub FieldsAreWithin : Groups → ℕ → Recs → Type 0
  FieldsAreWithin (field name n gs) size (recs x xs) = IsWithin n size x × FieldsAreWithin gs size xs
  FieldsAreWithin gs size xs = Unit {0}

-- rows: an absent one has no text. The names of a text are its own, so the metadata is no longer than this
abbrev pub RowIsWithin : Group → ℕ → RowRec → Type 0
RowIsWithin n size absent = Unit {0}
RowIsWithin n size (present meta x) = (length meta ≤ 20 * size + 12) × IsWithin n size x

-- rows whose texts, with 1 more for each, have `total` bytes at most
abbrev pub RowsAreWithin : Group → ℕ → List RowRec → Type 0
RowsAreWithin n total [] = Unit {0}
RowsAreWithin n total (row ∷ rows) = (size : ℕ) × (rest : ℕ) × (size + 1 + rest ≤ total) × RowIsWithin n size row × RowsAreWithin n rest rows
