-- The entries of a record in each leaf (the parquet-format README, "Nested Encoding"). A group's leaves are numbered
-- from its first leaf k on, and j is the leaf that is asked for. Each part gives entries to its own leaves alone, so
-- the entries of a record in leaf j are the sum over all its parts.
use Rattle.std.specs.Prelude.{ℕ, ◌+◌, ◌==◌, List, [], ◌∷◌, ◌++◌, Bool, cond, Option, Some, None}
use Rattle.std.specs.List.{flat_map}
use Rattle.vs_bytes.specs.declared.leaf_columns.Cell.{Cell}
use Rattle.vs_bytes.specs.declared.leaf_columns.Cell.TheVariants as leaf_cell
use Rattle.vs_bytes.specs.declared.leaf_columns.Entry.{Entry}
use Rattle.shred_schema.specs.declared.nodes.Slot.{Slot}
use Rattle.shred_schema.specs.declared.nodes.Slot.TheVariants.{Absent, Required, Optional}
use Rattle.shred_schema.specs.Groups.{Group, group, Kind, free, scalar, object_of, list_of, Groups, field, slot_width, width, groups_width}
use Rattle.shred_schema.specs.Ranges.{is_among}
use Rattle.shred_schema.specs.Recs.{Rec, rec, RecPart, empty, cell, fields, items, Recs, recs, recs_in, RowRec, absent, present}

-- entries of some leaves, and none of any other leaf
abbrev pub in_leaf : Bool → List Entry → List Entry
in_leaf here es = cond here es []

-- an entry without value, at repetition level r and the definition level d that was reached
abbrev pub null_at : ℕ → ℕ → List Entry
null_at r d = record { rep = r; def = d; value = None } ∷ []

-- an entry with a value
abbrev pub cell_at : ℕ → ℕ → Cell → List Entry
cell_at r d c = record { rep = r; def = d; value = Some c } ∷ []

-- a value: one that is optional adds 1 to the definition level where it is there
abbrev pub value_entries : Slot → ℕ → ℕ → Option (List ℕ) → List Entry
value_entries Absent r d v = []
value_entries Required r d None = null_at r d
value_entries Required r d (Some bytes) = cell_at r d (leaf_cell.Bytes bytes)
value_entries Optional r d None = null_at r d
value_entries Optional r d (Some bytes) = cell_at r (d + 1) (leaf_cell.Bytes bytes)

-- a cell, which is optional
abbrev pub cell_entries : ℕ → ℕ → RecPart → List Entry
cell_entries r d (cell c) = cell_at r (d + 1) c
cell_entries r d empty = null_at r d
cell_entries r d (fields xs) = null_at r d
cell_entries r d (items xs) = null_at r d

-- the items of a list: `none` where there are none, else what the first gives and then what each later one gives
abbrev pub item_entries : {A : Type 0} → List Entry → (A → List Entry) → (A → List Entry) → List A → List Entry
item_entries none first later [] = none
item_entries none first later (x ∷ xs) = first x ++ flat_map later xs

-- What stands in a node gives, where its first entry has repetition level r, m lists stand round the node and the
-- definition level d is reached.
abbrev mutual
  pub entries : Group → ℕ → ℕ → ℕ → ℕ → Rec → ℕ → List Entry
  entries (group s t) k r m d (rec v p) j = in_leaf (j == k) (value_entries s r d v) ++ part_entries t (k + slot_width s) r m d p j

  -- a typed part adds 1 to the definition level where it is there. A list adds 1 more for each item, and its items
  -- after the first begin with the repetition level of the list
  pub part_entries : Kind → ℕ → ℕ → ℕ → ℕ → RecPart → ℕ → List Entry
  part_entries free k r m d p j = []
  part_entries (scalar q) k r m d p j = in_leaf (j == k) (cell_entries r d p)
  part_entries (object_of gs) k r m d (fields xs) j = fields_entries gs k r m (d + 1) xs j
  part_entries (object_of gs) k r m d p j = in_leaf (is_among j k (groups_width gs)) (null_at r d)
  part_entries (list_of n) k r m d (items xs) j = item_entries (in_leaf (is_among j k (width n)) (null_at r (d + 1))) (λ x. entries n k r (m + 1) (d + 2) x j) (λ x. entries n k (m + 1) (m + 1) (d + 2) x j) (recs_in xs)
  part_entries (list_of n) k r m d p j = in_leaf (is_among j k (width n)) (null_at r d)

  pub fields_entries : Groups → ℕ → ℕ → ℕ → ℕ → Recs → ℕ → List Entry
  fields_entries (field name n gs) k r m d (recs x xs) j = entries n k r m d x j ++ fields_entries gs (k + width n) r m d xs j
  fields_entries _ k r m d _ j = []

-- the definition level at which the top node begins
abbrev pub top_level : Bool → ℕ
top_level optional = cond optional 1 0

-- A row of a column, whose leaf 0 is the metadata and whose node begins at leaf 1.
abbrev pub row_entries : Bool → Group → ℕ → RowRec → ℕ → List Entry
row_entries optional n r absent j = in_leaf (is_among j 0 (1 + width n)) (null_at r 0)
row_entries optional n r (present meta x) j = in_leaf (j == 0) (cell_at r (top_level optional) (leaf_cell.Bytes meta)) ++ entries n 1 r 0 (top_level optional) x j

-- the entries of all rows in leaf j: each row begins with repetition level 0
abbrev pub stripes : Bool → Group → List RowRec → ℕ → List Entry
stripes optional n rows j = flat_map (λ row. row_entries optional n 0 row j) rows
