-- An assembler, as contracts see it, and what its calls answer.
use Rattle.std.specs.Prelude.{◌≡◌, ℕ, ◌+◌, ◌==◌, ◌⊎◌, ◌++◌, Bool, true, false, cond, List, [], length, slice_index_or, Option, Some, None, Result, Ok, Err}
use Rattle.vs_bytes.specs.declared.leaf_columns.Entry.{Entry}
use Rattle.vs_bytes.specs.declared.refused.Refused.{Refused}
use Rattle.vs_bytes.specs.declared.refused.Refused.TheVariants.{Fault, NoMemory}
use Rattle.vs_bytes.specs.declared.rule.Rule.{Rule}
use Rattle.vs_bytes.specs.declared.rule.Rule.TheVariants.{LevelMismatch}
use Rattle.shred_schema.specs.Groups.{Group, width}
use Rattle.shred_schema.specs.Projection.{count_read, place, projected}
use Rattle.shred_schema.specs.Ranges.{is_among, reads, each_read, none_read}
use Rattle.shred_schema.specs.Recs.{RowRec}
use Rattle.shred_schema.specs.Shapes.{RowIsOf}
use Rattle.shred_schema.specs.Views.{group_of, row_rec_of}
use Rattle.shred_schema.specs.declared.nodes.Node.{Node}
use Rattle.shred_schema.specs.declared.records.RowRecord.{RowRecord}
use Rattle.level_striping.specs.Entries.{row_entries}
use Rattle.record_assembly.specs.Cuts.{first_item, later_items}
use Rattle.record_assembly.specs.Laws.{Have, LeftOfRow}
use Rattle.record_assembly.specs.Reading.{row_read}
use Rattle.record_assembly.specs.Shown.{row_shown}
use Rattle.column_assembly.specs.Items.{is_whole}

-- What contracts see. The leaves are those that are read, in their order.
pub record Assembly : Type 0 where
  -- whether a row may be absent
  pub optional : Bool
  -- whether leaf 0, the metadata, is read
  pub meta : Bool
  -- the column's node without the leaves that aren't read
  pub node : Node
  -- the place of each leaf of the column among those that are read, if it is one of them
  pub places : List (Option ℕ)
  -- the entries that are left, leaf by leaf
  pub leaves : List (List Entry)
  -- no more entries come
  pub ended : Bool
  -- what is answered from now on, if rows were refused
  pub stop : Option (Refused Rule)

-- the entries at a place
abbrev pub at_place : List (List Entry) → Option ℕ → List Entry
at_place leaves None = []
at_place leaves (Some p) = slice_index_or leaves p []

-- the entries that are left in leaf j of the column: none in a leaf that isn't read
abbrev pub left : Assembly → ℕ → List Entry
left a j = at_place a.leaves (slice_index_or a.places j None)

-- those of the next row
abbrev pub next_entries : Assembly → ℕ → List Entry
next_entries a j = first_item 0 (left a j)

-- the leaf is read, and entries of it can be fed
abbrev pub is_there : Option ℕ → Bool
is_there None = false
is_there (Some p) = true

abbrev pub IsReadLeaf : Assembly → ℕ → Type 0
IsReadLeaf a j = is_there (slice_index_or a.places j None) ≡ true

-- the place of leaf j among those that the mask reads
abbrev pub place_in : List Bool → ℕ → Option ℕ
place_in mask j = cond (reads mask j) (Some (place (reads mask) j)) None

-- the assembler puts together the rows of this column under this mask
pub record IsFor (a : Assembly) (o : Bool) (n : Group) (mask : List Bool) : Type 0 where
  pub optional_is : a.optional ≡ o
  pub meta_is : a.meta ≡ reads mask 0
  pub node_is : group_of a.node ≡ projected n 1 (reads mask)
  pub places_are : (j : ℕ) → is_among j 0 (1 + width n) ≡ true → slice_index_or a.places j None ≡ place_in mask j
  pub count : length a.leaves ≡ count_read (reads mask) 0 (1 + width n)
  pub some : none_read (reads mask) 0 (1 + width n) ≡ false

-- all entries of the next row are there in each leaf that is read
abbrev pub has_row : Assembly → Group → List Bool → Bool
has_row a n mask = each_read (reads mask) 0 (1 + width n) (λ j. is_whole a.ended (left a j))

-- Entries put after those that are left in a leaf.
pub record Fed (a b : Assembly) (leaf : ℕ) (more : List Entry) : Type 0 where
  pub here : left b leaf ≡ left a leaf ++ more
  pub others : (j : ℕ) → (j == leaf) ≡ false → left b j ≡ left a j
  pub ended : b.ended ≡ a.ended
  pub stop : b.stop ≡ a.stop

-- The next row is taken: each leaf that is read goes on after its entries.
pub record Passes (a b : Assembly) (n : Group) (mask : List Bool) : Type 0 where
  pub later : (j : ℕ) → is_among j 0 (1 + width n) ≡ true → reads mask j ≡ true → left b j ≡ later_items 0 (left a j)
  pub ended : b.ended ≡ a.ended
  pub goes : b.stop ≡ None

-- What `next_row` answers.

-- nothing: some leaf that is read has no whole row yet
pub record Waits (a b : Assembly) (n : Group) (mask : List Bool) : Type 0 where
  pub going : a.stop ≡ None
  pub whole : has_row a n mask ≡ false
  pub same : b ≡ a

-- the next row: what the mask leaves of each row record that has its entries, of which there is one
pub record GivesRow (a b : Assembly) (o : Bool) (n : Group) (mask : List Bool) (row : RowRec) : Type 0 where
  pub going : a.stop ≡ None
  pub whole : has_row a n mask ≡ true
  pub read : row_read o n (reads mask) 0 (next_entries a) ≡ Some row
  pub left_of : LeftOfRow o n (reads mask) 0 (next_entries a) row
  pub each : (x : RowRec) → RowIsOf o n x → Have (reads mask) 0 (1 + width n) (next_entries a) (row_entries o n 0 x) → row ≡ row_shown n (reads mask) x
  pub passed : Passes a b n mask

-- no row record has the entries of the next row
pub record NoneHas (a : Assembly) (o : Bool) (n : Group) (mask : List Bool) : Type 0 where
  pub going : a.stop ≡ None
  pub whole : has_row a n mask ≡ true
  pub read : row_read o n (reads mask) 0 (next_entries a) ≡ None
  pub none : (x : RowRec) → RowIsOf o n x → Have (reads mask) 0 (1 + width n) (next_entries a) (row_entries o n 0 x) → ⊥

-- there was no memory for it
pub record LacksMemory (a : Assembly) (n : Group) (mask : List Bool) : Type 0 where
  pub going : a.stop ≡ None
  pub whole : has_row a n mask ≡ true

-- why a refusal came
abbrev pub IsRefused : Assembly → Bool → Group → List Bool → Refused Rule → Type 0
IsRefused a o n mask (Fault rule) = (rule ≡ LevelMismatch) × NoneHas a o n mask
IsRefused a o n mask NoMemory = LacksMemory a n mask

-- a refusal, which is answered again from then on
pub record Refuses (a b : Assembly) (o : Bool) (n : Group) (mask : List Bool) (refusal : Refused Rule) : Type 0 where
  pub stops : b.stop ≡ Some refusal
  pub why : (a.stop ≡ Some refusal) ⊎ IsRefused a o n mask refusal

-- by cases on the answer
abbrev pub Answers : Bool → Group → List Bool → Assembly → Assembly → Result (Option RowRecord) (Refused Rule) → Type 0
Answers o n mask a b (Ok None) = Waits a b n mask
Answers o n mask a b (Ok (Some row)) = GivesRow a b o n mask (row_rec_of row)
Answers o n mask a b (Err refusal) = Refuses a b o n mask refusal
