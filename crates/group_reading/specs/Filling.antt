-- The leaves of a group that is read: the entries of each are fed to the assembler in pieces, as rows ask for them.
use Rattle.std.specs.Prelude.{◌≡◌, ℕ, ◌+◌, ◌==◌, ◌++◌, Bool, true, false, List, [], length, slice_index_or, None, Result, Ok, Err}
use Rattle.vs_bytes.specs.declared.leaf_columns.Entry.{Entry}
use Rattle.vs_bytes.specs.declared.refused.Refused.{Refused}
use Rattle.vs_bytes.specs.declared.refused.Refused.TheVariants.{Fault, NoMemory}
use Rattle.vs_bytes.specs.declared.rule.Rule.{Rule}
use Rattle.shred_schema.specs.Groups.{Group, width}
use Rattle.shred_schema.specs.Ranges.{is_among, reads}
use Rattle.shred_schema.specs.Recs.{RowRec}
use Rattle.shred_schema.specs.Shapes.{RowHasShape}
use Rattle.shred_schema.specs.Views.{row_rec_of}
use Rattle.shred_schema.specs.declared.records.RowRecord.{RowRecord}
use Rattle.record_assembly.specs.Cuts.{later_items}
use Rattle.row_assembler.specs.Assembly.{Assembly, IsFor, left}
use Rattle.group_reading.specs.GroupRows.{next_record}

-- the entries of leaf j that are still to come: those that the assembler has, and those of the chunk after them
abbrev pub joined : Assembly → List (List Entry) → ℕ → List Entry
joined a chunks j = left a j ++ slice_index_or chunks j []

-- An assembler of the column's rows, and the chunks of its leaves. It was told that no more entries come only where
-- none of a leaf that is read are left.
pub record Held (optional : Bool) (n : Group) (mask : List Bool) (a : Assembly) (chunks : List (List Entry)) : Type 0 where
  pub column : IsFor a optional n mask
  pub told : length mask ≡ 1 + width n
  pub count : length chunks ≡ 1 + width n
  pub goes : a.stop ≡ None
  pub spent : a.ended ≡ true → (j : ℕ) → is_among j 0 (1 + width n) ≡ true → reads mask j ≡ true → slice_index_or chunks j [] ≡ []

-- The next entries of a leaf's chunk were taken.
pub record TakenFrom (chunks later : List (List Entry)) (leaf : ℕ) (piece : List Entry) : Type 0 where
  pub count : length later ≡ length chunks
  pub here : slice_index_or chunks leaf [] ≡ piece ++ slice_index_or later leaf []
  pub others : (j : ℕ) → (j == leaf) ≡ false → slice_index_or later j [] ≡ slice_index_or chunks j []
  pub some : length piece ≡ 0 → slice_index_or later leaf [] ≡ []

-- Entries went from chunks to the assembler.
pub record Filled (a : Assembly) (chunks : List (List Entry)) (b : Assembly) (later : List (List Entry)) : Type 0 where
  pub same : (j : ℕ) → joined b later j ≡ joined a chunks j
  pub count : length later ≡ length chunks
  pub ended : b.ended ≡ a.ended
  pub stop : b.stop ≡ a.stop
  pub spent : (j : ℕ) → slice_index_or chunks j [] ≡ [] → slice_index_or later j [] ≡ []

-- What comes of the next row, where `es` are the entries that were still to come.

-- its record, and the entries after it
pub record Taken (optional : Bool) (n : Group) (mask : List Bool) (es : ℕ → List Entry) (b : Assembly) (later : List (List Entry)) (row : RowRec) : Type 0 where
  pub shape : RowHasShape n row
  pub found : next_record (reads mask) optional n es ≡ Ok row
  pub held : Held optional n mask b later
  pub after : (j : ℕ) → is_among j 0 (1 + width n) ≡ true → reads mask j ≡ true → joined b later j ≡ later_items 0 (es j)

-- the rule that it violates. Out of memory says nothing
abbrev pub TakesNone : Bool → Group → List Bool → (ℕ → List Entry) → Refused Rule → Type 0
TakesNone optional n mask es (Fault broken) = next_record (reads mask) optional n es ≡ Err broken
TakesNone optional n mask es NoMemory = Unit {0}

abbrev pub Takes : Bool → Group → List Bool → (ℕ → List Entry) → Assembly → List (List Entry) → Result RowRecord (Refused Rule) → Type 0
Takes optional n mask es b later (Ok row) = Taken optional n mask es b later (row_rec_of row)
Takes optional n mask es b later (Err refusal) = TakesNone optional n mask es refusal
