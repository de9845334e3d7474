-- What is always so of an assembler, and what `next_row` answers in terms of the projected column.
use Rattle.std.specs.Prelude.{◌≡◌, ℕ, ◌+◌, ◌<◌, ◌≤◌, ◌⊎◌, Bool, true, false, List, length, slice_index_or, Option, Some, None, Result, Ok, Err}
use Rattle.std.specs.List.{list_all}
use Rattle.vs_bytes.specs.declared.leaf_columns.Entry.{Entry}
use Rattle.vs_bytes.specs.declared.refused.Refused.{Refused}
use Rattle.vs_bytes.specs.declared.refused.Refused.TheVariants.{Fault, NoMemory}
use Rattle.vs_bytes.specs.declared.rule.Rule.{Rule}
use Rattle.vs_bytes.specs.declared.rule.Rule.TheVariants.{LevelMismatch}
use Rattle.shred_schema.specs.Groups.{width, height}
use Rattle.shred_schema.specs.Lawful.{HasLeaves, max_leaves, max_nesting}
use Rattle.shred_schema.specs.Recs.{RowRec}
use Rattle.shred_schema.specs.Views.{group_of, row_rec_of}
use Rattle.shred_schema.specs.declared.nodes.Node.{Node}
use Rattle.shred_schema.specs.declared.records.RowRecord.{RowRecord}
use Rattle.column_assembly.specs.Items.{is_whole}
use Rattle.column_assembly.specs.Leaves.{heads, Passed}
use Rattle.row_assembler.specs.Assembly.{Assembly}
use Rattle.row_assembler.specs.ProjectedRows.{meta_width, row_kept}

pub record IsSound (meta : Bool) (node : Node) (places : List (Option ℕ)) (leaves : List (List Entry)) : Type 0 where
  -- some leaf is read
  pub some : 1 ≤ length leaves
  pub has_leaves : HasLeaves (group_of node)
  pub all : length leaves ≡ meta_width meta + width (group_of node)
  pub short : length leaves ≤ max_leaves
  pub deep : height (group_of node) ≤ max_nesting + 1
  -- no two leaves have the same place
  pub inside : (j p : ℕ) → slice_index_or places j None ≡ Some p → p < length leaves
  pub apart : (i j p : ℕ) → slice_index_or places i None ≡ Some p → slice_index_or places j None ≡ Some p → i ≡ j

-- each leaf has a whole row
abbrev pub all_whole : Assembly → Bool
all_whole a = list_all (is_whole a.ended) a.leaves

-- the next row
abbrev pub row_next : Assembly → Option RowRec
row_next a = row_kept a.meta a.optional (group_of a.node) (heads 0 a.leaves)

pub record KeptWaits (a b : Assembly) : Type 0 where
  pub going : a.stop ≡ None
  pub whole : all_whole a ≡ false
  pub same : b ≡ a

pub record KeptRow (a b : Assembly) (row : RowRec) : Type 0 where
  pub going : a.stop ≡ None
  pub whole : all_whole a ≡ true
  pub read : row_next a ≡ Some row
  pub passed : Passed a.leaves b.leaves 0 (length a.leaves) 0
  pub rest : b ≡ record a { leaves = b.leaves }

pub record KeptNone (a : Assembly) : Type 0 where
  pub going : a.stop ≡ None
  pub whole : all_whole a ≡ true
  pub read : row_next a ≡ None

pub record KeptNoMemory (a : Assembly) : Type 0 where
  pub going : a.stop ≡ None
  pub whole : all_whole a ≡ true

abbrev pub IsKeptRefused : Assembly → Refused Rule → Type 0
IsKeptRefused a (Fault rule) = (rule ≡ LevelMismatch) × KeptNone a
IsKeptRefused a NoMemory = KeptNoMemory a

pub record KeptRefusal (a b : Assembly) (refusal : Refused Rule) : Type 0 where
  pub stops : b.stop ≡ Some refusal
  pub why : (a.stop ≡ Some refusal) ⊎ IsKeptRefused a refusal
  pub count : length b.leaves ≡ length a.leaves
  pub rest : b ≡ record a { leaves = b.leaves; stop = b.stop }

abbrev pub NextKept : Assembly → Assembly → Result (Option RowRecord) (Refused Rule) → Type 0
NextKept a b (Ok None) = KeptWaits a b
NextKept a b (Ok (Some row)) = KeptRow a b (row_rec_of row)
NextKept a b (Err refusal) = KeptRefusal a b refusal
