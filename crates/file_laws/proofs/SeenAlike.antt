-- What is seen of a file that was begun goes by its opening and the view of its column.
use Rattle.std.proofs.Common.{◌≡◌, ◌∙◌, refl, sym, ap, ap₂, ℕ, zero, suc, ◌+◌, Bool, true, cond, List, [], ◌++◌, length, replicate, Option, Result}
use Rattle.std.specs.Prelude.{slice_get, slice_index, slice_index_or}
use Rattle.std.specs.List.{flat_map}
use Rattle.json_tree.specs.Json.{Json}
use Rattle.shelf.specs.declared.byte_range.ByteRange.{ByteRange}
use Rattle.footer_structs.specs.declared.row_groups.GroupMeta.{GroupMeta}
use Rattle.shred_schema.specs.Ranges.{reads}
use Rattle.file_columns.specs.Columns.{ColumnView}
use Rattle.file_columns.specs.Views.{shown}
use Rattle.file_columns.specs.declared.columns.FileColumn.{FileColumn}
use Rattle.group_reading.specs.GroupRows.{group_seen}
use Rattle.group_reading.specs.declared.group_faults.GroupFault.{GroupFault}
use Rattle.query_tree.specs.Asked.{Asked}
use Rattle.chunk_pruning.specs.Needs.{needs}
use Rattle.store_read.specs.FileGroups.{no_leaf, rows_in, with_chunk, chunk_seen, nth_seen, file_group_seen, plan_in, chunk_plan, nth_plan, leaf_plan, leaves_plan}
use Rattle.store_file.specs.Places.{in_group}
use Rattle.store_file.specs.SeenGroups.{Seen, seen_of}
use Rattle.store_file.specs.FileCalls.{groups_in, rows_of, plan_of, query_plan, check_plan, rows_under, rows_seen, lines_seen}
use Rattle.store_file.specs.declared.store_file.StoreFile.{StoreFile}
use Rattle.store_file.proofs.RowLines.{answered, lines_answer}
use Rattle.file_laws.specs.Begun.{IsBegunFrom}
use Rattle.file_laws.proofs.Starts.{Start, one_start}

-- The rows under a mask.

group_by : List Bool → ColumnView → ℕ → List ℕ → GroupMeta → Result (List (Option Json)) GroupFault
group_by mask v end file g = group_seen (reads mask) v.optional v.node (rows_in g) (λ j. with_chunk (slice_get g.columns (slice_index v.places j)) (λ chunk. chunk_seen end (rows_in g) (slice_index_or v.leaves j no_leaf) chunk file))

group_same : (f : StoreFile) (mask : List Bool) (file : List ℕ) (g : GroupMeta) → rows_of f mask file g ≡ group_by mask (shown f.column) f.opened.end file g
unfolding file_group_seen nth_seen group_by
group_same f mask file g = refl

rows_by : List Bool → List ℕ → Start → Seen (Option Json)
rows_by mask file s = seen_of (λ k g. in_group k (group_by mask s.1 s.0.end file g)) 0 s.0.meta.row_groups

rows_are : (f : StoreFile) (mask : List Bool) (file : List ℕ) → rows_under f mask file ≡ rows_by mask file (f.opened, shown f.column)
unfolding rows_by
rows_are f mask file = λ i. seen_of (λ k g. in_group k (group_same f mask file g i)) 0 (groups_in f)

-- What is asked for under a mask.

leaves_by : (ℕ → Bool) → List ℕ → ColumnView → ℕ → GroupMeta → ℕ → ℕ → List ByteRange
leaves_by mask name v end g j zero = []
leaves_by mask name v end g j (suc count) = cond (mask j) (plan_in (slice_get g.columns (slice_index v.places j)) (chunk_plan name end (slice_index_or v.leaves j no_leaf))) [] ++ leaves_by mask name v end g (j + 1) count

leaves_same : (mask : ℕ → Bool) (name : List ℕ) (column : FileColumn) (end : ℕ) (g : GroupMeta) (j count : ℕ) → leaves_plan mask name end column g j count ≡ leaves_by mask name (shown column) end g j count
unfolding leaves_plan nth_plan leaves_by
leaves_same mask name column end g j zero = refl
leaves_same mask name column end g j (suc count) = ap (λ (rest : List ByteRange). leaf_plan mask name end column g j ++ rest) (leaves_same mask name column end g (j + 1) count)

plan_by : List Bool → List ℕ → Start → List ByteRange
plan_by mask name s = flat_map (λ g. leaves_by (reads mask) name s.1 s.0.end g 0 (length mask)) s.0.meta.row_groups

plan_is : (f : StoreFile) (mask : List Bool) → plan_of f mask (groups_in f) ≡ plan_by mask f.name (f.opened, shown f.column)
unfolding plan_by
plan_is f mask = λ i. flat_map (λ g. leaves_same (reads mask) f.name f.column f.opened.end g 0 (length mask) i) (groups_in f)

-- Files that were begun from the same bytes.

-- the mask that reads each leaf
abbrev all_leaves : ColumnView → List Bool
all_leaves v = replicate (length v.leaves) true

-- the leaves that a query needs
abbrev asked_leaves : Asked → ColumnView → List Bool
asked_leaves asked v = needs asked v.node

module _ (column bytes : List ℕ) (f g : StoreFile) (b : IsBegunFrom column bytes f) (c : IsBegunFrom column bytes g) where
  same_start : ◌≡◌ {A = Start} (f.opened, shown f.column) (g.opened, shown g.column)
  same_start = one_start column bytes (f.opened, shown f.column) g c b.is_of

  -- where the view of the column says which leaves are read

  rows_alike : (mask : ColumnView → List Bool) → rows_under f (mask (shown f.column)) bytes ≡ rows_under g (mask (shown g.column)) bytes
  rows_alike mask =
      rows_are f (mask (shown f.column)) bytes
      ∙ (ap (λ (s : Start). rows_by (mask s.1) bytes s) same_start ∙ sym (rows_are g (mask (shown g.column)) bytes))

  plans_alike : (mask : ColumnView → List Bool) → f.name ≡ g.name → plan_of f (mask (shown f.column)) (groups_in f) ≡ plan_of g (mask (shown g.column)) (groups_in g)
  plans_alike mask named =
      plan_is f (mask (shown f.column))
      ∙ (ap₂ (λ (name : List ℕ) (s : Start). plan_by (mask s.1) name s) named same_start ∙ sym (plan_is g (mask (shown g.column))))

  pub same_groups : groups_in f ≡ groups_in g
  same_groups = ap (λ (s : Start). s.0.meta.row_groups) same_start

  pub same_rows : rows_seen f bytes ≡ rows_seen g bytes
  same_rows =
      ap (λ (mask : List Bool). rows_under f mask bytes) b.usable.reads
      ∙ (rows_alike all_leaves ∙ sym (ap (λ (mask : List Bool). rows_under g mask bytes) c.usable.reads))

  pub same_check : f.name ≡ g.name → check_plan f ≡ check_plan g
  same_check named =
      ap (λ (mask : List Bool). plan_of f mask (groups_in f)) b.usable.reads
      ∙ (plans_alike all_leaves named ∙ sym (ap (λ (mask : List Bool). plan_of g mask (groups_in g)) c.usable.reads))

  pub same_lines : (asked : Asked) → lines_seen f asked bytes ≡ lines_seen g asked bytes
  same_lines asked = lines_answer f asked bytes ∙ (ap (answered asked) (rows_alike (asked_leaves asked)) ∙ sym (lines_answer g asked bytes))

  pub same_query : (asked : Asked) → f.name ≡ g.name → query_plan f asked ≡ query_plan g asked
  same_query asked named = plans_alike (asked_leaves asked) named
