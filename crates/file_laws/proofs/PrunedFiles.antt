-- The lines of a query over a file whose rows are seen to their end: what the leaves that it needs give is the same answer.
use Rattle.std.proofs.Common.{◌≡◌, ◌∙◌, refl, sym, ap, ap₂, subst, ℕ, ◌+◌, Bool, true, false, cond, List, [], ◌∷◌, ◌++◌, Option, None, Some, Result, Ok, Err}
use Rattle.json_tree.specs.Json.{Json}
use Rattle.vs_bytes.specs.Numbers.{part}
use Rattle.vs_bytes.specs.Outcome.{◌>>=◌}
use Rattle.vs_bytes.specs.declared.leaf_columns.Entry.{Entry}
use Rattle.vs_bytes.specs.declared.rule.Rule.{Rule}
use Rattle.vs_bytes.specs.declared.rule.Rule.TheVariants as rule
use Rattle.thrift_structs.specs.ChunkRanges.{chunk_range}
use Rattle.thrift_structs.specs.declared.column_chunks.ChunkMeta.{ChunkMeta}
use Rattle.chunks.specs.Turns.{standing, entries_of}
use Rattle.query_tree.specs.Asked.{Asked}
use Rattle.path_query.specs.Answer.{answer_of}
use Rattle.footer_structs.specs.declared.row_groups.GroupMeta.{GroupMeta}
use Rattle.shred_schema.specs.Groups.{Group, width}
use Rattle.shred_schema.specs.Lawful.{IsWellFormed}
use Rattle.shred_schema.specs.Ranges.{reads, every, is_among}
use Rattle.shred_schema.specs.Views.{group_of}
use Rattle.record_assembly.proofs.Alike.{nodes_have_leaves}
use Rattle.file_columns.specs.declared.columns.FileColumn.{FileColumn}
use Rattle.group_reading.specs.ChunkEntries.{has_rows, with_rows, chunk_entries}
use Rattle.group_reading.specs.GroupRows.{group_seen}
use Rattle.group_reading.specs.declared.group_faults.GroupFault.{GroupFault}
use Rattle.store_read.specs.FileGroups.{values_in, chunk_seen, leaf_at, chunk_at, rows_in, with_chunk, nth_seen, file_group_seen}
use Rattle.reading_laws.specs.FullMasks.{ReadsAll}
use Rattle.reading_laws.proofs.GroupRecords.{group_meant}
use Rattle.reading_laws.proofs.RecordsSeen.{group_records}
use Rattle.chunk_pruning.proofs.Listed.{needed_are_read}
use Rattle.pruning_laws.specs.Kept.{KeepsRows}
use Rattle.pruning_laws.proofs.GroupsKept.{group_kept}
use Rattle.store_file.specs.Beginning.{IsUsable}
use Rattle.store_file.specs.Masks.{needed}
use Rattle.store_file.specs.Places.{in_group}
use Rattle.store_file.specs.SeenGroups.{Seen, all_found, with_group, seen_of}
use Rattle.store_file.specs.FileCalls.{groups_in, rows_of, group_rows, rows_seen, lines_seen}
use Rattle.store_file.specs.declared.file_faults.Violation.{Violation}
use Rattle.store_file.specs.declared.store_file.StoreFile.{StoreFile}
use Rattle.store_file.proofs.RowLines.{answered, answer_on, lines_answer}
use Rattle.store_file.proofs.SeenGroups.{whole}
use Rattle.file_laws.proofs.ValidRows.{reads_all}

-- A chunk that gives entries has the rows of its group.

then_holds : {A B F : Type 0} (P : B → Type 0) (r : Result A F) (f : A → Result B F) (b : B) → ((a : A) → f a ≡ Ok b → P b) → (r >>= f) ≡ Ok b → P b
then_holds P (Ok a) f b holds is = holds a is
then_holds P (Err broken) f b holds is = absurd cc

rows_held : (rows : ℕ) (found entries : List Entry) → with_rows rows found ≡ Ok entries → has_rows rows entries ≡ true
rows_held rows found entries is = by (has_rows rows found) refl is
  where
    by : (b : Bool) → has_rows rows found ≡ b → ◌≡◌ {A = Result (List Entry) Rule} (cond b (Ok found) (Err rule.RowCount)) (Ok entries) → has_rows rows entries ≡ true
    by true holds e = let same : found ≡ entries = cc in subst (λ (es : List Entry). has_rows rows es ≡ true) same holds
    by false fails e = absurd cc

chunk_holds : (end rows j : ℕ) (column : FileColumn) (chunk : ChunkMeta) (file : List ℕ) (entries : List Entry) → chunk_seen end rows (leaf_at column j) chunk file ≡ Ok entries → has_rows rows entries ≡ true
unfolding chunk_seen chunk_entries
chunk_holds end rows j column chunk file entries is =
    then_holds (λ (es : List Entry). has_rows rows es ≡ true) (chunk_range chunk (leaf_at column j) end) (λ range. chunk_entries (leaf_at column j) (values_in chunk.meta_data) rows (part file range.0 range.1)) entries
    (λ range. then_holds (λ (es : List Entry). has_rows rows es ≡ true) (entries_of (standing (leaf_at column j) (Some (values_in chunk.meta_data)) (part file range.0 range.1))) (with_rows rows) entries (λ found. rows_held rows found entries)) is

leaf_holds : (end j : ℕ) (column : FileColumn) (g : GroupMeta) (file : List ℕ) (entries : List Entry) → nth_seen end column g j file ≡ Ok entries → has_rows (rows_in g) entries ≡ true
unfolding nth_seen
leaf_holds end j column g file entries is = by (chunk_at column g j) is
  where
    by : (there : Option ChunkMeta) → with_chunk there (λ chunk. chunk_seen end (rows_in g) (leaf_at column j) chunk file) ≡ Ok entries → has_rows (rows_in g) entries ≡ true
    by None e = absurd cc
    by (Some chunk) e = chunk_holds end (rows_in g) j column chunk file entries e

-- One group.

-- the rows that a mask gives which reads each leaf are those that the full mask gives
seen_by_every : (mask : ℕ → Bool) (optional : Bool) (n : Group) (count : ℕ) (chunk : ℕ → Result (List Entry) Rule) (rows : List (Option Json)) → ReadsAll mask n → IsWellFormed n
    → ((j : ℕ) (entries : List Entry) → is_among j 0 (1 + width n) ≡ true → chunk j ≡ Ok entries → has_rows count entries ≡ true) → group_seen mask optional n count chunk ≡ Ok rows → group_seen every optional n count chunk ≡ Ok rows
seen_by_every mask optional n count chunk rows all well held is =
    let leaves = nodes_have_leaves n well.nodes in
    let r = group_records mask optional n all leaves count chunk rows held is in
    ap (λ (c : ℕ). group_seen every optional n c chunk) (sym r.counted) ∙ (group_meant every optional n r.records (λ j among. refl) leaves r.of chunk r.chunks ∙ r.meant)

module _ (f : StoreFile) (asked : Asked) (file : List ℕ) (usable : IsUsable f) where
  keeps : (g : GroupMeta) (rows : List (Option Json)) → rows_of f f.mask file g ≡ Ok rows → KeepsRows asked (rows_of f (needed f asked) file g) rows
  unfolding file_group_seen
  keeps g rows is =
      let n = group_of f.column.column.node in
      let chunk : ℕ → Result (List Entry) Rule = λ j. nth_seen f.opened.end f.column g j file in
      let held : (j : ℕ) (entries : List Entry) → is_among j 0 (1 + width n) ≡ true → chunk j ≡ Ok entries → has_rows (rows_in g) entries ≡ true = λ j entries among. leaf_holds f.opened.end j f.column g file entries in
      group_kept asked (reads (needed f asked)) n (needed_are_read asked n) usable.can.well f.column.column.optional (rows_in g) chunk rows held
      (seen_by_every (reads f.mask) f.column.column.optional n (rows_in g) chunk rows (reads_all f usable) usable.can.well held is)

  -- All groups.

  -- all rows are seen, and the query prints of them what it prints of these
  record Kept (seen : Seen (Option Json)) (rows : List (Option Json)) : Type 0 where
    shown : List (Option Json)
    are : seen ≡ all_found shown
    text : answer_of asked shown ≡ answer_of asked rows

  one_more : (k : ℕ) (r s : Result (List (Option Json)) GroupFault) (all part : Seen (Option Json)) (rows : List (Option Json)) → ((xs : List (Option Json)) → r ≡ Ok xs → KeepsRows asked s xs)
      → (all ≡ all_found all.found → Kept part all.found) → with_group (in_group k r) all ≡ all_found rows → Kept (with_group (in_group k s) part) rows
  one_more k (Ok xs) s all part rows first later is =
      let here = first xs refl in
      let rest = later (whole all (ap (λ (w : Seen (Option Json)). w.stop) is)) in
      let joined : xs ++ all.found ≡ rows = ap (λ (w : Seen (Option Json)). w.found) is in
      record {
        shown = here.shown ++ rest.shown;
        are = λ i. with_group (in_group k (here.are_shown i)) (rest.are i);
        text =
            answer_on asked here.shown rest.shown
            ∙ (ap₂ (λ (s t : List ℕ). s ++ t) here.text rest.text ∙ (sym (answer_on asked xs all.found) ∙ ap (answer_of asked) joined));
      }
  one_more k (Err fault) s all part rows first later is = absurd (stopped is)
    where
      stopped : {v : Violation} → ◌≡◌ {A = Seen (Option Json)} (record { found = []; stop = Some v }) (all_found rows) → ⊥
      stopped {v = v} e = let both : ◌≡◌ {A = Option Violation} (Some v) None = ap (λ (w : Seen (Option Json)). w.stop) e in cc

  groups_kept : (k : ℕ) (gs : List GroupMeta) (rows : List (Option Json)) → seen_of (group_rows f f.mask file) k gs ≡ all_found rows → Kept (seen_of (group_rows f (needed f asked) file) k gs) rows
  unfolding seen_of
  groups_kept k [] rows is = record { shown = []; are = refl; text = ap (λ (w : Seen (Option Json)). answer_of asked w.found) is }
  groups_kept k (g ∷ gs) rows is =
      one_more k (rows_of f f.mask file g) (rows_of f (needed f asked) file g) (seen_of (group_rows f f.mask file) (k + 1) gs) (seen_of (group_rows f (needed f asked) file) (k + 1) gs) rows
      (keeps g) (groups_kept (k + 1) gs (seen_of (group_rows f f.mask file) (k + 1) gs).found) is

  pub lines_kept : (rows : List (Option Json)) → rows_seen f file ≡ all_found rows → lines_seen f asked file ≡ all_found (answer_of asked rows)
  lines_kept rows is =
      let kept = groups_kept 0 (groups_in f) rows is in
      lines_answer f asked file ∙ (ap (answered asked) kept.are ∙ ap (λ (text : List ℕ). all_found text) kept.text)
