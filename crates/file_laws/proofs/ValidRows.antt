-- The rows of a valid file, as calls on files see them.
use Rattle.std.proofs.Common.{◌≡◌, refl, sym, ap, subst, ℕ, ◌+◌, ◌<◌, Bool, true, false, List, [], ◌∷◌, ◌++◌, length, replicate, Option, Some, Result, Ok, Err, arith}
use Rattle.std.proofs.lemmas.List.{get_or-replicate}
use Rattle.json_tree.specs.Json.{Json}
use Rattle.vs_bytes.specs.Outcome.{◌>>=◌}
use Rattle.footer_structs.specs.declared.row_groups.GroupMeta.{GroupMeta}
use Rattle.shred_schema.specs.Groups.{Group, width}
use Rattle.shred_schema.specs.Ranges.{reads}
use Rattle.shred_schema.proofs.LeafRanges.{among_high}
use Rattle.file_columns.specs.Views.{shown}
use Rattle.file_columns.specs.declared.columns.FileColumn.{FileColumn}
use Rattle.group_reading.specs.declared.group_faults.GroupFault.{GroupFault}
use Rattle.store_read.specs.FileGroups.{file_group_seen}
use Rattle.reading_laws.specs.FullMasks.{ReadsAll}
use Rattle.store_laws.specs.FileRows as whole
use Rattle.store_laws.specs.FileRows.{FileFault, rows_in}
use Rattle.store_laws.specs.ValidFiles.{IsValid}
use Rattle.store_file.specs.Beginning.{IsUsable}
use Rattle.store_file.specs.Places.{violation_in, in_group}
use Rattle.store_file.specs.SeenGroups.{Seen, all_found, with_group, seen_of}
use Rattle.store_file.specs.FileCalls.{groups_in, rows_seen}
use Rattle.store_file.specs.declared.store_file.StoreFile.{StoreFile}
use Rattle.file_laws.specs.Begun.{IsBegunFrom}
use Rattle.file_laws.proofs.Starts.{Start, one_start, valid_start}

-- what is seen, by the rows of all groups or the first violation
abbrev IsTold : Result (List (Option Json)) FileFault → Seen (Option Json) → Type 0
IsTold (Ok rows) seen = seen ≡ all_found rows
IsTold (Err broken) seen = seen.stop ≡ Some (violation_in broken.group broken.fault)

one_group : (k : ℕ) (r : Result (List (Option Json)) GroupFault) (later : Result (List (Option Json)) FileFault) (seen : Seen (Option Json)) → IsTold later seen
    → IsTold (whole.in_group k r >>= λ rows. later >>= λ more. Ok (rows ++ more)) (with_group (in_group k r) seen)
one_group k (Ok rows) (Ok more) seen h = ap (with_group (Ok rows)) h
one_group k (Ok rows) (Err broken) seen h = h
one_group k (Err fault) later seen h = refl

module _ (mask : ℕ → Bool) (optional : Bool) (n : Group) (end : ℕ) (column : FileColumn) (file : List ℕ) where
  told : (k : ℕ) (gs : List GroupMeta) → IsTold (rows_in mask optional n end column k gs file) (seen_of (λ k g. in_group k (file_group_seen mask optional n end column g file)) k gs)
  unfolding rows_in seen_of
  told k [] = refl
  told k (g ∷ gs) =
      one_group k (file_group_seen mask optional n end column g file) (rows_in mask optional n end column (k + 1) gs file)
      (seen_of (λ k g. in_group k (file_group_seen mask optional n end column g file)) (k + 1) gs) (told (k + 1) gs)

reads_each : (mask : List Bool) (count j : ℕ) → mask ≡ replicate count true → j < count → reads mask j ≡ true
reads_each mask count j is inside = subst (λ (m : List Bool). reads m j ≡ true) (sym is) (get_or-replicate count j true false inside)

pub reads_all : (f : StoreFile) → IsUsable f → ReadsAll (reads f.mask) (shown f.column).node
reads_all f usable = λ j among.
    reads_each f.mask (length f.column.leaves) j usable.reads (omega (arith, usable.can.leaves, among_high j 0 (1 + width (shown f.column).node) among))

pub valid_rows : (column bytes : List ℕ) (rows : List (Option Json)) (f : StoreFile) → IsValid bytes column rows → IsBegunFrom column bytes f → rows_seen f bytes ≡ all_found rows
valid_rows column bytes rows f v b =
    let start : ◌≡◌ {A = Start} (v.opened, v.view) (f.opened, shown f.column) = one_start column bytes (v.opened, v.view) f b (valid_start column bytes rows v) in
    let all : ReadsAll (reads f.mask) v.view.node = subst (λ (s : Start). ReadsAll (reads f.mask) s.1.node) (sym start) (reads_all f b.usable) in
    let read : rows_in (reads f.mask) v.view.optional v.view.node v.opened.end f.column 0 v.opened.meta.row_groups bytes ≡ Ok rows = v.groups f.column (reads f.mask) (sym (ap (λ (s : Start). s.1) start)) all in
    let here : rows_in (reads f.mask) (shown f.column).optional (shown f.column).node f.opened.end f.column 0 (groups_in f) bytes ≡ Ok rows =
    subst (λ (s : Start). rows_in (reads f.mask) s.1.optional s.1.node s.0.end f.column 0 s.0.meta.row_groups bytes ≡ Ok rows) start read in
    subst (λ (r : Result (List (Option Json)) FileFault). IsTold r (rows_seen f bytes)) here (told (reads f.mask) (shown f.column).optional (shown f.column).node f.opened.end f.column bytes 0 (groups_in f))
