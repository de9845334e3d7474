-- Where a mask reads the leaves that a query needs, the query prints of the rows of a group what it prints of them where
-- all leaves are read.
use Rattle.std.proofs.Common.{◌≡◌, ◌∙◌, refl, sym, ap, ap₂, subst, ℕ, ◌+◌, Bool, true, false, List, [], ◌∷◌, ◌++◌, length, Option, Result, Ok, Err}
use Rattle.json_tree.specs.Json.{Json}
use Rattle.vs_bytes.specs.Outcome.{◌>>=◌}
use Rattle.vs_bytes.specs.declared.leaf_columns.Entry.{Entry}
use Rattle.vs_bytes.specs.declared.rule.Rule.{Rule}
use Rattle.query_tree.specs.Asked.{Asked}
use Rattle.path_query.specs.Answer.{answer_of}
use Rattle.shred_schema.specs.Groups.{Group, width}
use Rattle.shred_schema.specs.Lawful.{IsWellFormed}
use Rattle.shred_schema.specs.Projection.{IsClosed}
use Rattle.shred_schema.specs.Ranges.{every, none_read}
use Rattle.shred_schema.specs.Recs.{RowRec}
use Rattle.shred_schema.proofs.LeafRanges.{among_first, among_left}
use Rattle.shred_schema.proofs.NodeFacts.{nodes_have_leaves}
use Rattle.shred_schema.proofs.ReadLeaves.{some_read}
use Rattle.unshredder.specs.Rows.{row_seen, row_of}
use Rattle.group_reading.specs.GroupRows.{at_place, group_seen}
use Rattle.group_reading.specs.declared.group_faults.GroupFault.{GroupFault}
use Rattle.group_reading.specs.declared.group_faults.PlaceInGroup.{PlaceInGroup}
use Rattle.group_reading.specs.declared.group_faults.PlaceInGroup.TheVariants as place
use Rattle.reading_laws.specs.RowsMeant.{rows_meant}
use Rattle.reading_laws.proofs.RecordsSeen.{group_records}
use Rattle.chunk_pruning.specs.Needs.{ReadsNeeded}
use Rattle.pruning_laws.specs.Kept.{HaveRows, KeepsRow, KeepsRows}
use Rattle.pruning_laws.proofs.Chains.{steps_of}
use Rattle.pruning_laws.proofs.GroupsShown.{group_shown}
use Rattle.pruning_laws.proofs.RowsKept.{row_kept}

placed : {A : Type 0} (p : PlaceInGroup) (r : Result A Rule) (a : A) → at_place p r ≡ Ok a → r ≡ Ok a
placed p (Ok x) a h = let same : x ≡ a = cc in ap Ok same
placed p (Err e) a h = absurd cc

same_rows : (xs ys : List (Option Json)) → ◌≡◌ {A = Result (List (Option Json)) GroupFault} (Ok xs) (Ok ys) → xs ≡ ys
same_rows xs ys h = cc

module _ (asked : Asked) (mask : ℕ → Bool) (n : Group) (needed : ReadsNeeded asked n mask) (well : IsWellFormed n) where
  one_more : (k : ℕ) (x : RowRec) (xs : List RowRec) (row : Option Json) (rows : List (Option Json)) → KeepsRow asked (row_seen mask n x) row
      → KeepsRows asked (rows_meant mask n (k + 1) xs) rows → KeepsRows asked (rows_meant mask n k (x ∷ xs)) (row ∷ rows)
  unfolding rows_meant
  one_more k x xs row rows one more =
      let first : row_seen mask n x ≡ Ok one.shown = one.is_shown in
      let rest : rows_meant mask n (k + 1) xs ≡ Ok more.shown = more.are_shown in
      record {
        shown = one.shown ∷ more.shown;
        are_shown = λ i. at_place (place.Row k) (first i) >>= λ r. rest i >>= λ rs. Ok (r ∷ rs);
        text = ap₂ (λ s t. s ++ t) one.text more.text;
      }

  rows_kept : (k : ℕ) (records : List RowRec) (rows : List (Option Json)) → rows_meant every n k records ≡ Ok rows → KeepsRows asked (rows_meant mask n k records) rows
  unfolding rows_meant
  rows_kept k [] rows h = record { shown = []; are_shown = refl; text = ap (answer_of asked) (same_rows [] rows h) }
  rows_kept k (x ∷ xs) rows h =
      let first = steps_of (at_place (place.Row k) (row_of n x)) (λ row. rows_meant every n (k + 1) xs >>= λ more. Ok (row ∷ more)) rows h in
      let rest = steps_of (rows_meant every n (k + 1) xs) (λ more. Ok (first.value ∷ more)) rows first.rest in
      let one = row_kept asked mask n x first.value needed well (placed (place.Row k) (row_of n x) first.value first.is) in
      subst (KeepsRows asked (rows_meant mask n k (x ∷ xs))) (same_rows (first.value ∷ rest.value) rows rest.rest)
      (one_more k x xs first.value rest.value one (rows_kept (k + 1) xs rest.value rest.is))

  -- The metadata is needed, so the mask is closed and reads some leaf.

  meta_read : mask 0 ≡ true
  meta_read = needed 0 refl

  some : none_read mask 0 (1 + width n) ≡ false
  some = some_read mask 0 (1 + width n) 0 (among_left 0 0 1 (width n) (among_first 0 0)) meta_read

  closed : IsClosed mask n
  closed = λ value. meta_read

  pub group_kept : (optional : Bool) (count : ℕ) (chunk : ℕ → Result (List Entry) Rule) (rows : List (Option Json))
      → HaveRows n count chunk → group_seen every optional n count chunk ≡ Ok rows → KeepsRows asked (group_seen mask optional n count chunk) rows
  group_kept optional count chunk rows held h =
      let f = group_records every optional n (λ j a. refl) (nodes_have_leaves n well.nodes) count chunk rows held h in
      let counted : group_seen mask optional n count chunk ≡ group_seen mask optional n (length f.records) chunk = ap (λ many. group_seen mask optional n many chunk) (sym f.counted) in
      let same : group_seen mask optional n count chunk ≡ rows_meant mask n 0 f.records = counted ∙ group_shown mask optional n f.records some closed f.of chunk f.chunks in
      subst (λ (seen : Result (List (Option Json)) GroupFault). KeepsRows asked seen rows) (sym same) (rows_kept 0 f.records rows f.meant)
