-- The rows of a group are what the records mean whose stripes its chunks have.
use Rattle.std.proofs.Common.{◌≡◌, ◌∙◌, refl, ap, ℕ, ◌+◌, Bool, true, false, List, [], ◌∷◌, length, get_or, Some, Result, Ok, arith}
use Rattle.std.specs.List.{AllByRecursion}
use Rattle.vs_bytes.specs.Outcome.{◌>>=◌}
use Rattle.vs_bytes.specs.declared.leaf_columns.Entry.{Entry}
use Rattle.vs_bytes.specs.declared.rule.Rule.{Rule}
use Rattle.shred_schema.specs.Groups.{Group, width}
use Rattle.shred_schema.specs.Lawful.{HasLeaves}
use Rattle.shred_schema.specs.Ranges.{is_among, every, none_read}
use Rattle.shred_schema.specs.Recs.{RowRec}
use Rattle.shred_schema.specs.Shapes.{RowIsOf}
use Rattle.shred_schema.proofs.LeafRanges.{among_first, among_left, among_high}
use Rattle.shred_schema.proofs.ReadLeaves.{some_read}
use Rattle.level_striping.specs.Entries.{stripes}
use Rattle.record_assembly.specs.Reading.{rows_read}
use Rattle.record_assembly.proofs.Rows.{rows_complete}
use Rattle.unshredder.specs.Rows.{row_seen, row_of}
use Rattle.group_reading.specs.GroupRows.{at_place, rows_seen, leaves_seen, group_seen}
use Rattle.group_reading.specs.declared.group_faults.GroupFault.{GroupFault}
use Rattle.group_reading.specs.declared.group_faults.PlaceInGroup.TheVariants as place
use Rattle.reading_laws.specs.FullMasks.{ReadsAll}
use Rattle.reading_laws.specs.RowsMeant.{rows_meant, rows_of}
use Rattle.reading_laws.proofs.LeavesSeen.{listed, leaf_listed, all_leaves_seen}
use Rattle.reading_laws.proofs.RowsSeen.{seen_as_read}
use Rattle.reading_laws.proofs.Whole.{all_seen, rows_shown}

pub meant_the_same : (mask : ℕ → Bool) (n : Group) (k : ℕ) (rows : List RowRec) → ReadsAll mask n → rows_meant mask n k rows ≡ rows_meant every n k rows
unfolding rows_meant
meant_the_same mask n k [] all = refl
meant_the_same mask n k (x ∷ xs) all =
    let first : row_seen mask n x ≡ row_of n x = all_seen mask n x all in
    let rest : rows_meant mask n (k + 1) xs ≡ rows_meant every n (k + 1) xs = meant_the_same mask n (k + 1) xs all in
    λ i. at_place (place.Row k) (first i) >>= λ row. rest i >>= λ rows. Ok (row ∷ rows)

module _ (mask : ℕ → Bool) (optional : Bool) (n : Group) (rows : List RowRec) (all : ReadsAll mask n) (leaves : HasLeaves n) (of : AllByRecursion (RowIsOf optional n) rows) where
  some : none_read mask 0 (1 + width n) ≡ false
  some = let first = among_left 0 0 1 (width n) (among_first 0 0) in some_read mask 0 (1 + width n) 0 first (all 0 first)

  -- the records are read from entries that are their stripes
  all_read : (es : ℕ → List Entry) → ((j : ℕ) → is_among j 0 (1 + width n) ≡ true → es j ≡ stripes optional n rows j) → rows_read optional n mask es ≡ Some rows
  all_read es have = rows_complete optional n mask es rows some of (λ j a y. have j a) ∙ ap Some (rows_shown mask optional n rows all leaves of)

  pub group_meant : (chunk : ℕ → Result (List Entry) Rule) → ((j : ℕ) → is_among j 0 (1 + width n) ≡ true → chunk j ≡ Ok (stripes optional n rows j)) → group_seen mask optional n (length rows) chunk ≡ rows_of n rows
  unfolding group_seen
  group_meant chunk given =
      let es : ℕ → List Entry = λ j. get_or (listed (stripes optional n rows) 0 (1 + width n)) j [] in
      let have : (j : ℕ) → is_among j 0 (1 + width n) ≡ true → es j ≡ stripes optional n rows j = λ j a. leaf_listed (stripes optional n rows) (1 + width n) j (omega (arith, among_high j 0 (1 + width n) a)) in
      let chunks : leaves_seen mask chunk 0 (1 + width n) ≡ Ok (listed (stripes optional n rows) 0 (1 + width n)) = all_leaves_seen mask chunk (stripes optional n rows) 0 (1 + width n) all given in
      ap (λ (found : Result (List (List Entry)) GroupFault). found >>= λ leaves. rows_seen mask optional n (length rows) 0 (λ j. get_or leaves j [])) chunks
      ∙ (seen_as_read mask optional n rows 0 es (all_read es have) ∙ meant_the_same mask n 0 rows all)
