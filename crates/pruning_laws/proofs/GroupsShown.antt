-- The rows of a group whose chunks have the stripes of records are what these records mean, under any closed mask that
-- reads some leaf.
use Rattle.std.proofs.Common.{◌≡◌, ◌∙◌, refl, sym, ap, ℕ, zero, suc, ◌+◌, Bool, true, false, cond, List, [], ◌∷◌, map, length, get_or, Some, Result, Ok, arith}
use Rattle.std.specs.List.{AllByRecursion}
use Rattle.std.proofs.lemmas.List.{length-map}
use Rattle.vs_bytes.specs.Outcome.{◌>>=◌}
use Rattle.vs_bytes.specs.declared.leaf_columns.Entry.{Entry}
use Rattle.vs_bytes.specs.declared.rule.Rule.{Rule}
use Rattle.shred_schema.specs.Groups.{Group, width}
use Rattle.shred_schema.specs.Projection.{IsClosed}
use Rattle.shred_schema.specs.Ranges.{is_among, none_read}
use Rattle.shred_schema.specs.Recs.{RowRec}
use Rattle.shred_schema.specs.Shapes.{RowIsOf}
use Rattle.shred_schema.proofs.LeafRanges.{among_first, among_rest, among_high}
use Rattle.level_striping.specs.Entries.{stripes}
use Rattle.record_assembly.specs.Reading.{rows_read}
use Rattle.record_assembly.specs.Shown.{row_shown}
use Rattle.record_assembly.proofs.Rows.{rows_complete}
use Rattle.unshredder.specs.Rows.{row_seen}
use Rattle.group_reading.specs.GroupRows.{at_place, rows_seen, leaf_seen, leaves_seen, group_seen}
use Rattle.group_reading.specs.declared.group_faults.GroupFault.{GroupFault}
use Rattle.group_reading.specs.declared.group_faults.PlaceInGroup.TheVariants as place
use Rattle.reading_laws.specs.RowsMeant.{rows_meant}
use Rattle.reading_laws.proofs.LeavesSeen.{listed, leaf_listed}
use Rattle.reading_laws.proofs.RowsSeen.{seen_as_read}
use Rattle.reading_laws.proofs.SeenAgain.{row_seen_again}

-- Of a leaf that is read its entries are seen, of any other none.

leaf_is : (mask : ℕ → Bool) (chunk : ℕ → Result (List Entry) Rule) (entries : List Entry) (j : ℕ) → chunk j ≡ Ok entries → leaf_seen mask chunk j ≡ Ok (cond (mask j) entries [])
leaf_is mask chunk entries j given = ap (λ (found : Result (List Entry) Rule). cond (mask j) (at_place (place.Leaf j) found) (Ok [])) given ∙ by (mask j)
  where
    by : (b : Bool) → ◌≡◌ {A = Result (List Entry) GroupFault} (cond b (Ok entries) (Ok [])) (Ok (cond b entries []))
    by true = refl
    by false = refl

leaves_are : (mask : ℕ → Bool) (chunk : ℕ → Result (List Entry) Rule) (es : ℕ → List Entry) (k count : ℕ) → ((j : ℕ) → is_among j k count ≡ true → chunk j ≡ Ok (es j))
    → leaves_seen mask chunk k count ≡ Ok (listed (λ j. cond (mask j) (es j) []) k count)
unfolding leaves_seen
leaves_are mask chunk es k zero given = refl
leaves_are mask chunk es k (suc count) given =
    let first : leaf_seen mask chunk k ≡ Ok (cond (mask k) (es k) []) = leaf_is mask chunk (es k) k (given k (among_first k count)) in
    let rest : leaves_seen mask chunk (k + 1) count ≡ Ok (listed (λ j. cond (mask j) (es j) []) (k + 1) count) = leaves_are mask chunk es (k + 1) count (λ j a. given j (among_rest j k count a)) in
    λ i. first i >>= λ entries. rest i >>= λ later. Ok (entries ∷ later)

-- What the mask leaves of each record means what the record means under the mask.

meant_again : (mask : ℕ → Bool) (n : Group) (k : ℕ) (rows : List RowRec) → IsClosed mask n → rows_meant mask n k (map (row_shown n mask) rows) ≡ rows_meant mask n k rows
unfolding rows_meant
meant_again mask n k [] closed = refl
meant_again mask n k (x ∷ xs) closed =
    let first : row_seen mask n (row_shown n mask x) ≡ row_seen mask n x = row_seen_again mask n x closed in
    let rest : rows_meant mask n (k + 1) (map (row_shown n mask) xs) ≡ rows_meant mask n (k + 1) xs = meant_again mask n (k + 1) xs closed in
    λ i. at_place (place.Row k) (first i) >>= λ row. rest i >>= λ rows. Ok (row ∷ rows)

module _ (mask : ℕ → Bool) (optional : Bool) (n : Group) (rows : List RowRec)
    (some : none_read mask 0 (1 + width n) ≡ false) (closed : IsClosed mask n) (of : AllByRecursion (RowIsOf optional n) rows) where
  rows_are : (es : ℕ → List Entry) → rows_read optional n mask es ≡ Some (map (row_shown n mask) rows) → rows_seen mask optional n (length rows) 0 es ≡ rows_meant mask n 0 rows
  rows_are es read =
      ap (λ count. rows_seen mask optional n count 0 es) (sym (length-map rows (row_shown n mask)))
      ∙ (seen_as_read mask optional n (map (row_shown n mask) rows) 0 es read ∙ meant_again mask n 0 rows closed)

  pub group_shown : (chunk : ℕ → Result (List Entry) Rule) → ((j : ℕ) → is_among j 0 (1 + width n) ≡ true → chunk j ≡ Ok (stripes optional n rows j))
      → group_seen mask optional n (length rows) chunk ≡ rows_meant mask n 0 rows
  unfolding group_seen
  group_shown chunk given =
      let left : ℕ → List Entry = λ j. cond (mask j) (stripes optional n rows j) [] in
      let es : ℕ → List Entry = λ j. get_or (listed left 0 (1 + width n)) j [] in
      let have : (j : ℕ) → is_among j 0 (1 + width n) ≡ true → mask j ≡ true → es j ≡ stripes optional n rows j =
      λ j a read. leaf_listed left (1 + width n) j (omega (arith, among_high j 0 (1 + width n) a)) ∙ ap (λ b. cond b (stripes optional n rows j) []) read in
      let chunks : leaves_seen mask chunk 0 (1 + width n) ≡ Ok (listed left 0 (1 + width n)) = leaves_are mask chunk (stripes optional n rows) 0 (1 + width n) given in
      ap (λ (found : Result (List (List Entry)) GroupFault). found >>= λ leaves. rows_seen mask optional n (length rows) 0 (λ j. get_or leaves j [])) chunks
      ∙ rows_are es (rows_complete optional n mask es rows some of have)
