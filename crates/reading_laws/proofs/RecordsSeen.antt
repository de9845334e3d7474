-- Rows that are seen are what one list of records means, whose stripes the chunks have.
use Rattle.std.proofs.Common.{◌≡◌, ◌∙◌, refl, sym, ap, ap₂, subst, ℕ, zero, suc, ◌+◌, ◌<◌, ◌==◌, Bool, true, cond, List, [], ◌∷◌, ◌++◌, length, get_or, Option, Some, None, Result, Ok, Err, arith}
use Rattle.std.specs.List.{AllByRecursion}
use Rattle.std.proofs.lemmas.Bool.{and_parts}
use Rattle.std.proofs.lemmas.Bool.Decides.{nat_tests}
use Rattle.std.proofs.lemmas.List.Sums.{sum_by-cons}
use Rattle.json_tree.specs.Json.{Json}
use Rattle.vs_bytes.specs.Outcome.{◌>>=◌}
use Rattle.vs_bytes.specs.declared.leaf_columns.Entry.{Entry}
use Rattle.vs_bytes.specs.declared.rule.Rule.{Rule}
use Rattle.shred_schema.specs.Groups.{Group, width}
use Rattle.shred_schema.specs.Lawful.{HasLeaves}
use Rattle.shred_schema.specs.Ranges.{is_among}
use Rattle.shred_schema.specs.Recs.{RowRec}
use Rattle.shred_schema.specs.Shapes.{RowIsOf}
use Rattle.shred_schema.proofs.LeafRanges.{among_high}
use Rattle.level_striping.specs.Entries.{stripes}
use Rattle.record_assembly.specs.Cuts.{first_item, later_items}
use Rattle.record_assembly.specs.Reading.{row_read}
use Rattle.record_assembly.proofs.Alike as alike
use Rattle.record_assembly.proofs.Cutting.{items_joined}
use Rattle.record_assembly.proofs.Rows.{row_sound}
use Rattle.unshredder.specs.Rows.{row_seen}
use Rattle.group_reading.specs.ChunkEntries.{row_starts, has_rows}
use Rattle.group_reading.specs.GroupRows.{at_place, or_mismatch, next_seen, rows_seen, leaf_seen, leaves_seen, group_seen}
use Rattle.group_reading.specs.declared.group_faults.GroupFault.{GroupFault}
use Rattle.group_reading.specs.declared.group_faults.PlaceInGroup.{PlaceInGroup}
use Rattle.group_reading.specs.declared.group_faults.PlaceInGroup.TheVariants as place
use Rattle.group_reading.proofs.RowStarts.{later_rows}
use Rattle.reading_laws.specs.FullMasks.{ReadsAll}
use Rattle.reading_laws.specs.GroupRecords.{HasRecords}
use Rattle.reading_laws.specs.RowsMeant.{rows_meant}
use Rattle.reading_laws.proofs.GroupRecords.{meant_the_same}
use Rattle.reading_laws.proofs.Whole.{all_shown}

-- What an Ok in steps came from.

record Steps {A B F : Type 0} (r : Result A F) (f : A → Result B F) (b : B) : Type 0 where
  value : A
  is : r ≡ Ok value
  rest : f value ≡ Ok b

steps : {A B F : Type 0} (r : Result A F) (f : A → Result B F) (b : B) → (r >>= f) ≡ Ok b → Steps r f b
steps (Ok a) f b h = record { value = a; is = refl; rest = h }
steps (Err e) f b h = absurd cc

placed : {A : Type 0} (p : PlaceInGroup) (r : Result A Rule) (a : A) → at_place p r ≡ Ok a → r ≡ Ok a
placed p (Ok x) a h = let same : x ≡ a = cc in ap Ok same
placed p (Err e) a h = absurd cc

same_rows : {A : Type 0} (xs ys : List A) → ◌≡◌ {A = Result (List A) GroupFault} (Ok xs) (Ok ys) → xs ≡ ys
same_rows xs ys h = cc

read_row : (o : Option RowRec) (q : RowRec) → ◌≡◌ {A = Result RowRec Rule} (or_mismatch o) (Ok q) → o ≡ Some q
read_row None q h = absurd cc
read_row (Some x) q h = let same : x ≡ q = cc in ap Some same

-- Entries of no rows are none.

nothing_left : (es : List Entry) → has_rows 0 es ≡ true → es ≡ []
nothing_left [] h = refl
nothing_left (e ∷ es) h =
    let parts = and_parts (e.rep == 0) (row_starts (e ∷ es) == 0) h in
    let sum : row_starts (e ∷ es) ≡ cond (e.rep == 0) 1 0 + row_starts es = sum_by-cons (λ (x : Entry). cond (x.rep == 0) 1 0) e es in
    let one : ◌≡◌ {A = ℕ} (cond (e.rep == 0) 1 0) 1 = ap (λ b. cond b 1 0) parts.0 in
    let none : row_starts (e ∷ es) ≡ 0 = grind (arith, nat_tests) in
    absurd (omega (arith, sum, one, none))

module _ (mask : ℕ → Bool) (optional : Bool) (n : Group) (all : ReadsAll mask n) (leaves : HasLeaves n) where
  -- records whose stripes are these entries, and what they mean
  record Found (count k : ℕ) (es : ℕ → List Entry) (rows : List (Option Json)) : Type 0 where
    records : List RowRec
    of : AllByRecursion (RowIsOf optional n) records
    have : (j : ℕ) → is_among j 0 (1 + width n) ≡ true → es j ≡ stripes optional n records j
    meant : rows_meant mask n k records ≡ Ok rows
    counted : length records ≡ count

  found_more : (count k : ℕ) (es : ℕ → List Entry) (row : Option Json) (rows : List (Option Json)) (q : RowRec) → row_read optional n mask 0 (λ j. first_item 0 (es j)) ≡ Some q → row_seen mask n q ≡ Ok row → Found count (k + 1) (λ j. later_items 0 (es j)) rows → Found (suc count) k es (row ∷ rows)
  unfolding rows_meant
  found_more count k es row rows q read seen later =
      let f = row_sound optional n mask 0 (λ j. first_item 0 (es j)) q read in
      let whole : f.one ≡ q = sym (all_shown mask optional n f.one all leaves f.of) ∙ f.is in
      let one : row_seen mask n f.one ≡ Ok row = ap (row_seen mask n) whole ∙ seen in
      let rest : rows_meant mask n (k + 1) later.records ≡ Ok rows = later.meant in
      record {
        records = f.one ∷ later.records;
        of = (f.of, later.of);
        have = λ j a. sym (items_joined 0 (es j)) ∙ ap₂ (λ xs ys. xs ++ ys) (f.agree j (a, all j a)) (later.have j a);
        meant = λ i. at_place (place.Row k) (one i) >>= λ first. rest i >>= λ more. Ok (first ∷ more);
        counted = ap suc later.counted;
      }

  rows_found : (count k : ℕ) (es : ℕ → List Entry) (rows : List (Option Json)) → ((j : ℕ) → is_among j 0 (1 + width n) ≡ true → has_rows count (es j) ≡ true) → rows_seen mask optional n count k es ≡ Ok rows → Found count k es rows
  unfolding rows_seen rows_meant next_seen
  rows_found zero k es rows held h =
      let none : [] ≡ rows = same_rows [] rows h in
      record { records = []; of = tt; have = λ j a. nothing_left (es j) (held j a); meant = ap Ok none; counted = refl }
  rows_found (suc count) k es rows held h =
      let first = steps (at_place (place.Row k) (next_seen mask optional n es)) (λ row. rows_seen mask optional n count (k + 1) (λ j. later_items 0 (es j)) >>= λ more. Ok (row ∷ more)) rows h in
      let seen = placed (place.Row k) (next_seen mask optional n es) first.value first.is in
      let row = steps (or_mismatch (row_read optional n mask 0 (λ j. first_item 0 (es j)))) (row_seen mask n) first.value seen in
      let rest = steps (rows_seen mask optional n count (k + 1) (λ j. later_items 0 (es j))) (λ more. Ok (first.value ∷ more)) rows first.rest in
      let later = rows_found count (k + 1) (λ j. later_items 0 (es j)) rest.value (λ j a. later_rows count (es j) (held j a)) rest.is in
      subst (Found (suc count) k es) (same_rows (first.value ∷ rest.value) rows rest.rest)
      (found_more count k es first.value rest.value row.value (read_row (row_read optional n mask 0 (λ j. first_item 0 (es j))) row.value row.is) row.rest later)

  -- The entries of each leaf are those of its chunk.

  leaf_given : (chunk : ℕ → Result (List Entry) Rule) (j : ℕ) (entries : List Entry) → mask j ≡ true → leaf_seen mask chunk j ≡ Ok entries → chunk j ≡ Ok entries
  leaf_given chunk j entries read h = placed (place.Leaf j) (chunk j) entries (sym (ap (λ b. cond b (at_place (place.Leaf j) (chunk j)) (Ok [])) read) ∙ h)

  chunks_given : (chunk : ℕ → Result (List Entry) Rule) (count k i : ℕ) (found : List (List Entry)) → leaves_seen mask chunk k count ≡ Ok found → i < count → mask (k + i) ≡ true → chunk (k + i) ≡ Ok (get_or found i [])
  unfolding leaves_seen
  chunks_given chunk zero k i found h inside read = absurd (omega (arith, inside))
  chunks_given chunk (suc count) k i found h inside read =
      let first = steps (leaf_seen mask chunk k) (λ entries. leaves_seen mask chunk (k + 1) count >>= λ later. Ok (entries ∷ later)) found h in
      let rest = steps (leaves_seen mask chunk (k + 1) count) (λ later. Ok (first.value ∷ later)) found first.rest in
      let whole : first.value ∷ rest.value ≡ found = same_rows (first.value ∷ rest.value) found rest.rest in
      subst (λ (xs : List (List Entry)). chunk (k + i) ≡ Ok (get_or xs i [])) whole
      (at i inside read first.value rest.value first.is (λ d lower own. chunks_given chunk count (k + 1) d rest.value rest.is lower own))
    where
      at : (i : ℕ) → i < suc count → mask (k + i) ≡ true → (entries : List Entry) (later : List (List Entry)) → leaf_seen mask chunk k ≡ Ok entries → ((d : ℕ) → d < count → mask (k + 1 + d) ≡ true → chunk (k + 1 + d) ≡ Ok (get_or later d [])) → chunk (k + i) ≡ Ok (get_or (entries ∷ later) i [])
      at zero inside read entries later is deeper =
          let same : k ≡ k + 0 = omega arith in
          subst (λ (j : ℕ). chunk j ≡ Ok entries) same (leaf_given chunk k entries (subst (λ (j : ℕ). mask j ≡ true) (sym same) read) is)
      at (suc d) inside read entries later is deeper =
          let same : k + 1 + d ≡ k + suc d = omega arith in
          subst (λ (j : ℕ). chunk j ≡ Ok (get_or later d [])) same (deeper d (omega (arith, inside)) (subst (λ (j : ℕ). mask j ≡ true) (sym same) read))

  pub group_records : (count : ℕ) (chunk : ℕ → Result (List Entry) Rule) (rows : List (Option Json)) → ((j : ℕ) (entries : List Entry) → is_among j 0 (1 + width n) ≡ true → chunk j ≡ Ok entries → has_rows count entries ≡ true) → group_seen mask optional n count chunk ≡ Ok rows → HasRecords optional n count chunk rows
  unfolding group_seen
  group_records count chunk rows held h =
      let first = steps (leaves_seen mask chunk 0 (1 + width n)) (λ found. rows_seen mask optional n count 0 (λ j. get_or found j [])) rows h in
      let given : (j : ℕ) → is_among j 0 (1 + width n) ≡ true → chunk j ≡ Ok (get_or first.value j []) = λ j a.
      let same : 0 + j ≡ j = omega arith in
      subst (λ (i : ℕ). chunk i ≡ Ok (get_or first.value j [])) same (chunks_given chunk (1 + width n) 0 j first.value first.is (omega (arith, among_high j 0 (1 + width n) a)) (subst (λ (i : ℕ). mask i ≡ true) (sym same) (all j a))) in
      let f = rows_found count 0 (λ j. get_or first.value j []) rows (λ j a. held j (get_or first.value j []) a (given j a)) first.rest in
      record {
        records = f.records;
        of = f.of;
        chunks = λ j a. given j a ∙ ap Ok (f.have j a);
        meant = sym (meant_the_same mask n 0 f.records all) ∙ f.meant;
        counted = f.counted;
      }

same_entries : (es fs : List Entry) → ◌≡◌ {A = Result (List Entry) Rule} (Ok es) (Ok fs) → es ≡ fs
same_entries es fs h = cc

pub records_same : (optional : Bool) (n : Group) (count : ℕ) (chunk : ℕ → Result (List Entry) Rule) (rows others : List (Option Json)) → HasLeaves n → (a : HasRecords optional n count chunk rows) (b : HasRecords optional n count chunk others) → a.records ≡ b.records
records_same optional n count chunk rows others leaves a b =
    alike.same_rows optional n a.records b.records leaves a.of b.of (λ j i. same_entries (stripes optional n a.records j) (stripes optional n b.records j) (sym (a.chunks j i) ∙ b.chunks j i))
