-- What is spelled is read.
use Rattle.std.proofs.Common.{◌≡◌, ◌∙◌, ◌⊎◌, inl, inr, refl, ℕ, suc, ◌==◌, ◌-◌, ◌≤◌, List, [], ◌∷◌, ◌++◌, true, false, Some, None, length, length-append, arith, le_refl, ne_eqb}
use Rattle.std.proofs.lemmas.Bool.Decides.{nat_tests}
use Rattle.exact_num.specs.Spelling.{IsDigit}
use Rattle.json_strings.specs.Pieces.{Piece, pieces_spelled}
use Rattle.json_strings.specs.Meaning.{IsString}
use Rattle.json_strings.proofs.Strings.{string_complete}
use Rattle.json_grammar.specs.Grammar.{Written, null, boolean, number, text, array, object, Elements, no_elements, first_element, MoreElements, end_elements, next_element, Entry, entry, Entries, no_entries, first_entry, MoreEntries, end_entries, next_entry, IsGap, IsNumber, spelled, elements_spelled, more_elements_spelled, entry_spelled, entries_spelled, more_entries_spelled, IsWell, AreWellElements, AreWellMore, IsWellEntry, AreWellEntries, AreWellMoreEntries, nesting, elements_nesting, more_nesting, entry_nesting, entries_nesting, more_entries_nesting}
use Rattle.byte_parsing.specs.Parse.{Parse, Stops, past}
use Rattle.byte_parsing.specs.Words.{is_numeric}
use Rattle.byte_parsing.proofs.ListReading.{all_complete, more_complete}
use Rattle.byte_parsing.proofs.Runs.{front_run, back_run}
use Rattle.json_grammar.specs.Reading.{is_space, number_at, value_by, value_at, nested, elements_at, more_elements_at, entries_at, entry_at, more_entries_at}
use Rattle.json_grammar.proofs.Gaps.{gap_passes, gap_is, past_gap_is, gap_quiet}
use Rattle.json_grammar.proofs.Strings.{pieces_longer}
use Rattle.json_grammar.proofs.Numbers.{Starts, number_passes, number_starts, number_complete}

-- The bytes after a value stay after it.

mutual
  longer : (w : Written) (after : List ℕ) → length after ≤ length (spelled w after)
  longer null after = omega arith
  longer (boolean true) after = omega arith
  longer (boolean false) after = omega arith
  longer (number s) after = omega (arith, length-append s after)
  longer (text ps) after = omega (arith, pieces_longer ps after)
  longer (array gap es) after = omega (arith, length-append gap (elements_spelled es after), elements_longer es after)
  longer (object gap es) after = omega (arith, length-append gap (entries_spelled es after), entries_longer es after)

  elements_longer : (es : Elements) (after : List ℕ) → length after ≤ length (elements_spelled es after)
  elements_longer no_elements after = omega arith
  elements_longer (first_element w gap es) after =
      omega (arith, more_longer es after, length-append gap (more_elements_spelled es after), longer w (gap ++ more_elements_spelled es after))

  more_longer : (es : MoreElements) (after : List ℕ) → length after ≤ length (more_elements_spelled es after)
  more_longer end_elements after = omega arith
  more_longer (next_element before w gap es) after =
      omega (arith, more_longer es after, length-append gap (more_elements_spelled es after), longer w (gap ++ more_elements_spelled es after), length-append before (spelled w (gap ++ more_elements_spelled es after)))

  entry_longer : (e : Entry) (after : List ℕ) → length after ≤ length (entry_spelled e after)
  entry_longer (entry name before gap w) after =
      omega (arith, longer w after, length-append gap (spelled w after), length-append before (58 ∷ (gap ++ spelled w after)), pieces_longer name (before ++ 58 ∷ (gap ++ spelled w after)))

  entries_longer : (es : Entries) (after : List ℕ) → length after ≤ length (entries_spelled es after)
  entries_longer no_entries after = omega arith
  entries_longer (first_entry e gap es) after =
      omega (arith, more_entries_longer es after, length-append gap (more_entries_spelled es after), entry_longer e (gap ++ more_entries_spelled es after))

  more_entries_longer : (es : MoreEntries) (after : List ℕ) → length after ≤ length (more_entries_spelled es after)
  more_entries_longer end_entries after = omega arith
  more_entries_longer (next_entry before e gap es) after =
      omega (arith, more_entries_longer es after, length-append gap (more_entries_spelled es after), entry_longer e (gap ++ more_entries_spelled es after), length-append before (entry_spelled e (gap ++ more_entries_spelled es after)))

-- The first byte of each part ends what stands before it.

number_begins : (x : ℕ) → (x ≡ 45) ⊎ IsDigit x → (is_space x ≡ false) × ((x == 93) ≡ false)
number_begins x (inl e) = rw e (refl, refl)
number_begins x (inr h) = (grind (arith, nat_tests), grind (arith, nat_tests))

pub begins : (w : Written) (after : List ℕ) → IsWell w → Stops is_space (spelled w after) × (past 93 (spelled w after) ≡ None)
begins null after h = (refl, refl)
begins (boolean true) after h = (refl, refl)
begins (boolean false) after h = (refl, refl)
begins (number s) after h = number_first s (number_starts s h)
  where
    number_first : (s : List ℕ) → Starts s → Stops is_space (s ++ after) × (past 93 (s ++ after) ≡ None)
    number_first [] k = absurd k
    number_first (x ∷ xs) k = let first = number_begins x k in (first.0, rw first.1 refl)
begins (text ps) after h = (refl, refl)
begins (array gap es) after h = (refl, refl)
begins (object gap es) after h = (refl, refl)

elements_begin : (es : Elements) (after : List ℕ) → AreWellElements es → Stops is_space (elements_spelled es after)
elements_begin no_elements after h = refl
elements_begin (first_element w gap es) after h = (begins w (gap ++ more_elements_spelled es after) h.0).0

more_begin : (es : MoreElements) (after : List ℕ) → Stops is_space (more_elements_spelled es after) × Stops is_numeric (more_elements_spelled es after)
more_begin end_elements after = (refl, refl)
more_begin (next_element before w gap es) after = (refl, refl)

entry_begins : (e : Entry) (after : List ℕ) → Stops is_space (entry_spelled e after) × (past 125 (entry_spelled e after) ≡ None)
entry_begins (entry name before gap w) after = (refl, refl)

entries_begin : (es : Entries) (after : List ℕ) → Stops is_space (entries_spelled es after)
entries_begin no_entries after = refl
entries_begin (first_entry e gap es) after = (entry_begins e (gap ++ more_entries_spelled es after)).0

more_entries_begin : (es : MoreEntries) (after : List ℕ) → Stops is_space (more_entries_spelled es after) × Stops is_numeric (more_entries_spelled es after)
more_entries_begin end_entries after = (refl, refl)
more_entries_begin (next_entry before e gap es) after = (refl, refl)

-- One part of a value, from those within it.

number_read : (E : Parse Elements) (M : Parse Entries) (s after : List ℕ) → IsNumber s → Stops is_numeric after → value_by E M (s ++ after) ≡ Some (number s, after)
number_read E M s after h stops =
    let run = number_passes s h in
    leads s (number_starts s h) ∙ rw (front_run is_numeric s after run stops, back_run is_numeric s after run stops, number_complete s h) refl
  where
    first : (x : ℕ) (xs : List ℕ) → (x ≡ 45) ⊎ IsDigit x → value_by E M (x ∷ xs) ≡ number_at (x ∷ xs)
    first x xs (inl e) = rw e refl
    first x xs (inr h) = rw (ne_eqb x 34 (omega arith), ne_eqb x 91 (omega arith), ne_eqb x 123 (omega arith), ne_eqb x 110 (omega arith), ne_eqb x 116 (omega arith), ne_eqb x 102 (omega arith)) refl

    leads : (s : List ℕ) → Starts s → value_by E M (s ++ after) ≡ number_at (s ++ after)
    leads [] k = absurd k
    leads (x ∷ xs) k = first x (xs ++ after) k

array_read : (d less : ℕ) (gap ys : List ℕ) (es : Elements) (after : List ℕ) → d ≡ suc less → IsGap gap → Stops is_space ys → elements_at (λ xs. value_at less xs) ys ≡ Some (es, after) → value_at d (91 ∷ (gap ++ ys)) ≡ Some (array gap es, after)
unfolding nested
array_read d less gap ys es after n h s e = rw (n, gap_is gap ys h s, past_gap_is gap ys h s, e) refl

object_read : (d less : ℕ) (gap ys : List ℕ) (es : Entries) (after : List ℕ) → d ≡ suc less → IsGap gap → Stops is_space ys → entries_at (λ xs. value_at less xs) ys ≡ Some (es, after) → value_at d (123 ∷ (gap ++ ys)) ≡ Some (object gap es, after)
unfolding nested
object_read d less gap ys es after n h s e = rw (n, gap_is gap ys h s, past_gap_is gap ys h s, e) refl

entry_read : (value : Parse Written) (name : List Piece) (before gap ys : List ℕ) (w : Written) (after : List ℕ) → IsString name → IsGap before → IsGap gap → Stops is_space ys → value ys ≡ Some (w, after) → entry_at value (34 ∷ pieces_spelled name (before ++ 58 ∷ (gap ++ ys))) ≡ Some (entry name before gap w, after)
entry_read value name before gap ys w after p b g s e =
    rw (string_complete name (before ++ 58 ∷ (gap ++ ys)) p, gap_is before (58 ∷ (gap ++ ys)) b refl, past_gap_is before (58 ∷ (gap ++ ys)) b refl, gap_is gap ys g s, past_gap_is gap ys g s, e) refl

-- A value, with depth to spare.

mutual
  pub complete : (w : Written) (d : ℕ) (after : List ℕ) → IsWell w → nesting w ≤ d → Stops is_numeric after → value_at d (spelled w after) ≡ Some (w, after)
  complete null d after h n s = refl
  complete (boolean true) d after h n s = refl
  complete (boolean false) d after h n s = refl
  complete (number digits) d after h n s = number_read (nested d).0 (nested d).1 digits after h s
  complete (text ps) d after h n s = rw (string_complete ps after h) refl
  complete (array gap es) d after h n s =
      array_read d (d - 1) gap (elements_spelled es after) es after (omega arith) h.0 (elements_begin es after h.1) (elements_complete es (d - 1) after h.1 (omega arith))
  complete (object gap es) d after h n s =
      object_read d (d - 1) gap (entries_spelled es after) es after (omega arith) h.0 (entries_begin es after) (entries_complete es (d - 1) after h.1 (omega arith))

  elements_complete : (es : Elements) (d : ℕ) (after : List ℕ) → AreWellElements es → elements_nesting es ≤ d → elements_at (λ xs. value_at d xs) (elements_spelled es after) ≡ Some (es, after)
  elements_complete no_elements d after h n = refl
  elements_complete (first_element w gap es) d after h n =
      let ys : List ℕ = more_elements_spelled es after in
      all_complete is_space 93 no_elements first_element end_elements next_element (λ xs. value_at d xs) (spelled w (gap ++ ys)) w gap ys es after
      (begins w (gap ++ ys) h.0).1 (complete w d (gap ++ ys) h.0 (omega arith) (gap_quiet gap ys h.1 (more_begin es after).1)) (gap_passes gap h.1) (more_begin es after).0
      (more_complete_elements es d (length ys) after h.2 (omega arith) (le_refl _))

  more_complete_elements : (es : MoreElements) (d count : ℕ) (after : List ℕ) → AreWellMore es → more_nesting es ≤ d → length (more_elements_spelled es after) ≤ count → more_elements_at (λ xs. value_at d xs) count (more_elements_spelled es after) ≡ Some (es, after)
  more_complete_elements end_elements d count after h n c = let some : count ≡ suc (count - 1) = omega arith in rw some refl
  more_complete_elements (next_element before w gap es) d count after h n c =
      let ys : List ℕ = more_elements_spelled es after in
      let lengths = longer w (gap ++ ys) in
      more_complete is_space 93 end_elements next_element (λ xs. value_at d xs) count (count - 1) before (spelled w (gap ++ ys)) w gap ys es after
      (omega arith) refl (gap_passes before h.0) (begins w (gap ++ ys) h.1).0 (complete w d (gap ++ ys) h.1 (omega arith) (gap_quiet gap ys h.2 (more_begin es after).1)) (gap_passes gap h.2) (more_begin es after).0
      (more_complete_elements es d (count - 1) after h.3 (omega arith) (omega (arith, lengths, length-append gap ys, length-append before (spelled w (gap ++ ys)))))

  entry_complete : (e : Entry) (d : ℕ) (after : List ℕ) → IsWellEntry e → entry_nesting e ≤ d → Stops is_numeric after → entry_at (λ xs. value_at d xs) (entry_spelled e after) ≡ Some (e, after)
  entry_complete (entry name before gap w) d after h n s =
      entry_read (λ xs. value_at d xs) name before gap (spelled w after) w after h.0 h.1 h.2 (begins w after h.3).0 (complete w d after h.3 n s)

  entries_complete : (es : Entries) (d : ℕ) (after : List ℕ) → AreWellEntries es → entries_nesting es ≤ d → entries_at (λ xs. value_at d xs) (entries_spelled es after) ≡ Some (es, after)
  entries_complete no_entries d after h n = refl
  entries_complete (first_entry e gap es) d after h n =
      let ys : List ℕ = more_entries_spelled es after in
      all_complete is_space 125 no_entries first_entry end_entries next_entry (λ xs. entry_at (λ zs. value_at d zs) xs) (entry_spelled e (gap ++ ys)) e gap ys es after
      (entry_begins e (gap ++ ys)).1 (entry_complete e d (gap ++ ys) h.0 (omega arith) (gap_quiet gap ys h.1 (more_entries_begin es after).1)) (gap_passes gap h.1) (more_entries_begin es after).0
      (more_entries_complete es d (length ys) after h.2 (omega arith) (le_refl _))

  more_entries_complete : (es : MoreEntries) (d count : ℕ) (after : List ℕ) → AreWellMoreEntries es → more_entries_nesting es ≤ d → length (more_entries_spelled es after) ≤ count → more_entries_at (λ xs. value_at d xs) count (more_entries_spelled es after) ≡ Some (es, after)
  more_entries_complete end_entries d count after h n c = let some : count ≡ suc (count - 1) = omega arith in rw some refl
  more_entries_complete (next_entry before e gap es) d count after h n c =
      let ys : List ℕ = more_entries_spelled es after in
      let lengths = entry_longer e (gap ++ ys) in
      more_complete is_space 125 end_entries next_entry (λ xs. entry_at (λ zs. value_at d zs) xs) count (count - 1) before (entry_spelled e (gap ++ ys)) e gap ys es after
      (omega arith) refl (gap_passes before h.0) (entry_begins e (gap ++ ys)).0 (entry_complete e d (gap ++ ys) h.1 (omega arith) (gap_quiet gap ys h.2 (more_entries_begin es after).1)) (gap_passes gap h.2) (more_entries_begin es after).0
      (more_entries_complete es d (count - 1) after h.3 (omega arith) (omega (arith, lengths, length-append gap ys, length-append before (entry_spelled e (gap ++ ys)))))
