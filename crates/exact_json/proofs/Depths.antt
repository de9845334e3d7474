-- The count of brackets is the nesting of what is written.
use Rattle.std.proofs.Common.{◌≡◌, ◌∙◌, refl, sym, ap, append-nil, ℕ, ◌+◌, ◌-◌, ◌<◌, max, nat_le, List, [], ◌∷◌, ◌++◌, Bool, true, false, cond, ◌||◌, ◌==◌, ne_eqb, arith}
use Rattle.std.proofs.Math.Bool.{or_assoc}
use Rattle.std.proofs.lemmas.Bool.Decides.{nat_tests}
use Rattle.json_strings.specs.Pieces.{Piece, byte, short, unit, IsHexDigit, ArePieces, pieces_spelled}
use Rattle.json_grammar.specs.Grammar.{Written, null, boolean, number, text, array, object, Elements, no_elements, first_element, MoreElements, end_elements, next_element, Entry, entry, Entries, no_entries, first_entry, MoreEntries, end_entries, next_entry, IsGap, IsWell, AreWellElements, AreWellMore, IsWellEntry, AreWellEntries, AreWellMoreEntries, IsWrittenAs, spelled, elements_spelled, more_elements_spelled, entry_spelled, entries_spelled, more_entries_spelled, nesting, elements_nesting, more_nesting, entry_nesting, entries_nesting, more_entries_nesting}
use Rattle.byte_parsing.specs.Words.{is_numeric}
use Rattle.json_grammar.specs.Reading.{is_space}
use Rattle.byte_parsing.specs.Parse.{Passes}
use Rattle.json_grammar.proofs.Gaps.{gap_passes}
use Rattle.json_grammar.proofs.Numbers.{number_passes}
use Rattle.exact_json.specs.Brackets.{outside, inside, is_too_deep}

-- Bytes that count nothing.

record IsQuiet (x : ℕ) : Type 0 where
  pub no_quote : (x == 34) ≡ false
  pub no_bracket : (x == 91) ≡ false
  pub no_brace : (x == 123) ≡ false
  pub no_bracket_end : (x == 93) ≡ false
  pub no_brace_end : (x == 125) ≡ false

numeric_quiet : (x : ℕ) → is_numeric x ≡ true → IsQuiet x
numeric_quiet x h = record { no_quote = grind (arith, nat_tests); no_bracket = grind (arith, nat_tests); no_brace = grind (arith, nat_tests); no_bracket_end = grind (arith, nat_tests); no_brace_end = grind (arith, nat_tests) }

space_quiet : (x : ℕ) → is_space x ≡ true → IsQuiet x
space_quiet x h = record { no_quote = grind (arith, nat_tests); no_bracket = grind (arith, nat_tests); no_brace = grind (arith, nat_tests); no_bracket_end = grind (arith, nat_tests); no_brace_end = grind (arith, nat_tests) }

skip : (p : ℕ → Bool) → ((x : ℕ) → p x ≡ true → IsQuiet x) → (xs after : List ℕ) (n : ℕ) → Passes p xs → outside (xs ++ after) n ≡ outside after n
skip p quiet [] after n h = refl
skip p quiet (x ∷ xs) after n h =
    let q = quiet x h.0 in
    rw (q.no_quote, q.no_bracket, q.no_brace, q.no_bracket_end, q.no_brace_end) (skip p quiet xs after n h.1)

skip_gap : (gap after : List ℕ) (n : ℕ) → IsGap gap → outside (gap ++ after) n ≡ outside after n
skip_gap gap after n h = skip is_space space_quiet gap after n (gap_passes gap h)

-- A quoted stretch counts nothing.

hex_apart : (x : ℕ) → IsHexDigit x → ((x == 34) ≡ false) × ((x == 92) ≡ false)
hex_apart x h = (grind (arith, nat_tests), grind (arith, nat_tests))

quoted : (ps : List Piece) (after : List ℕ) (n : ℕ) → ArePieces ps → inside (pieces_spelled ps after) n ≡ outside after n
quoted [] after n h = refl
quoted (byte x ∷ ps) after n h = rw (ne_eqb x 34 h.0.1, ne_eqb x 92 h.0.2) (quoted ps after n h.1)
quoted (short x ∷ ps) after n h = quoted ps after n h.1
quoted (unit a b c d ∷ ps) after n h =
    let p = hex_apart a h.0.0 in
    let q = hex_apart b h.0.1 in
    let r = hex_apart c h.0.2 in
    let s = hex_apart d h.0.3 in
    rw (p.0, p.1, q.0, q.1, r.0, r.1, s.0, s.1) (quoted ps after n h.1)

-- What nests.

none_above : (n : ℕ) → 0 < n → nat_le n 0 ≡ false
none_above n h = grind (arith, nat_tests)

-- the bracket that opens an array or object
opened : (n inner : ℕ) (xs after : List ℕ) → 0 < n → (0 < n - 1 → outside xs (n - 1) ≡ (nat_le (n - 1) inner || outside after (n - 1 + 1))) → cond (nat_le n 1) true (outside xs (n - 1)) ≡ (nat_le n (inner + 1) || outside after n)
opened n inner xs after h k = by (nat_le n 1) refl
  where
    by : (b : Bool) → nat_le n 1 ≡ b → cond b true (outside xs (n - 1)) ≡ (nat_le n (inner + 1) || outside after n)
    by true e = let enough : nat_le n (inner + 1) ≡ true = grind (arith, nat_tests) in rw enough refl
    by false e =
        let more : 0 < n - 1 = grind (arith, nat_tests) in
        let same : nat_le (n - 1) inner ≡ nat_le n (inner + 1) = grind (arith, nat_tests) in
        let back : n - 1 + 1 ≡ n = omega (arith, more) in
        k more ∙ rw (same, back) refl

-- one part after another
either : (n a b : ℕ) (rest : Bool) → (nat_le n a || (nat_le n b || rest)) ≡ (nat_le n (max a b) || rest)
either n a b rest = sym (or_assoc (nat_le n a) (nat_le n b) rest) ∙ ap (λ t. t || rest) (joined n a b)
  where
    joined : (n a b : ℕ) → (nat_le n a || nat_le n b) ≡ nat_le n (max a b)
    joined n a b = grind (arith, nat_tests)

mutual
  deep : (w : Written) (after : List ℕ) (n : ℕ) → IsWell w → 0 < n → outside (spelled w after) n ≡ (nat_le n (nesting w) || outside after n)
  deep null after n h p = rw (none_above n p) refl
  deep (boolean true) after n h p = rw (none_above n p) refl
  deep (boolean false) after n h p = rw (none_above n p) refl
  deep (number s) after n h p = rw (none_above n p) (skip is_numeric numeric_quiet s after n (number_passes s h))
  deep (text ps) after n h p = rw (none_above n p) (quoted ps after n h.0)
  deep (array gap es) after n h p = opened n (elements_nesting es) (gap ++ elements_spelled es after) after p (λ q. skip_gap gap (elements_spelled es after) (n - 1) h.0 ∙ elements_deep es after (n - 1) h.1 q)
  deep (object gap es) after n h p = opened n (entries_nesting es) (gap ++ entries_spelled es after) after p (λ q. skip_gap gap (entries_spelled es after) (n - 1) h.0 ∙ entries_deep es after (n - 1) h.1 q)

  elements_deep : (es : Elements) (after : List ℕ) (n : ℕ) → AreWellElements es → 0 < n → outside (elements_spelled es after) n ≡ (nat_le n (elements_nesting es) || outside after (n + 1))
  elements_deep no_elements after n h p = rw (none_above n p) refl
  elements_deep (first_element w gap es) after n h p =
      deep w (gap ++ more_elements_spelled es after) n h.0 p
      ∙ ap (λ t. nat_le n (nesting w) || t) (skip_gap gap (more_elements_spelled es after) n h.1 ∙ more_deep es after n h.2 p)
      ∙ either n (nesting w) (more_nesting es) (outside after (n + 1))

  more_deep : (es : MoreElements) (after : List ℕ) (n : ℕ) → AreWellMore es → 0 < n → outside (more_elements_spelled es after) n ≡ (nat_le n (more_nesting es) || outside after (n + 1))
  more_deep end_elements after n h p = rw (none_above n p) refl
  more_deep (next_element before w gap es) after n h p =
      skip_gap before (spelled w (gap ++ more_elements_spelled es after)) n h.0
      ∙ deep w (gap ++ more_elements_spelled es after) n h.1 p
      ∙ ap (λ t. nat_le n (nesting w) || t) (skip_gap gap (more_elements_spelled es after) n h.2 ∙ more_deep es after n h.3 p)
      ∙ either n (nesting w) (more_nesting es) (outside after (n + 1))

  entry_deep : (e : Entry) (after : List ℕ) (n : ℕ) → IsWellEntry e → 0 < n → outside (entry_spelled e after) n ≡ (nat_le n (entry_nesting e) || outside after n)
  entry_deep (entry name before gap w) after n h p =
      quoted name (before ++ 58 ∷ (gap ++ spelled w after)) n h.0.0
      ∙ skip_gap before (58 ∷ (gap ++ spelled w after)) n h.1
      ∙ skip_gap gap (spelled w after) n h.2
      ∙ deep w after n h.3 p

  entries_deep : (es : Entries) (after : List ℕ) (n : ℕ) → AreWellEntries es → 0 < n → outside (entries_spelled es after) n ≡ (nat_le n (entries_nesting es) || outside after (n + 1))
  entries_deep no_entries after n h p = rw (none_above n p) refl
  entries_deep (first_entry e gap es) after n h p =
      entry_deep e (gap ++ more_entries_spelled es after) n h.0 p
      ∙ ap (λ t. nat_le n (entry_nesting e) || t) (skip_gap gap (more_entries_spelled es after) n h.1 ∙ more_entries_deep es after n h.2 p)
      ∙ either n (entry_nesting e) (more_entries_nesting es) (outside after (n + 1))

  more_entries_deep : (es : MoreEntries) (after : List ℕ) (n : ℕ) → AreWellMoreEntries es → 0 < n → outside (more_entries_spelled es after) n ≡ (nat_le n (more_entries_nesting es) || outside after (n + 1))
  more_entries_deep end_entries after n h p = rw (none_above n p) refl
  more_entries_deep (next_entry before e gap es) after n h p =
      skip_gap before (entry_spelled e (gap ++ more_entries_spelled es after)) n h.0
      ∙ entry_deep e (gap ++ more_entries_spelled es after) n h.1 p
      ∙ ap (λ t. nat_le n (entry_nesting e) || t) (skip_gap gap (more_entries_spelled es after) n h.2 ∙ more_entries_deep es after n h.3 p)
      ∙ either n (entry_nesting e) (more_entries_nesting es) (outside after (n + 1))

gap_shallow : (gap : List ℕ) (n : ℕ) → IsGap gap → outside gap n ≡ false
gap_shallow gap n h = ap (λ xs. outside xs n) (sym (append-nil gap)) ∙ skip_gap gap [] n h

or_none : (b : Bool) → (b || false) ≡ b
or_none true = refl
or_none false = refl

-- a line of JSON is too deep just where its value is
pub line_deep : (line : List ℕ) (w : Written) → IsWrittenAs line w → is_too_deep line ≡ nat_le 65 (nesting w)
line_deep line w h =
    ap (λ xs. outside xs 65) h.bytes
    ∙ skip_gap h.before (spelled w h.after) 65 h.is_gap
    ∙ deep w h.after 65 h.is_well (omega arith)
    ∙ ap (λ t. nat_le 65 (nesting w) || t) (gap_shallow h.after 65 h.is_gap_after)
    ∙ or_none (nat_le 65 (nesting w))
