-- What is spelled of a term is read.
use Rattle.std.proofs.Common.{◌≡◌, ◌∙◌, ◌⊎◌, inl, inr, refl, ℕ, ◌≤◌, List, [], ◌∷◌, ◌++◌, true, false, Some, None, length, length-append, arith, ne_eqb}
use Rattle.exact_num.specs.Decimal.{Decimal, IsNumber}
use Rattle.exact_num.specs.Reading.{IsRead}
use Rattle.exact_num.specs.Spelling.{IsDigit}
use Rattle.exact_num.proofs.Readings.{read_exactly}
use Rattle.json_strings.proofs.Strings.{string_complete}
use Rattle.byte_parsing.specs.Parse.{past, Stops}
use Rattle.byte_parsing.specs.Words.{is_numeric, is_space, AreSpaces}
use Rattle.byte_parsing.proofs.Runs.{front_run, back_run}
use Rattle.byte_parsing.proofs.Words.{gap_is, past_gap_is, word_end_is}
use Rattle.json_grammar.proofs.Numbers.{Starts, number_passes, number_starts}
use Rattle.query_tree.specs.declared.filter.Relation.{Relation}
use Rattle.query_tree.specs.declared.filter.Relation.TheVariants.{Equal, NotEqual, Less, AtMost, Greater, AtLeast}
use Rattle.path_parsing.specs.Grammar.{PathSyntax}
use Rattle.path_parsing.specs.Reading.{begins_step}
use Rattle.filter_parsing.specs.Grammar.{LiteralSyntax, null_word, truth_word, digits, string, TestSyntax, exists_word, missing_word, related, tested, relation_text, literal_bytes, test_bytes, filter_bytes, IsWellLiteral, IsWellTest, IsWell}
use Rattle.filter_parsing.specs.Reading.{relation_at, number_at, literal_at, related_at, test_at, term_at}
use Rattle.filter_parsing.proofs.Numbers.{text_number}
use Rattle.path_parsing.proofs.Complete.{path_complete}
use Rattle.path_parsing.proofs.Lengths.{pieces_length}

-- The bytes with which the parts begin.

-- no space, and no `=` that would go on a relation
record BeginsLiteral (xs : List ℕ) : Type 0 where
  filled : Stops is_space xs
  other : past 61 xs ≡ None

number_first : (s after : List ℕ) → Starts s → BeginsLiteral (s ++ after)
number_first [] after k = absurd k
number_first (x ∷ xs) after (inl e) = rw e (record { filled = refl; other = refl })
number_first (x ∷ xs) after (inr h) = record { filled = ne_eqb x 32 (omega (arith, h.0)); other = rw (ne_eqb x 61 (omega (arith, h.1))) refl }

literal_begins : (l : LiteralSyntax) (after : List ℕ) → IsWellLiteral l after → BeginsLiteral (literal_bytes l after)
literal_begins null_word after h = record { filled = refl; other = refl }
literal_begins (truth_word true) after h = record { filled = refl; other = refl }
literal_begins (truth_word false) after h = record { filled = refl; other = refl }
literal_begins (digits s d) after h = number_first s after (number_starts s (text_number s d h.1))
literal_begins (string ps) after h = record { filled = refl; other = refl }

test_begins : (t : TestSyntax) (after : List ℕ) → Stops is_space (test_bytes t after) × (begins_step (test_bytes t after) ≡ false)
test_begins exists_word after = (refl, refl)
test_begins missing_word after = (refl, refl)
test_begins (related Equal gap l) after = (refl, refl)
test_begins (related NotEqual gap l) after = (refl, refl)
test_begins (related Less gap l) after = (refl, refl)
test_begins (related AtMost gap l) after = (refl, refl)
test_begins (related Greater gap l) after = (refl, refl)
test_begins (related AtLeast gap l) after = (refl, refl)

-- spaces begin neither a step nor an `=`
gap_no_step : (gap rest : List ℕ) → AreSpaces gap → begins_step rest ≡ false → begins_step (gap ++ rest) ≡ false
gap_no_step [] rest h e = e
gap_no_step (x ∷ gap) rest h e = rw h.0 refl

gap_no_equal : (gap rest : List ℕ) → AreSpaces gap → past 61 rest ≡ None → past 61 (gap ++ rest) ≡ None
gap_no_equal [] rest h e = e
gap_no_equal (x ∷ gap) rest h e = rw h.0 refl

-- Tests and terms.

relation_read : (r : Relation) (rest : List ℕ) → past 61 rest ≡ None → relation_at (relation_text r ++ rest) ≡ Some (r, rest)
unfolding relation_at
relation_read Equal rest e = refl
relation_read NotEqual rest e = refl
relation_read Less rest e = rw e refl
relation_read AtMost rest e = refl
relation_read Greater rest e = rw e refl
relation_read AtLeast rest e = refl

number_read : (s : List ℕ) (d : Decimal) (after : List ℕ) → IsNumber d → IsRead s d → Stops is_numeric after → literal_at (s ++ after) ≡ Some (digits s d, after)
unfolding literal_at
number_read s d after n h stops =
    let run = number_passes s (text_number s d h) in
    leads s (number_starts s (text_number s d h)) ∙ rw (front_run is_numeric s after run stops, back_run is_numeric s after run stops, read_exactly s d n h) refl
  where
    first : (x : ℕ) (xs : List ℕ) → (x ≡ 45) ⊎ IsDigit x → literal_at (x ∷ xs) ≡ number_at (x ∷ xs)
    first x xs (inl e) = rw e refl
    first x xs (inr k) = rw (ne_eqb x 34 (omega arith), ne_eqb x 110 (omega arith), ne_eqb x 116 (omega arith), ne_eqb x 102 (omega arith)) refl

    leads : (s : List ℕ) → Starts s → literal_at (s ++ after) ≡ number_at (s ++ after)
    leads [] k = absurd k
    leads (x ∷ xs) k = first x (xs ++ after) k

literal_read : (l : LiteralSyntax) (after : List ℕ) → IsWellLiteral l after → Stops is_numeric after → literal_at (literal_bytes l after) ≡ Some (l, after)
unfolding literal_at
literal_read null_word after h stops = rw (word_end_is after h) refl
literal_read (truth_word true) after h stops = rw (word_end_is after h) refl
literal_read (truth_word false) after h stops = rw (word_end_is after h) refl
literal_read (digits s d) after h stops = number_read s d after h.0 h.1 stops
literal_read (string ps) after h stops = rw (string_complete ps after h.0, h.1) refl

test_read : (t : TestSyntax) (after : List ℕ) → IsWellTest t after → Stops is_numeric after → test_at (test_bytes t after) ≡ Some (t, after)
unfolding test_at
test_read exists_word after h stops = rw (word_end_is after h) refl
test_read missing_word after h stops = rw (word_end_is after h) refl
test_read (related r gap l) after h stops =
    let start = literal_begins l after h.1 in
    leads r (gap ++ literal_bytes l after)
    ∙ rw (relation_read r (gap ++ literal_bytes l after) (gap_no_equal gap (literal_bytes l after) h.0 start.other), gap_is gap (literal_bytes l after) h.0 start.filled, past_gap_is gap (literal_bytes l after) h.0 start.filled, literal_read l after h.1 stops) refl
  where
    leads : (r : Relation) (rest : List ℕ) → test_at (relation_text r ++ rest) ≡ related_at (relation_text r ++ rest)
    leads Equal rest = refl
    leads NotEqual rest = refl
    leads Less rest = refl
    leads AtMost rest = refl
    leads Greater rest = refl
    leads AtLeast rest = refl

pub term_read : (path : PathSyntax) (gap : List ℕ) (t : TestSyntax) (after : List ℕ) → IsWell (tested path gap t) after → Stops is_numeric after → term_at (filter_bytes (tested path gap t) after) ≡ Some (tested path gap t, after)
unfolding term_at
term_read path gap t after h stops =
    let start = test_begins t after in
    rw (path_complete path (gap ++ test_bytes t after) h.0 (gap_no_step gap (test_bytes t after) h.1 start.1), gap_is gap (test_bytes t after) h.1 start.0, past_gap_is gap (test_bytes t after) h.1 start.0, test_read t after h.2 stops) refl

-- The bytes after a test are no more than with it.

literal_longer : (l : LiteralSyntax) (after : List ℕ) → length after ≤ length (literal_bytes l after)
literal_longer null_word after = omega arith
literal_longer (truth_word true) after = omega arith
literal_longer (truth_word false) after = omega arith
literal_longer (digits s d) after = omega (arith, length-append s after)
literal_longer (string ps) after = omega (arith, pieces_length ps after)

pub test_longer : (t : TestSyntax) (after : List ℕ) → length after ≤ length (test_bytes t after)
test_longer exists_word after = omega arith
test_longer missing_word after = omega arith
test_longer (related r gap l) after =
    omega (arith, length-append (relation_text r) (gap ++ literal_bytes l after), length-append gap (literal_bytes l after), literal_longer l after)
