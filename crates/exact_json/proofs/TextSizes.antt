-- The canonical text of what a derivation means is at most ten times the bytes that it spells.
use Rattle.std.proofs.Common.{◌≡◌, refl, ap, ℕ, ◌+◌, ◌*◌, ◌/◌, ◌%◌, ◌≤◌, ◌==◌, nat_lt, List, [], ◌∷◌, ◌++◌, Bool, true, false, cond, Option, Some, None, length, length-append, map, flat_map, arith}
use Rattle.std.specs.Char.{encode_utf8}
use Rattle.std.specs.Char.Utf16.{is_high_surrogate, is_low_surrogate, surrogate_pair_char}
use Rattle.std.specs.Cmp.Lexicographic.{slice_cmp}
use Rattle.std.specs.Ordering.{nat_cmp, is_lt}
use Rattle.std.proofs.lemmas.Str.{length-encode, len_utf8_bounds}
use Rattle.vs_bytes.specs.Names.{repeats}
use Rattle.exact_num.specs.Decimal.{Decimal}
use Rattle.exact_num.specs.Spelling as parts
use Rattle.json_strings.specs.Pieces.{Piece, byte, short, unit, pieces_spelled}
use Rattle.json_strings.specs.Meaning as strings
use Rattle.json_strings.specs.Meaning.{text_after, unit_of, high_of, pair_text, unit_text}
use Rattle.json_grammar.specs.Grammar as written
use Rattle.json_grammar.specs.Grammar.{Written, Elements, no_elements, first_element, MoreElements, end_elements, next_element, Entry, entry, Entries, no_entries, first_entry, MoreEntries, end_entries, next_entry, IsNumber, IsWell, AreWellElements, AreWellMore, IsWellEntry, AreWellEntries, AreWellMoreEntries, spelled, elements_spelled, more_elements_spelled, entry_spelled, entries_spelled, more_entries_spelled}
use Rattle.json_tree.specs.Json.{Json, null, object, Fields, no_fields, field, fields_of}
use Rattle.json_tree.specs.Order.{inserted, sorted}
use Rattle.json_tree.specs.Text.{escaped, hex_digit, quoted, text_of, parts_text, more_parts, fields_text, more_fields}
use Rattle.exact_json.specs.Meaning.{Denotes, Spells, tree_of, number_of, number_or_null, object_or_null, parts_in, more_parts_in, pair_in, pairs_in, more_pairs_in}
use Rattle.exact_json.proofs.NumberSizes.{number_tenfold, whole_digits, spelled_length}

-- Strings.

escaped_short : (x : ℕ) → length (escaped x) ≤ 6
unfolding escaped
escaped_short x = by (x == 34) (x == 92) (x == 8) (x == 9) (x == 10) (x == 12) (x == 13) (nat_lt x 32)
  where
    by : (a b c d e f g h : Bool) → length (
        cond a (92 ∷ (34 ∷ []))
        (cond b (92 ∷ (92 ∷ []))
        (cond c (92 ∷ (98 ∷ []))
        (cond d (92 ∷ (116 ∷ []))
        (cond e (92 ∷ (110 ∷ []))
        (cond f (92 ∷ (102 ∷ []))
        (cond g (92 ∷ (114 ∷ []))
        (cond h (92 ∷ (117 ∷ (48 ∷ (48 ∷ (hex_digit (x / 16) ∷ (hex_digit (x % 16) ∷ []))))))
        (x ∷ []))))))))) ≤ 6
    by true b c d e f g h = omega arith
    by false true c d e f g h = omega arith
    by false false true d e f g h = omega arith
    by false false false true e f g h = omega arith
    by false false false false true f g h = omega arith
    by false false false false false true g h = omega arith
    by false false false false false false true h = omega arith
    by false false false false false false false true = omega arith
    by false false false false false false false false = omega arith

content_short : (s : List ℕ) → length (flat_map escaped s) ≤ 6 * length s
content_short [] = omega arith
content_short (x ∷ s) = omega (arith, length-append (escaped x) (flat_map escaped s), escaped_short x, content_short s)

quoted_short : (s : List ℕ) → length (quoted s) ≤ 6 * length s + 2
quoted_short s = omega (arith, length-append (flat_map escaped s) (34 ∷ []), content_short s)

encoded_short : (c : ℕ) → length (encode_utf8 c) ≤ 4
encoded_short c = omega (arith, length-encode c, (len_utf8_bounds c).1)

pair_short : (high : Option ℕ) (low : ℕ) → length (pair_text high low) ≤ 4
pair_short None low = omega arith
pair_short (Some high) low = encoded_short (surrogate_pair_char high low)

unit_short : (high : Option ℕ) (u : ℕ) → length (unit_text high u) ≤ 4
unfolding unit_text
unit_short high u = by (is_high_surrogate u) (is_low_surrogate u)
  where
    by : (a b : Bool) → length (cond a [] (cond b (pair_text high u) (encode_utf8 u))) ≤ 4
    by true b = omega arith
    by false true = pair_short high u
    by false false = encoded_short u

pieces_tenfold : (ps : List Piece) (after : List ℕ) (high : Option ℕ) → 6 * length (text_after high ps) + (10 + 10 * length after) ≤ 10 * length (pieces_spelled ps after)
pieces_tenfold [] after high = omega arith
pieces_tenfold (byte x ∷ ps) after high = omega (arith, pieces_tenfold ps after None)
pieces_tenfold (short x ∷ ps) after high = omega (arith, pieces_tenfold ps after None)
pieces_tenfold (unit a b c d ∷ ps) after high =
    omega (arith, length-append (unit_text high (unit_of a b c d)) (text_after (high_of (unit_of a b c d)) ps), unit_short high (unit_of a b c d), pieces_tenfold ps after (high_of (unit_of a b c d)))

string_tenfold : (ps : List Piece) (after : List ℕ) → length (quoted (strings.text_of ps)) + 10 * length after ≤ 10 * length (34 ∷ pieces_spelled ps after)
string_tenfold ps after = omega (arith, quoted_short (strings.text_of ps), pieces_tenfold ps after None)

-- Numbers.

number_some : (s : List ℕ) → (w : parts.Written) → parts.IsSpelling s w → 1 ≤ length s
number_some s w h = omega (arith, ap length h.bytes, spelled_length w, (whole_digits w.whole h.is_whole).0)

number_short : (s : List ℕ) → IsNumber s → length (text_of (number_or_null (number_of s))) ≤ 10 * length s
number_short s h = by (number_of s) refl
  where
    by : (o : Option Decimal) → number_of s ≡ o → length (text_of (number_or_null o)) ≤ 10 * length s
    by None e = omega (arith, number_some s h.parts h.is_spelling)
    by (Some d) e = number_tenfold s h.parts d h.is_spelling e

-- Members, each with a comma before it: in order they are as long as before.

abbrev size_of : List (List ℕ × Json) → ℕ
size_of ms = length (more_fields (fields_of ms))

abbrev member_size : List ℕ × Json → ℕ
member_size m = 2 + (length (quoted m.0) + length (text_of m.1))

size_more : (m : List ℕ × Json) (ms : List (List ℕ × Json)) → size_of (m ∷ ms) ≡ member_size m + size_of ms
size_more m ms = omega (arith, length-append (quoted m.0) (58 ∷ (text_of m.1 ++ more_fields (fields_of ms))), length-append (text_of m.1) (more_fields (fields_of ms)))

inserted_size : (m : List ℕ × Json) (ms : List (List ℕ × Json)) → size_of (inserted m ms) ≡ member_size m + size_of ms
inserted_size m [] = size_more m []
inserted_size m (other ∷ ms) = by (is_lt (slice_cmp nat_cmp m.0 other.0)) (inserted_size m ms)
  where
    by : (b : Bool) → size_of (inserted m ms) ≡ member_size m + size_of ms → size_of (cond b (m ∷ (other ∷ ms)) (other ∷ inserted m ms)) ≡ member_size m + size_of (other ∷ ms)
    by true e = size_more m (other ∷ ms)
    by false e = omega (arith, size_more other (inserted m ms), e, size_more other ms)

sorted_size : (ms : List (List ℕ × Json)) → size_of (sorted ms) ≡ size_of ms
sorted_size [] = refl
sorted_size (m ∷ ms) = omega (arith, inserted_size m (sorted ms), sorted_size ms, size_more m ms)

no_comma : (fs : Fields) → length (fields_text fs) ≤ length (more_fields fs)
no_comma no_fields = omega arith
no_comma (field name j fs) = omega arith

object_short : (ms : List (List ℕ × Json)) → length (text_of (object_or_null ms)) ≤ size_of ms + 4
object_short ms = by (repeats (map (λ m. m.0) ms))
  where
    by : (b : Bool) → length (text_of (cond b null (object (fields_of (sorted ms))))) ≤ size_of ms + 4
    by true = omega arith
    by false = omega (arith, length-append (fields_text (fields_of (sorted ms))) (125 ∷ []), no_comma (fields_of (sorted ms)), sorted_size ms)

-- Derivations.

mutual
  pub tenfold : (w : Written) (after : List ℕ) → IsWell w → length (text_of (tree_of w)) + 10 * length after ≤ 10 * length (spelled w after)
  tenfold written.null after h = omega arith
  tenfold (written.boolean true) after h = omega arith
  tenfold (written.boolean false) after h = omega arith
  tenfold (written.number s) after h = omega (arith, number_short s h, length-append s after)
  tenfold (written.text ps) after h = string_tenfold ps after
  tenfold (written.array gap es) after h =
      omega (arith, length-append (parts_text (parts_in es)) (93 ∷ []), length-append gap (elements_spelled es after), elements_tenfold es after h.1)
  tenfold (written.object gap es) after h = omega (arith, object_short (pairs_in es), length-append gap (entries_spelled es after), entries_tenfold es after h.1)

  elements_tenfold : (es : Elements) (after : List ℕ) → AreWellElements es → length (parts_text (parts_in es)) + (10 + 10 * length after) ≤ 10 * length (elements_spelled es after)
  elements_tenfold no_elements after h = omega arith
  elements_tenfold (first_element w gap es) after h =
      omega (arith, length-append (text_of (tree_of w)) (more_parts (more_parts_in es)), length-append gap (more_elements_spelled es after), tenfold w (gap ++ more_elements_spelled es after) h.0, more_tenfold es after h.2)

  more_tenfold : (es : MoreElements) (after : List ℕ) → AreWellMore es → length (more_parts (more_parts_in es)) + (10 + 10 * length after) ≤ 10 * length (more_elements_spelled es after)
  more_tenfold end_elements after h = omega arith
  more_tenfold (next_element before w gap es) after h =
      omega (
        arith,
        length-append (text_of (tree_of w)) (more_parts (more_parts_in es)),
        length-append before (spelled w (gap ++ more_elements_spelled es after)),
        length-append gap (more_elements_spelled es after),
        tenfold w (gap ++ more_elements_spelled es after) h.1,
        more_tenfold es after h.3,
      )

  entry_tenfold : (e : Entry) (after : List ℕ) → IsWellEntry e → member_size (pair_in e) + 10 * length after ≤ 10 * length (entry_spelled e after)
  entry_tenfold (entry name before gap w) after h =
      omega (
        arith,
        string_tenfold name (before ++ 58 ∷ (gap ++ spelled w after)),
        length-append before (58 ∷ (gap ++ spelled w after)),
        length-append gap (spelled w after),
        tenfold w after h.3,
      )

  entries_tenfold : (es : Entries) (after : List ℕ) → AreWellEntries es → size_of (pairs_in es) + (9 + 10 * length after) ≤ 10 * length (entries_spelled es after)
  entries_tenfold no_entries after h = omega arith
  entries_tenfold (first_entry e gap es) after h =
      omega (
        arith,
        size_more (pair_in e) (more_pairs_in es),
        length-append gap (more_entries_spelled es after),
        entry_tenfold e (gap ++ more_entries_spelled es after) h.0,
        more_entries_tenfold es after h.2,
      )

  more_entries_tenfold : (es : MoreEntries) (after : List ℕ) → AreWellMoreEntries es → size_of (more_pairs_in es) + (10 + 10 * length after) ≤ 10 * length (more_entries_spelled es after)
  more_entries_tenfold end_entries after h = omega arith
  more_entries_tenfold (next_entry before e gap es) after h =
      omega (
        arith,
        size_more (pair_in e) (more_pairs_in es),
        length-append before (entry_spelled e (gap ++ more_entries_spelled es after)),
        length-append gap (more_entries_spelled es after),
        entry_tenfold e (gap ++ more_entries_spelled es after) h.1,
        more_entries_tenfold es after h.3,
      )

pub denoted_tenfold : (bytes : List ℕ) (json : Json) → Denotes bytes json → length (text_of json) ≤ 10 * length bytes
denoted_tenfold bytes json d =
    let w = d.is_written in
    omega (
      arith,
      ap (λ j. length (text_of j)) d.value,
      ap length w.bytes,
      length-append w.before (spelled d.way w.after),
      tenfold d.way w.after w.is_well,
    )

pub spelled_denotes : (line : List ℕ) (json : Json) → Spells line json → Denotes line json
spelled_denotes line json s = record { way = s.is_json.way; is_written = s.is_json.is_written; is_flawless = s.is_flawless; value = s.value }
