-- The value of a line: its numbers, texts and names, their order and its depth.
use Rattle.std.proofs.Common.{◌≡◌, ◌∙◌, refl, sym, ap, subst, ℕ, ◌+◌, ◌^◌, ◌%◌, ◌<◌, ◌≤◌, max, nat_lt, nat_le, ◌&&◌, List, [], ◌∷◌, map, Bool, true, false, cond, Option, Some, None, ok_or, Ok, Err, Result, IfOk, unsigned_abs, arith}
use Rattle.std.specs.Str.{is_utf8}
use Rattle.std.specs.Cmp.Lexicographic.{slice_cmp}
use Rattle.std.specs.Ordering.{nat_cmp, is_lt}
use Rattle.std.specs.Result.{result_ok}
use Rattle.std.proofs.lemmas.Bool.{and_parts}
use Rattle.std.proofs.lemmas.Bool.Decides.{nat_tests}
use Rattle.vs_bytes.specs.Names.{repeats}
use Rattle.exact_num.specs.Decimal.{Decimal, IsNumber, shortened, least, numbered}
use Rattle.exact_num.specs.Parsing.{parsed}
use Rattle.exact_num.specs.Reading as numbers
use Rattle.exact_num.specs.Reading.{read_from, read_of}
use Rattle.exact_num.specs.Spelling as parts
use Rattle.exact_num.specs.declared.fault.NumFault.TheVariants.{TooWide}
use Rattle.exact_num.proofs.Shortening.{shortened_is}
use Rattle.exact_num.proofs.Signs.{signed_abs}
use Rattle.json_grammar.specs.Grammar as written
use Rattle.json_grammar.specs.Grammar.{Written, Elements, no_elements, first_element, MoreElements, end_elements, next_element, Entry, entry, Entries, no_entries, first_entry, MoreEntries, end_entries, next_entry, IsWell, AreWellElements, AreWellMore, IsWellEntry, AreWellEntries, AreWellMoreEntries, nesting, elements_nesting, more_nesting, entry_nesting, entries_nesting, more_entries_nesting}
use Rattle.json_tree.specs.Json.{Json, null, object, depth_of, parts_depth, fields_depth, fields_of}
use Rattle.json_tree.specs.Order.{inserted, sorted}
use Rattle.json_tree.specs.Text.{text_of}
use Rattle.json_tree.specs.Order.{IsOrdered}
use Rattle.json_tree.specs.Valid.{IsValid, AreValid, HoldValid}
use Rattle.json_tree.proofs.ValidParts.{members_valid, valid_ordered}
use Rattle.exact_json.specs.Document.{IsLineValue, IsDocument}
use Rattle.exact_json.specs.Meaning.{Spells, Denotes, Answers, tree_of, number_of, number_or_null, object_or_null, parts_in, more_parts_in, pair_in, pairs_in, more_pairs_in}
use Rattle.exact_json.specs.declared.fault.DocFault.{DocFault}
use Rattle.exact_json.proofs.Depths.{line_deep}

-- a number that is read is admitted, and in least scale

admitted : (minus : Bool) (n places : ℕ) (d : Decimal) → numbered minus n places ≡ Some d → IsNumber d
admitted minus n places d e = by (nat_lt (shortened n places).0 (10 ^ 38) && nat_le (shortened n places).1 38) refl e
  where
    by : (b : Bool) → (nat_lt (shortened n places).0 (10 ^ 38) && nat_le (shortened n places).1 38) ≡ b → cond b (Some (least minus n places)) None ≡ Some d → IsNumber d
    by false f g = cc
    by true f g =
        let same : least minus n places ≡ d = cc in
        let both = and_parts (nat_lt (shortened n places).0 (10 ^ 38)) (nat_le (shortened n places).1 38) f in
        let known = shortened_is n places in
        let size : unsigned_abs (least minus n places).unscaled ≡ (shortened n places).0 = signed_abs minus (shortened n places).0 in
        let small : (shortened n places).0 < 10 ^ 38 = let test = both.0 in grind (arith, nat_tests) in
        let few : (shortened n places).1 ≤ 38 = let test = both.1 in grind (arith, nat_tests) in
        subst IsNumber same (record {
          size = subst (λ (m : ℕ). m < 10 ^ 38) (sym size) small;
          places = few;
          least = λ z. known.lean (ap (λ (m : ℕ). m % 10) (sym size) ∙ z);
        })

read_admitted : (s : List ℕ) (d : Decimal) → number_of s ≡ Some d → IsNumber d
unfolding numbers.number_of
read_admitted s d e = by (parsed s) e
  where
    some : (w : parts.Written) (o : Option Decimal) → numbers.number_of w ≡ o → result_ok (ok_or o TooWide) ≡ Some d → IsNumber d
    some w None f g = cc
    some w (Some x) f g = let same : x ≡ d = cc in admitted _ _ _ d (f ∙ ap Some same)

    by : (o : Option parts.Written) → result_ok (read_from o) ≡ Some d → IsNumber d
    by None f = cc
    by (Some w) f = some w (numbers.number_of w) refl f

number_valid : (s : List ℕ) → IsValid (number_or_null (number_of s))
number_valid s = by (number_of s) refl
  where
    by : (o : Option Decimal) → number_of s ≡ o → IsValid (number_or_null o)
    by None e = tt
    by (Some d) e = read_admitted s d e

-- members in order nest no deeper

inserted_depth : (m : List ℕ × Json) (ms : List (List ℕ × Json)) → fields_depth (fields_of (inserted m ms)) ≤ max (depth_of m.1) (fields_depth (fields_of ms))
inserted_depth m [] = omega arith
inserted_depth m (other ∷ ms) = by (is_lt (slice_cmp nat_cmp m.0 other.0)) (inserted_depth m ms)
  where
    by : (b : Bool) → fields_depth (fields_of (inserted m ms)) ≤ max (depth_of m.1) (fields_depth (fields_of ms)) → fields_depth (fields_of (cond b (m ∷ (other ∷ ms)) (other ∷ inserted m ms))) ≤ max (depth_of m.1) (max (depth_of other.1) (fields_depth (fields_of ms)))
    by true rest = omega arith
    by false rest = omega (arith, rest)

sorted_depth : (ms : List (List ℕ × Json)) → fields_depth (fields_of (sorted ms)) ≤ fields_depth (fields_of ms)
sorted_depth [] = omega arith
sorted_depth (m ∷ ms) = omega (arith, inserted_depth m (sorted ms), sorted_depth ms)

object_valid : (ms : List (List ℕ × Json)) → HoldValid (fields_of ms) → IsValid (object_or_null ms)
object_valid ms h = by (repeats (map (λ m. m.0) ms)) refl
  where
    by : (b : Bool) → repeats (map (λ m. m.0) ms) ≡ b → IsValid (cond b null (object (fields_of (sorted ms))))
    by true e = tt
    by false e = members_valid ms e h

object_depth : (ms : List (List ℕ × Json)) → depth_of (object_or_null ms) ≤ fields_depth (fields_of ms) + 1
object_depth ms = by (repeats (map (λ m. m.0) ms))
  where
    by : (b : Bool) → depth_of (cond b null (object (fields_of (sorted ms)))) ≤ fields_depth (fields_of ms) + 1
    by true = omega arith
    by false = omega (arith, sorted_depth ms)

number_depth : (o : Option Decimal) → depth_of (number_or_null o) ≤ 0
number_depth None = omega arith
number_depth (Some d) = omega arith

mutual
  pub valid : (w : Written) → IsWell w → IsValid (tree_of w)
  valid written.null h = tt
  valid (written.boolean b) h = tt
  valid (written.number s) h = number_valid s
  valid (written.text ps) h = h.1
  valid (written.array gap es) h = elements_valid es h.1
  valid (written.object gap es) h = object_valid (pairs_in es) (entries_valid es h.1)

  elements_valid : (es : Elements) → AreWellElements es → AreValid (parts_in es)
  elements_valid no_elements h = tt
  elements_valid (first_element w gap es) h = (valid w h.0, more_valid es h.2)

  more_valid : (es : MoreElements) → AreWellMore es → AreValid (more_parts_in es)
  more_valid end_elements h = tt
  more_valid (next_element before w gap es) h = (valid w h.1, more_valid es h.3)

  entry_valid : (e : Entry) → IsWellEntry e → (is_utf8 (pair_in e).0 ≡ true) × IsValid (pair_in e).1
  entry_valid (entry name before gap w) h = (h.0.1, valid w h.3)

  entries_valid : (es : Entries) → AreWellEntries es → HoldValid (fields_of (pairs_in es))
  entries_valid no_entries h = tt
  entries_valid (first_entry e gap es) h = let first = entry_valid e h.0 in (first.0, first.1, more_entries_valid es h.2)

  more_entries_valid : (es : MoreEntries) → AreWellMoreEntries es → HoldValid (fields_of (more_pairs_in es))
  more_entries_valid end_entries h = tt
  more_entries_valid (next_entry before e gap es) h = let first = entry_valid e h.1 in (first.0, first.1, more_entries_valid es h.3)

mutual
  within : (w : Written) → depth_of (tree_of w) ≤ nesting w
  within written.null = omega arith
  within (written.boolean b) = omega arith
  within (written.number s) = number_depth (number_of s)
  within (written.text ps) = omega arith
  within (written.array gap es) = omega (arith, elements_within es)
  within (written.object gap es) = omega (arith, object_depth (pairs_in es), entries_within es)

  elements_within : (es : Elements) → parts_depth (parts_in es) ≤ elements_nesting es
  elements_within no_elements = omega arith
  elements_within (first_element w gap es) = omega (arith, within w, more_within es)

  more_within : (es : MoreElements) → parts_depth (more_parts_in es) ≤ more_nesting es
  more_within end_elements = omega arith
  more_within (next_element before w gap es) = omega (arith, within w, more_within es)

  entry_within : (e : Entry) → depth_of (pair_in e).1 ≤ entry_nesting e
  entry_within (entry name before gap w) = within w

  entries_within : (es : Entries) → fields_depth (fields_of (pairs_in es)) ≤ entries_nesting es
  entries_within no_entries = omega arith
  entries_within (first_entry e gap es) = omega (arith, entry_within e, more_entries_within es)

  more_entries_within : (es : MoreEntries) → fields_depth (fields_of (more_pairs_in es)) ≤ more_entries_nesting es
  more_entries_within end_entries = omega arith
  more_entries_within (next_entry before e gap es) = omega (arith, entry_within e, more_entries_within es)

pub line_value : (line : List ℕ) (json : Json) → Spells line json → IsLineValue json
line_value line json s =
    let j = s.is_json in
    let shallow : nat_le 65 (nesting j.way) ≡ false = sym (line_deep line j.way j.is_written) ∙ j.is_short_text.shallow in
    let few : nesting j.way ≤ 64 = grind (arith, nat_tests) in
    subst IsLineValue (sym s.value) (record {
      valid = valid j.way j.is_written.is_well;
      shallow = omega (arith, within j.way, few);
    })

pub document : (json : Json) → Spells (text_of json) json → IsDocument json
document json s = record { is_line_value = line_value (text_of json) json s; short = s.is_json.is_short_text.short }

pub denoted_valid : (bytes : List ℕ) (json : Json) → Denotes bytes json → IsValid json
denoted_valid bytes json s = subst IsValid (sym s.value) (valid s.way s.is_written.is_well)

pub answers_ordered : {A : Type 0} (view : A → Json) (line : List ℕ) (result : Result A DocFault) → Answers view line result → IfOk result (λ tree. IsOrdered (view tree))
answers_ordered view line (Ok tree) s = valid_ordered (view tree) (line_value line (view tree) s).valid
answers_ordered view line (Err fault) s = tt
