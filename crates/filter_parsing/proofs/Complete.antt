-- What is spelled of a filter is read.
use Rattle.std.proofs.Common.{◌≡◌, ◌∙◌, refl, ℕ, suc, zero, ◌+◌, ◌-◌, ◌≤◌, List, [], ◌∷◌, ◌++◌, Option, Some, None, length, length-append, arith, le_refl}
use Rattle.std.specs.Prelude.{codes}
use Rattle.std.proofs.lemmas.Bool.{le-leb}
use Rattle.byte_parsing.specs.Parse.{Parse, Stops}
use Rattle.byte_parsing.specs.Words.{is_numeric, EndsName, is_space, AreSpaces, past_gap, past_whole_word}
use Rattle.byte_parsing.proofs.Words.{gap_is, past_gap_is, gap_quiet, word_end_is}
use Rattle.path_parsing.specs.Grammar.{PathSyntax}
use Rattle.filter_parsing.specs.Grammar.{TestSyntax, FilterSyntax, tested, denied, bracketed, both, either, test_bytes, filter_bytes, IsWell, looseness, nesting, terms}
use Rattle.filter_parsing.specs.Reading.{term_at, more_at, conj_at, filter_by, unit_at}
use Rattle.filter_parsing.proofs.Terms.{term_read, test_longer}
use Rattle.path_parsing.proofs.Lengths.{path_longer}

-- no part begins with a space
begins : (w : FilterSyntax) (after : List ℕ) → Stops is_space (filter_bytes w after)
begins (tested path gap test) after = refl
begins (denied gap w) after = refl
begins (bracketed before w behind) after = refl
begins (both v before behind w) after = begins v (before ++ (codes "and" ++ (behind ++ filter_bytes w after)))
begins (either v before behind w) after = begins v (before ++ (codes "or" ++ (behind ++ filter_bytes w after)))

-- the bytes after a part are no more than with it
longer : (w : FilterSyntax) (after : List ℕ) → length after ≤ length (filter_bytes w after)
longer (tested path gap t) after =
    omega (arith, path_longer path (gap ++ test_bytes t after), length-append gap (test_bytes t after), test_longer t after)
longer (denied gap w) after = omega (arith, length-append gap (filter_bytes w after), longer w after)
longer (bracketed before w behind) after =
    omega (arith, length-append before (filter_bytes w (behind ++ 41 ∷ after)), longer w (behind ++ 41 ∷ after), length-append behind (41 ∷ after))
longer (both v before behind w) after =
    omega (arith, longer v (before ++ (codes "and" ++ (behind ++ filter_bytes w after))), length-append before (codes "and" ++ (behind ++ filter_bytes w after)), length-append behind (filter_bytes w after), longer w after)
longer (either v before behind w) after =
    omega (arith, longer v (before ++ (codes "or" ++ (behind ++ filter_bytes w after))), length-append before (codes "or" ++ (behind ++ filter_bytes w after)), length-append behind (filter_bytes w after), longer w after)

-- what is asked of a part that is read
record Fits (w : FilterSyntax) (depth : ℕ) (after : List ℕ) : Type 0 where
  well : IsWell w after
  shallow : nesting w ≤ depth
  few : terms w ≤ 256
  quiet : Stops is_numeric after

-- no such word comes after the spaces
abbrev Lacks : List ℕ → List ℕ → Type 0
Lacks word after = past_whole_word word (past_gap after) ≡ None

stops_more : (word : List ℕ) (join : FilterSyntax → List ℕ → List ℕ → FilterSyntax → FilterSyntax) (part : Parse FilterSyntax) (count : ℕ) (v : FilterSyntax) (xs : List ℕ) → Lacks word xs → more_at word join part count v xs ≡ Some (v, xs)
stops_more word join part zero v xs e = refl
stops_more word join part (suc count) v xs e = rw e refl

-- one more part
one_more : (word : List ℕ) (join : FilterSyntax → List ℕ → List ℕ → FilterSyntax → FilterSyntax) (part : Parse FilterSyntax) (count less : ℕ) (v : FilterSyntax) (before behind : List ℕ) (w : FilterSyntax) (after rest : List ℕ) →
    count ≡ suc less → AreSpaces before → AreSpaces behind → Stops is_space rest → past_whole_word word rest ≡ Some (behind ++ filter_bytes w after) → part (filter_bytes w after) ≡ Some (w, after) → terms v + terms w ≤ 256 → more_at word join part count v (before ++ rest) ≡ more_at word join part less (join v before behind w) after
one_more word join part count less v before behind w after rest n b c s e f few =
    rw (n, past_gap_is before rest b s, e, past_gap_is behind (filter_bytes w after) c (begins w after), f, le-leb (terms v + terms w) 256 few, gap_is before rest b s, gap_is behind (filter_bytes w after) c (begins w after)) refl

-- What is known of a part by recursion. A conj and a filter are read on from there, whatever comes of it:
-- `result` is what is read where the count is enough for the bytes after the part.

abbrev UnitReads : FilterSyntax → Type 0
UnitReads w = (depth : ℕ) (after : List ℕ) → Fits w depth after → looseness w ≡ 0 → unit_at depth (filter_bytes w after) ≡ Some (w, after)

abbrev ConjReads : FilterSyntax → Type 0
ConjReads w =
    (depth : ℕ) (after : List ℕ) (result : Option (FilterSyntax × List ℕ)) → Fits w depth after → looseness w ≤ 1 →
    ((count : ℕ) → length after ≤ count → more_at (codes "and") both (λ xs. unit_at depth xs) count w after ≡ result) →
    conj_at (λ xs. unit_at depth xs) (filter_bytes w after) ≡ result

abbrev FilterReads : FilterSyntax → Type 0
FilterReads w =
    (depth : ℕ) (after : List ℕ) (result : Option (FilterSyntax × List ℕ)) → Fits w depth after → Lacks (codes "and") after →
    ((count : ℕ) → length after ≤ count → more_at (codes "or") either (λ xs. conj_at (λ ys. unit_at depth ys) xs) count w after ≡ result) →
    filter_by (λ xs. unit_at depth xs) (filter_bytes w after) ≡ result

record IsComplete (w : FilterSyntax) : Type 0 where
  unit : UnitReads w
  conj : ConjReads w
  filter : FilterReads w

-- with no such word after it
conj_read : (w : FilterSyntax) → ConjReads w → (depth : ℕ) (after : List ℕ) → Fits w depth after → looseness w ≤ 1 → Lacks (codes "and") after → conj_at (λ xs. unit_at depth xs) (filter_bytes w after) ≡ Some (w, after)
conj_read w c depth after f l none =
    c depth after (Some (w, after)) f l (λ count _. stops_more (codes "and") both (λ xs. unit_at depth xs) count w after none)

filter_read : (w : FilterSyntax) → FilterReads w → (depth : ℕ) (after : List ℕ) → Fits w depth after → Lacks (codes "and") after → Lacks (codes "or") after → filter_by (λ xs. unit_at depth xs) (filter_bytes w after) ≡ Some (w, after)
filter_read w c depth after f no_and no_or =
    c depth after (Some (w, after)) f no_and (λ count _. stops_more (codes "or") either (λ xs. conj_at (λ ys. unit_at depth ys) xs) count w after no_or)

-- a unit is a conj, and a conj is a filter

unit_conj : (w : FilterSyntax) → UnitReads w → looseness w ≡ 0 → ConjReads w
unit_conj w h l depth after result f _ k = rw (h depth after f l) (k (length after) (le_refl _))

conj_filter : (w : FilterSyntax) → ConjReads w → looseness w ≤ 1 → FilterReads w
conj_filter w h l depth after result f none k = rw (conj_read w h depth after f l none) (k (length after) (le_refl _))

complete_unit : (w : FilterSyntax) → UnitReads w → looseness w ≡ 0 → IsComplete w
complete_unit w h l =
    let conj : ConjReads w = unit_conj w h l in
    record { unit = h; conj = conj; filter = conj_filter w conj (omega (arith, l)) }

complete_conj : (w : FilterSyntax) → ConjReads w → looseness w ≡ 1 → IsComplete w
complete_conj w h l = record { unit = λ depth after f e. absurd (omega (arith, l, e)); conj = h; filter = conj_filter w h (omega (arith, l)) }

-- Units.

term_unit : (depth : ℕ) (xs : List ℕ) → unit_at depth (36 ∷ xs) ≡ term_at (36 ∷ xs)
unfolding unit_at
term_unit zero xs = refl
term_unit (suc depth) xs = refl

tested_reads : (path : PathSyntax) (gap : List ℕ) (t : TestSyntax) → UnitReads (tested path gap t)
tested_reads path gap t depth after f _ = term_unit depth _ ∙ term_read path gap t after f.well f.quiet

denied_read : (depth less : ℕ) (gap : List ℕ) (w : FilterSyntax) (after : List ℕ) → depth ≡ suc less → EndsName (gap ++ filter_bytes w after) → AreSpaces gap → unit_at less (filter_bytes w after) ≡ Some (w, after) → unit_at depth (codes "not" ++ (gap ++ filter_bytes w after)) ≡ Some (denied gap w, after)
unfolding unit_at
denied_read depth less gap w after n ends h e =
    rw (n, word_end_is (gap ++ filter_bytes w after) ends, past_gap_is gap (filter_bytes w after) h (begins w after), e, gap_is gap (filter_bytes w after) h (begins w after)) refl

denied_reads : (gap : List ℕ) (w : FilterSyntax) → IsComplete w → UnitReads (denied gap w)
denied_reads gap w c depth after f _ =
    let well = f.well in
    denied_read depth (depth - 1) gap w after (omega (arith, f.shallow)) well.1 well.2
    (c.unit (depth - 1) after (record { well = well.3; shallow = omega (arith, f.shallow); few = f.few; quiet = f.quiet }) well.0)

bracketed_read : (depth less : ℕ) (before behind : List ℕ) (w : FilterSyntax) (after : List ℕ) → depth ≡ suc less → AreSpaces before → AreSpaces behind → filter_by (λ xs. unit_at less xs) (filter_bytes w (behind ++ 41 ∷ after)) ≡ Some (w, behind ++ 41 ∷ after) → unit_at depth (40 ∷ (before ++ filter_bytes w (behind ++ 41 ∷ after))) ≡ Some (bracketed before w behind, after)
unfolding unit_at
bracketed_read depth less before behind w after n h k e =
    let inside : List ℕ = filter_bytes w (behind ++ 41 ∷ after) in
    rw (n, past_gap_is before inside h (begins w (behind ++ 41 ∷ after)), e, past_gap_is behind (41 ∷ after) k refl, gap_is before inside h (begins w (behind ++ 41 ∷ after)), gap_is behind (41 ∷ after) k refl) refl

-- no word comes before a closing bracket
bracket_lacks : (word behind after : List ℕ) → AreSpaces behind → past_whole_word word (41 ∷ after) ≡ None → Lacks word (behind ++ 41 ∷ after)
bracket_lacks word behind after h e = rw (past_gap_is behind (41 ∷ after) h refl) e

bracketed_reads : (before behind : List ℕ) (w : FilterSyntax) → IsComplete w → UnitReads (bracketed before w behind)
bracketed_reads before behind w c depth after f _ =
    let well = f.well in
    bracketed_read depth (depth - 1) before behind w after (omega (arith, f.shallow)) well.0 well.1
    (filter_read w c.filter (depth - 1) (behind ++ 41 ∷ after) (record { well = well.2; shallow = omega (arith, f.shallow); few = f.few; quiet = gap_quiet behind (41 ∷ after) well.1 refl })
    (bracket_lacks (codes "and") behind after well.1 refl) (bracket_lacks (codes "or") behind after well.1 refl))

-- Conjs and filters.

-- the counts that are enough for two parts, by the length of a word
enough : (before word behind : List ℕ) (w : FilterSyntax) (after : List ℕ) (count : ℕ) → 1 ≤ length word → length (before ++ (word ++ (behind ++ filter_bytes w after))) ≤ count → (count ≡ suc (count - 1)) × (length after ≤ count - 1)
enough before word behind w after count some h =
    let lengths = longer w after in
    let first = length-append before (word ++ (behind ++ filter_bytes w after)) in
    let second = length-append word (behind ++ filter_bytes w after) in
    let third = length-append behind (filter_bytes w after) in
    (omega arith, omega arith)

both_reads : (v : FilterSyntax) (before behind : List ℕ) (w : FilterSyntax) → IsComplete v → IsComplete w → ConjReads (both v before behind w)
both_reads v before behind w c d depth after result f _ k =
    let well = f.well in
    let ys : List ℕ = behind ++ filter_bytes w after in
    let unit : unit_at depth (filter_bytes w after) ≡ Some (w, after) = d.unit depth after (record { well = well.6; shallow = omega (arith, f.shallow); few = omega (arith, f.few); quiet = f.quiet }) well.1 in
    c.conj depth (before ++ (codes "and" ++ ys)) result
    (record { well = well.4; shallow = omega (arith, f.shallow); few = omega (arith, f.few); quiet = gap_quiet before (codes "and" ++ ys) well.2 refl })
    well.0 (λ count h.
    let counts = enough before (codes "and") behind w after count (omega arith) h in
    one_more (codes "and") both (λ xs. unit_at depth xs) count (count - 1) v before behind w after (codes "and" ++ ys) counts.0 well.2 well.3 refl (word_end_is ys well.5) unit f.few
    ∙ k (count - 1) counts.1)

either_reads : (v : FilterSyntax) (before behind : List ℕ) (w : FilterSyntax) → IsComplete v → IsComplete w → FilterReads (either v before behind w)
either_reads v before behind w c d depth after result f none k =
    let well = f.well in
    let ys : List ℕ = behind ++ filter_bytes w after in
    let conj : conj_at (λ xs. unit_at depth xs) (filter_bytes w after) ≡ Some (w, after) =
    conj_read w d.conj depth after (record { well = well.5; shallow = omega (arith, f.shallow); few = omega (arith, f.few); quiet = f.quiet }) well.0 none in
    c.filter depth (before ++ (codes "or" ++ ys)) result
    (record { well = well.3; shallow = omega (arith, f.shallow); few = omega (arith, f.few); quiet = gap_quiet before (codes "or" ++ ys) well.1 refl })
    (rw (past_gap_is before (codes "or" ++ ys) well.1 refl) refl) (λ count h.
    let counts = enough before (codes "or") behind w after count (omega arith) h in
    one_more (codes "or") either (λ xs. conj_at (λ ys. unit_at depth ys) xs) count (count - 1) v before behind w after (codes "or" ++ ys) counts.0 well.1 well.2 refl (word_end_is ys well.4) conj f.few
    ∙ k (count - 1) counts.1)

complete : (w : FilterSyntax) → IsComplete w
complete (tested path gap t) = complete_unit (tested path gap t) (tested_reads path gap t) refl
complete (denied gap w) = complete_unit (denied gap w) (denied_reads gap w (complete w)) refl
complete (bracketed before w behind) = complete_unit (bracketed before w behind) (bracketed_reads before behind w (complete w)) refl
complete (both v before behind w) = complete_conj (both v before behind w) (both_reads v before behind w (complete v) (complete w)) refl
complete (either v before behind w) =
    record {
      unit = λ depth after f e. absurd (omega (arith, e));
      conj = λ depth after result f l k. absurd (omega (arith, l));
      filter = either_reads v before behind w (complete v) (complete w);
    }

pub filter_is_read : (w : FilterSyntax) → IsWell w [] → terms w ≤ 256 → nesting w ≤ 64 → filter_by (λ xs. unit_at 64 xs) (filter_bytes w []) ≡ Some (w, [])
filter_is_read w h few shallow = filter_read w (complete w).filter 64 [] (record { well = h; shallow = shallow; few = few; quiet = tt }) refl refl
