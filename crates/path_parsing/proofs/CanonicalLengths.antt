-- The canonical text of a path is a path again: it is no longer, and its steps have a text.
use Rattle.std.proofs.Common.{◌≡◌, sym, subst, ℕ, ◌+◌, ◌-◌, ◌*◌, ◌^◌, ◌<◌, ◌≤◌, List, [], ◌∷◌, ◌++◌, flat_map, Bool, true, false, cond, length, length-append, arith, decimal}
use Rattle.std.specs.List.{AllByRecursion}
use Rattle.std.proofs.lemmas.List.{length-map}
use Rattle.std.proofs.lemmas.Str.{IsUtf8-from_ascii, is_utf8-from_IsUtf8}
use Rattle.byte_parsing.specs.Words.{IsDigit, IsWhole, is_name}
use Rattle.byte_parsing.proofs.WholeNumbers.{whole_digits}
use Rattle.byte_parsing.proofs.Words.{name_passes, names_ascii}
use Rattle.exact_num.specs.Spelling.{digits_value}
use Rattle.exact_num.proofs.Powers.{ten_rises}
use Rattle.exact_num.proofs.Values.{digit_more}
use Rattle.json_strings.specs.Meaning.{text_of}
use Rattle.json_tree.specs.Text as texts
use Rattle.query_tree.specs.PathText.{step_text, path_text}
use Rattle.query_tree.specs.declared.step.Step.{Step}
use Rattle.path_parsing.specs.Canonical.{IsWritable}
use Rattle.path_parsing.specs.Grammar.{StepSyntax, dotted, quoted, indexed, starred, step_bytes, steps_bytes, IsWellStep, AreWellSteps, IsPath, step_of, path_of}
use Rattle.path_parsing.proofs.CanonicalTexts.{canonical_is_path}
use Rattle.path_parsing.proofs.Decimals.{printed}
use Rattle.path_parsing.proofs.Lengths.{step_length}
use Rattle.path_parsing.proofs.QuotedLengths.{string_fits}

-- Indexes.

value_below : (ds : List ℕ) (n k : ℕ) → n < 10 ^ k → AllByRecursion IsDigit ds → digits_value n ds < 10 ^ (k + length ds)
value_below [] n k h all = let same : k + 0 ≡ k = omega arith in rw same h
value_below (d ∷ ds) n k h all =
    let same : (k + 1) + length ds ≡ k + length (d ∷ ds) = omega arith in
    subst (λ j. digits_value (n * 10 + (d - 48)) ds < 10 ^ j) same (value_below ds (n * 10 + (d - 48)) (k + 1) (digit_more n (d - 48) k h (omega (arith, all.0))) all.1)

index_below : (ds : List ℕ) → IsWhole ds → digits_value 0 ds < 10 ^ length ds
index_below ds h = let same : 0 + length ds ≡ length ds = omega arith in subst (λ j. digits_value 0 ds < 10 ^ j) same (value_below ds 0 0 (omega arith) (whole_digits ds h))

some_digits : (ds : List ℕ) → IsWhole ds → 0 < length ds
some_digits [] h = absurd h
some_digits (d ∷ ds) h = omega arith

index_small : (ds : List ℕ) → IsWhole ds → length ds ≤ 9 → digits_value 0 ds ≤ 999999999
index_small ds h few = omega (arith, index_below ds h, ten_rises (length ds) 9 few)

index_fits : (ds : List ℕ) → IsWhole ds → length ds ≤ 9 → length (decimal (digits_value 0 ds)) ≤ length ds
index_fits ds h few = (printed (digits_value 0 ds) (omega (arith, index_small ds h few))).few (length ds) (some_digits ds h) (index_below ds h)

-- Steps.

step_writable : (s : StepSyntax) (after : List ℕ) → IsWellStep s after → IsWritable (step_of s)
step_writable (dotted name) after h = is_utf8-from_IsUtf8 name (IsUtf8-from_ascii name (names_ascii name (name_passes name h.0)))
step_writable (quoted ps) after h = h.0.1
step_writable (indexed digits) after h = index_small digits h.0 h.1
step_writable starred after h = tt

step_fits : (s : StepSyntax) (after : List ℕ) → IsWellStep s after → length (step_text (step_of s)) ≤ length (step_bytes s [])
step_fits (dotted name) after h = rw h.0 (omega (arith, length-append {A = ℕ} name []))
step_fits (quoted ps) after h = by (is_name (text_of ps))
  where
    by : (b : Bool) → length (cond b (46 ∷ text_of ps) (91 ∷ (texts.quoted (text_of ps) ++ 93 ∷ []))) ≤ length (step_bytes (quoted ps) [])
    by true = omega (arith, (string_fits ps (93 ∷ []) h.0).text)
    by false = omega (arith, (string_fits ps (93 ∷ []) h.0).quoted, length-append (texts.quoted (text_of ps)) (93 ∷ []))
step_fits (indexed digits) after h =
    omega (arith, index_fits digits h.0 h.1, length-append (decimal (digits_value 0 digits)) (93 ∷ []), length-append digits (93 ∷ []))
step_fits starred after h = omega arith

steps_writable : (ss : List StepSyntax) (after : List ℕ) → AreWellSteps ss after → AllByRecursion IsWritable (path_of ss)
steps_writable [] after h = tt
steps_writable (s ∷ ss) after h = (step_writable s (steps_bytes ss after) h.0, steps_writable ss after h.1)

steps_fit : (ss : List StepSyntax) → AreWellSteps ss [] → length (flat_map step_text (path_of ss)) ≤ length (steps_bytes ss [])
steps_fit [] h = omega arith
steps_fit (s ∷ ss) h =
    omega (arith, length-append (step_text (step_of s)) (flat_map step_text (path_of ss)), step_length s (steps_bytes ss []), step_fits s (steps_bytes ss []) h.0, steps_fit ss h.1)

pub canonical_of_path : (text : List ℕ) (steps : List Step) → IsPath text steps → IsPath (path_text steps) steps
canonical_of_path text steps p =
    let ws = p.written in
    let many : length (path_of ws) ≡ length ws = length-map ws step_of in
    let canonical : IsPath (path_text (path_of ws)) (path_of ws) =
    canonical_is_path (path_of ws) (steps_writable ws [] p.is_path.well) (omega (arith, p.is_path.few)) (omega (arith, steps_fit ws p.is_path.well, p.is_path.short)) in
    subst (λ ss. IsPath (path_text ss) ss) (sym p.means) canonical
