-- What is spelled is read.
use Rattle.std.proofs.Common.{◌≡◌, refl, inl, inr, ℕ, zero, suc, ◌+◌, ◌≤◌, List, [], ◌∷◌, ◌++◌, true, false, Some, length, ne_eqb, arith}
use Rattle.std.specs.Prelude.{nat_le}
use Rattle.std.proofs.lemmas.Bool.Decides.{nat_tests}
use Rattle.byte_parsing.specs.Words.{is_digit, IsWhole, is_name_byte}
use Rattle.byte_parsing.proofs.Runs.{front_run, back_run}
use Rattle.byte_parsing.proofs.WholeNumbers.{whole_passes, whole_is_true}
use Rattle.byte_parsing.proofs.Words.{name_passes, name_stops}
use Rattle.json_strings.proofs.Strings.{string_complete}
use Rattle.path_parsing.specs.Grammar.{StepSyntax, dotted, quoted, indexed, starred, step_bytes, steps_bytes, path_bytes, IsWellStep, AreWellSteps, IsPathBefore}
use Rattle.path_parsing.specs.Reading.{is_index, index_at, bracket_at, begins_step, step_at, steps_at, path_at}
use Rattle.path_parsing.proofs.Lengths.{path_length}

-- Indexes.

le_9 : (n : ℕ) → n ≤ 9 → nat_le n 9 ≡ true
le_9 n h = grind (arith, nat_tests)

index_passes : (ds : List ℕ) → IsWhole ds → length ds ≤ 9 → is_index ds ≡ true
index_passes ds h few = rw (whole_is_true ds h, le_9 (length ds) few) refl

index_complete : (ds after : List ℕ) → IsWhole ds → length ds ≤ 9 → index_at (ds ++ 93 ∷ after) ≡ Some (indexed ds, 93 ∷ after)
index_complete ds after h few =
    let run = whole_passes ds h in
    rw (front_run is_digit ds (93 ∷ after) run refl, back_run is_digit ds (93 ∷ after) run refl, index_passes ds h few) refl

-- an index begins with a digit, so it is neither a string nor a star
index_bracket : (ds after : List ℕ) → IsWhole ds → length ds ≤ 9 → bracket_at (ds ++ 93 ∷ after) ≡ Some (indexed ds, after)
index_bracket [] after h few = absurd h
index_bracket (d ∷ ds) after (inl h) few = rw (h.0, h.1) refl
index_bracket (d ∷ ds) after (inr h) few =
    rw (ne_eqb d 34 (omega (arith, h.0)), ne_eqb d 42 (omega (arith, h.0)), index_complete (d ∷ ds) after (inr h) few) refl

-- Steps.

step_complete : (s : StepSyntax) (after : List ℕ) → IsWellStep s after → step_at (step_bytes s after) ≡ Some (s, after)
step_complete (dotted name) after h =
    let run = name_passes name h.0 in
    let stops = name_stops after h.1 in
    rw (front_run is_name_byte name after run stops, back_run is_name_byte name after run stops, h.0) refl
step_complete (quoted ps) after h = rw (string_complete ps (93 ∷ after) h.0, h.1) refl
step_complete (indexed digits) after h = index_bracket digits after h.0 h.1
step_complete starred after h = refl

step_begins : (s : StepSyntax) (after : List ℕ) → begins_step (step_bytes s after) ≡ true
step_begins (dotted name) after = refl
step_begins (quoted ps) after = refl
step_begins (indexed digits) after = refl
step_begins starred after = refl

steps_complete : (k : ℕ) (ss : List StepSyntax) (after : List ℕ) → AreWellSteps ss after → length ss ≤ k → begins_step after ≡ false → steps_at k (steps_bytes ss after) ≡ Some (ss, after)
unfolding steps_at
steps_complete zero [] after h few e = rw e refl
steps_complete zero (s ∷ ss) after h few e = absurd (omega arith)
steps_complete (suc k) [] after h few e = rw e refl
steps_complete (suc k) (s ∷ ss) after h few e =
    let more = steps_bytes ss after in
    rw (step_begins s more, step_complete s more h.0, steps_complete k ss after h.1 (omega arith) e) refl

-- Paths.

le_4096 : (n m : ℕ) → n ≤ m + 4096 → nat_le n (m + 4096) ≡ true
le_4096 n m h = grind (arith, nat_tests)

pub path_complete : (ss : List StepSyntax) (after : List ℕ) → IsPathBefore ss after → begins_step after ≡ false → path_at (path_bytes ss after) ≡ Some (ss, after)
unfolding path_at
path_complete ss after h e =
    let short : length (path_bytes ss after) ≤ length after + 4096 = omega (arith, h.short, path_length ss after) in
    rw (steps_complete 64 ss after h.well h.few e, le_4096 (length (path_bytes ss after)) (length after) short) refl
