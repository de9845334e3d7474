-- What is read is spelled.
use Rattle.std.proofs.Common.{◌≡◌, ◌∙◌, refl, sym, subst, ap, ℕ, zero, suc, ◌+◌, ◌≤◌, zero-le, Option, Some, List, [], ◌∷◌, ◌++◌, true, length, eqb-true, arith}
use Rattle.std.specs.Prelude.{nat_le}
use Rattle.std.proofs.lemmas.Bool.{and_parts}
use Rattle.std.proofs.lemmas.Bool.Decides.{nat_tests}
use Rattle.byte_parsing.specs.Parse.{front, back, Passes}
use Rattle.byte_parsing.specs.Words.{is_digit, is_whole, IsWhole, is_name_byte}
use Rattle.byte_parsing.proofs.Holds.{Holds, holds_none, holds_some, holds_then, holds_map, holds_if, holds_past}
use Rattle.byte_parsing.proofs.Runs.{split_run, front_passes}
use Rattle.byte_parsing.proofs.WholeNumbers.{whole_is}
use Rattle.byte_parsing.proofs.Words.{back_ends}
use Rattle.json_strings.specs.Pieces.{pieces_spelled}
use Rattle.path_parsing.specs.Grammar.{StepSyntax, dotted, indexed, starred, step_bytes, steps_bytes, path_bytes, IsWellStep, AreWellSteps, IsPathBefore}
use Rattle.path_parsing.specs.Reading.{name_at, string_step, is_index, index_at, inside_at, in_brackets, bracket_at, step_at, steps_at, path_at}
use Rattle.path_parsing.proofs.Lengths.{path_length}
use Rattle.path_parsing.proofs.Strings.{paired_sound}

-- Names.

abbrev IsReadStep : List ℕ → StepSyntax × List ℕ → Type 0
IsReadStep xs read = (xs ≡ step_bytes read.0 read.1) × IsWellStep read.0 read.1

name_sound : (xs : List ℕ) → Holds (IsReadStep (46 ∷ xs)) (name_at xs)
name_sound xs =
    holds_if (IsReadStep (46 ∷ xs)) _ _ _
    (λ e. holds_some (IsReadStep (46 ∷ xs)) (dotted (front is_name_byte xs), back is_name_byte xs) (ap (λ ys. 46 ∷ ys) (split_run is_name_byte xs), (e, back_ends xs)))
    (λ _. holds_none _)

-- Indexes.

at_most_9 : (n : ℕ) → nat_le n 9 ≡ true → n ≤ 9
at_most_9 n h = grind (arith, nat_tests)

index_sound : (ds : List ℕ) → Passes is_digit ds → is_index ds ≡ true → IsWhole ds × (length ds ≤ 9)
index_sound ds p h = let both = and_parts (is_whole ds) (nat_le (length ds) 9) h in (whole_is ds p both.0, at_most_9 (length ds) both.1)

-- In brackets: the bytes that end there, if the closing bracket is next.

pub record IsClosing (xs : List ℕ) (read : StepSyntax × List ℕ) : Type 0 where
  pub closing : (after : List ℕ) → read.1 ≡ 93 ∷ after → IsReadStep (91 ∷ xs) (read.0, after)

string_closing : (xs : List ℕ) → Holds (IsClosing (34 ∷ xs)) (string_step xs)
string_closing xs =
    holds_map _ (IsClosing (34 ∷ xs)) _ _ (paired_sound xs) (λ read p. record {
      closing = λ after f. (ap (λ ys. 91 ∷ (34 ∷ ys)) (p.0 ∙ ap (λ ys. pieces_spelled read.0 ys) f), (p.1, p.2));
    })

index_closing : (xs : List ℕ) → Holds (IsClosing xs) (index_at xs)
index_closing xs =
    holds_if (IsClosing xs) _ _ _
    (λ e. holds_some (IsClosing xs) (indexed (front is_digit xs), back is_digit xs) (record {
      closing = λ after f. (ap (λ ys. 91 ∷ ys) (split_run is_digit xs ∙ ap (λ ys. front is_digit xs ++ ys) f), index_sound (front is_digit xs) (front_passes is_digit xs) e);
    }))
    (λ _. holds_none _)

inside_sound : (xs : List ℕ) → Holds (IsClosing xs) (inside_at xs)
inside_sound [] = holds_none _
inside_sound (x ∷ xs) =
    holds_if (IsClosing (x ∷ xs)) _ _ _ (λ e. subst (λ y. Holds (IsClosing (y ∷ xs)) (string_step xs)) (sym (eqb-true x 34 e)) (string_closing xs))
    (λ _. holds_if (IsClosing (x ∷ xs)) _ _ _
    (λ e. holds_some (IsClosing (x ∷ xs)) (starred, xs) (record { closing = λ after f. (ap (λ y. 91 ∷ (y ∷ xs)) (eqb-true x 42 e) ∙ ap (λ ys. 91 ∷ (42 ∷ ys)) f, tt) }))
    (λ _. index_closing (x ∷ xs)))

in_brackets_sound : (xs : List ℕ) (o : Option (StepSyntax × List ℕ)) → Holds (IsClosing xs) o → Holds (IsReadStep (91 ∷ xs)) (in_brackets o)
in_brackets_sound xs o h =
    holds_then _ (IsReadStep (91 ∷ xs)) _ _ h (λ read p.
    holds_map _ (IsReadStep (91 ∷ xs)) _ _ (holds_past 93 read.1) (λ rest e. p.closing rest e))

bracket_sound : (xs : List ℕ) → Holds (IsReadStep (91 ∷ xs)) (bracket_at xs)
bracket_sound xs = in_brackets_sound xs (inside_at xs) (inside_sound xs)

step_sound : (xs : List ℕ) → Holds (IsReadStep xs) (step_at xs)
step_sound [] = holds_none _
step_sound (x ∷ xs) =
    holds_if (IsReadStep (x ∷ xs)) _ _ _ (λ e. subst (λ y. Holds (IsReadStep (y ∷ xs)) (name_at xs)) (sym (eqb-true x 46 e)) (name_sound xs))
    (λ _. holds_if (IsReadStep (x ∷ xs)) _ _ _ (λ e. subst (λ y. Holds (IsReadStep (y ∷ xs)) (bracket_at xs)) (sym (eqb-true x 91 e)) (bracket_sound xs))
    (λ _. holds_none _))

-- Paths.

pub record AreReadSteps (k : ℕ) (xs : List ℕ) (read : List StepSyntax × List ℕ) : Type 0 where
  pub bytes : xs ≡ steps_bytes read.0 read.1
  pub well : AreWellSteps read.0 read.1
  pub few : length read.0 ≤ k

no_steps : (k : ℕ) (xs : List ℕ) → Holds (AreReadSteps k xs) (Some ([], xs))
no_steps k xs = holds_some (AreReadSteps k xs) ([], xs) (record { bytes = refl; well = tt; few = zero-le })

pub steps_sound : (k : ℕ) (xs : List ℕ) → Holds (AreReadSteps k xs) (steps_at k xs)
unfolding steps_at
steps_sound zero xs = holds_if (AreReadSteps zero xs) _ _ _ (λ _. holds_none _) (λ _. no_steps zero xs)
steps_sound (suc k) xs =
    holds_if (AreReadSteps (suc k) xs) _ _ _
    (λ _. holds_then (IsReadStep xs) (AreReadSteps (suc k) xs) _ _ (step_sound xs) (λ step p.
    holds_map (AreReadSteps k step.1) (AreReadSteps (suc k) xs) (steps_at k step.1) (λ r. (step.0 ∷ r.0, r.1)) (steps_sound k step.1) (λ read q. record {
      bytes = p.0 ∙ ap (λ ys. step_bytes step.0 ys) q.bytes;
      well = (subst (λ ys. IsWellStep step.0 ys) q.bytes p.1, q.well);
      few = omega (arith, q.few);
    })))
    (λ _. no_steps (suc k) xs)

at_most_4096 : (n m : ℕ) → nat_le n (m + 4096) ≡ true → n ≤ m + 4096
at_most_4096 n m h = grind (arith, nat_tests)

pub path_sound : (xs : List ℕ) → Holds (λ read. (xs ≡ path_bytes read.0 read.1) × IsPathBefore read.0 read.1) (path_at xs)
unfolding path_at
path_sound xs =
    holds_then _ (λ read. (xs ≡ path_bytes read.0 read.1) × IsPathBefore read.0 read.1) _ _ (holds_past 36 xs) (λ rest e.
    holds_then _ (λ read. (xs ≡ path_bytes read.0 read.1) × IsPathBefore read.0 read.1) _ _ (steps_sound 64 rest) (λ read p.
    holds_if (λ read. (xs ≡ path_bytes read.0 read.1) × IsPathBefore read.0 read.1) _ _ _
    (λ f. let bytes = e ∙ ap (λ ys. 36 ∷ ys) p.bytes in
    let most : length xs ≤ length read.1 + 4096 = at_most_4096 (length xs) (length read.1) f in
    let all : length xs ≡ length (path_bytes read.0 read.1) = ap (λ ys. length ys) bytes in
    holds_some (λ read. (xs ≡ path_bytes read.0 read.1) × IsPathBefore read.0 read.1) read
    (bytes, record { well = p.well; few = p.few; short = omega (arith, path_length read.0 read.1) }))
    (λ _. holds_none _)))
