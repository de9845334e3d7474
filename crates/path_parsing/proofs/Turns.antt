-- One turn of the loop over steps.
use Rattle.std.proofs.Common.{◌≡◌, ◌∙◌, refl, sym, ap, ℕ, zero, suc, List, [], ◌∷◌, ◌++◌, true, false, Option, Some, None, append-nil, append_assoc}
use Rattle.std.specs.Option.{option_map}
use Rattle.byte_parsing.specs.Parse.{and_then, read_as}
use Rattle.query_tree.specs.declared.step.Step.{Step}
use Rattle.path_parsing.specs.Grammar.{StepSyntax, step_of, path_of}
use Rattle.path_parsing.specs.Reading.{begins_step, step_at, steps_at}

-- the steps so far, before those of the rest
abbrev pub steps_before : List Step → Option (List Step × List ℕ) → Option (List Step × List ℕ)
steps_before steps read = option_map (λ r. (steps ++ r.0, r.1)) read

pub all_read : (k : ℕ) (rest : List ℕ) (steps : List Step) (all : Option (List Step × List ℕ)) → begins_step rest ≡ false → steps_before steps (read_as path_of (steps_at k rest)) ≡ all → all ≡ Some (steps, rest)
unfolding steps_at
all_read zero rest steps all e h = sym h ∙ rw e (ap (λ ss. Some (ss, rest)) (append-nil steps))
all_read (suc k) rest steps all e h = sym h ∙ rw e (ap (λ ss. Some (ss, rest)) (append-nil steps))

pub too_many : (k : ℕ) (rest : List ℕ) (steps : List Step) (all : Option (List Step × List ℕ)) → begins_step rest ≡ true → k ≡ 0 → steps_before steps (read_as path_of (steps_at k rest)) ≡ all → all ≡ None
unfolding steps_at
too_many k rest steps all e z h = sym h ∙ rw (z, e) refl

pub no_step : (k j : ℕ) (rest : List ℕ) (steps : List Step) (all : Option (List Step × List ℕ)) → begins_step rest ≡ true → k ≡ suc j → read_as step_of (step_at rest) ≡ None → steps_before steps (read_as path_of (steps_at k rest)) ≡ all → all ≡ None
unfolding steps_at
no_step k j rest steps all e z n h = sym h ∙ rw (z, e) (by (step_at rest) n)
  where
    by : (o : Option (StepSyntax × List ℕ)) → read_as step_of o ≡ None → steps_before steps (read_as path_of (and_then o (λ s. option_map (λ r. (s.0 ∷ r.0, r.1)) (steps_at j s.1)))) ≡ None
    by None n = refl
    by (Some r) n = cc

pub next_step : (k j : ℕ) (rest : List ℕ) (step : Step) (more : List ℕ) (steps : List Step) (all : Option (List Step × List ℕ)) → begins_step rest ≡ true → k ≡ suc j → read_as step_of (step_at rest) ≡ Some (step, more)
    → steps_before steps (read_as path_of (steps_at k rest)) ≡ all → steps_before (steps ++ step ∷ []) (read_as path_of (steps_at j more)) ≡ all
unfolding steps_at
next_step k j rest step more steps all e z n h = by (step_at rest) n ∙ sym (rw (z, e) refl) ∙ h
  where
    inner : (w : StepSyntax) (o : Option (List StepSyntax × List ℕ)) → steps_before (steps ++ step_of w ∷ []) (read_as path_of o) ≡ steps_before steps (read_as path_of (option_map (λ r. (w ∷ r.0, r.1)) o))
    inner w None = refl
    inner w (Some r) = ap (λ ss. Some (ss, r.1)) (append_assoc steps (step_of w ∷ []) (path_of r.0))

    by : (o : Option (StepSyntax × List ℕ)) → read_as step_of o ≡ Some (step, more) → steps_before (steps ++ step ∷ []) (read_as path_of (steps_at j more)) ≡ steps_before steps (read_as path_of (and_then o (λ s. option_map (λ r. (s.0 ∷ r.0, r.1)) (steps_at j s.1))))
    by None n = cc
    by (Some r) n =
        let both : ◌≡◌ {A = Step × List ℕ} (step_of r.0, r.1) (step, more) = cc in
        rw (← ap (λ p. p.0) both, ← ap (λ p. p.1) both) (inner r.0 (steps_at j r.1))
