-- White space.
use Rattle.std.proofs.Common.{◌≡◌, ◌∙◌, inl, inr, refl, ap, ℕ, List, [], ◌∷◌, ◌++◌, true, false, arith}
use Rattle.std.proofs.lemmas.Bool.Decides.{nat_tests}
use Rattle.byte_parsing.specs.Parse.{Passes, Stops}
use Rattle.byte_parsing.specs.Words.{is_numeric}
use Rattle.byte_parsing.proofs.Runs.{front_run, back_run, split_run, front_passes}
use Rattle.json_grammar.specs.Grammar.{IsSpace, IsGap}
use Rattle.json_grammar.specs.Reading.{is_space, gap_of, past_gap}

space_passes : (x : ℕ) → IsSpace x → is_space x ≡ true
space_passes x (inl e) = rw e refl
space_passes x (inr (inl e)) = rw e refl
space_passes x (inr (inr (inl e))) = rw e refl
space_passes x (inr (inr (inr e))) = rw e refl

passes_space : (x : ℕ) → is_space x ≡ true → IsSpace x
passes_space x h = grind (arith, nat_tests)

space_quiet : (x : ℕ) → IsSpace x → is_numeric x ≡ false
space_quiet x (inl e) = rw e refl
space_quiet x (inr (inl e)) = rw e refl
space_quiet x (inr (inr (inl e))) = rw e refl
space_quiet x (inr (inr (inr e))) = rw e refl

pub gap_passes : (gap : List ℕ) → IsGap gap → Passes is_space gap
gap_passes [] h = tt
gap_passes (x ∷ gap) h = (space_passes x h.0, gap_passes gap h.1)

pub passes_gap : (gap : List ℕ) → Passes is_space gap → IsGap gap
passes_gap [] h = tt
passes_gap (x ∷ gap) h = (passes_space x h.0, passes_gap gap h.1)

pub gap_front : (xs : List ℕ) → IsGap (gap_of xs)
gap_front xs = passes_gap (gap_of xs) (front_passes is_space xs)

pub gap_split : (xs ys : List ℕ) → past_gap xs ≡ ys → xs ≡ gap_of xs ++ ys
gap_split xs ys e = split_run is_space xs ∙ ap (λ zs. gap_of xs ++ zs) e

pub gap_is : (gap rest : List ℕ) → IsGap gap → Stops is_space rest → gap_of (gap ++ rest) ≡ gap
gap_is gap rest h s = front_run is_space gap rest (gap_passes gap h) s

pub past_gap_is : (gap rest : List ℕ) → IsGap gap → Stops is_space rest → past_gap (gap ++ rest) ≡ rest
past_gap_is gap rest h s = back_run is_space gap rest (gap_passes gap h) s

-- white space ends a number
pub gap_quiet : (gap rest : List ℕ) → IsGap gap → Stops is_numeric rest → Stops is_numeric (gap ++ rest)
gap_quiet [] rest h s = s
gap_quiet (x ∷ gap) rest h s = space_quiet x h.0
