-- What is parsed is spelled.
use Rattle.std.proofs.Common.{◌≡◌, ◌∙◌, ◌⊎◌, inl, inr, refl, ap, ℕ, List, [], ◌∷◌, ◌++◌, Bool, true, false, cond, Option, Some, None, eqb-true, ◌==◌}
use Rattle.std.specs.List.{AllByRecursion, list_all}
use Rattle.std.proofs.lemmas.Bool.{or_cases}
use Rattle.exact_num.specs.Parsing.{is_digit, is_empty, is_whole, is_mark, front, back, past, power_digits, power_from, power_signed, power_of, ended, pointed, point_from, unsigned, sign_from, parsed}
use Rattle.exact_num.specs.Spelling.{Sign, unmarked, plus, minus, Exponent, no_exponent, Written, mark_text, exponent_text, fraction_text, sign_text, IsDigit, IsWhole, IsExponent, IsSpelling}
use Rattle.byte_parsing.proofs.Holds.{Holds, holds_none, holds_some, holds_map, holds_if, holds_past}
use Rattle.exact_num.proofs.Runs.{digits_are, split_run, front_digits, whole_is}

abbrev IsEnd : List ℕ → Exponent → Type 0
IsEnd text e = IsExponent e × (text ≡ exponent_text e)

abbrev IsMark : ℕ → Type 0
IsMark mark = (mark ≡ 69) ⊎ (mark ≡ 101)

sound_digits : (mark : ℕ) (sign : Sign) (ds : List ℕ) → IsMark mark → Holds (IsEnd (mark ∷ (mark_text sign ++ ds))) (power_digits mark sign ds)
unfolding power_digits
sound_digits mark sign [] m = holds_none (IsEnd (mark ∷ (mark_text sign ++ [])))
sound_digits mark sign (d ∷ ds) m =
    holds_if (IsEnd (mark ∷ (mark_text sign ++ (d ∷ ds)))) (list_all is_digit (d ∷ ds)) _ _
    (λ all. holds_some _ _ ((m, digits_are (d ∷ ds) all), refl)) (λ _. holds_none _)

sound_signed : (mark : ℕ) (text : List ℕ) → IsMark mark → Holds (IsEnd (mark ∷ text)) (power_signed mark text)
unfolding power_signed
sound_signed mark text m = by (past 45 text) (past 43 text) (holds_past 45 text) (holds_past 43 text)
  where
    by : (p q : Option (List ℕ)) → Holds (λ rest. text ≡ 45 ∷ rest) p → Holds (λ rest. text ≡ 43 ∷ rest) q → Holds (IsEnd (mark ∷ text)) (power_from mark text p q)
    by (Some rest) q h g = rw (h.here rest refl) (sound_digits mark minus rest m)
    by None (Some rest) h g = rw (g.here rest refl) (sound_digits mark plus rest m)
    by None None h g = sound_digits mark unmarked text m

mark_is : (x : ℕ) → is_mark x ≡ true → IsMark x
mark_is x h = by (or_cases (x == 69) (x == 101) h)
  where
    by : ((x == 69) ≡ true) ⊎ ((x == 101) ≡ true) → IsMark x
    by (inl e) = inl (eqb-true x 69 e)
    by (inr e) = inr (eqb-true x 101 e)

sound_power : (rest : List ℕ) → Holds (IsEnd rest) (power_of rest)
unfolding power_of
sound_power [] = holds_some (IsEnd []) no_exponent (tt, refl)
sound_power (x ∷ xs) = holds_if (IsEnd (x ∷ xs)) (is_mark x) _ _ (λ m. sound_signed x xs (mark_is x m)) (λ _. holds_none _)

sound_ended : (b : Bool) (whole fraction rest : List ℕ) → IsWhole whole → AllByRecursion IsDigit fraction → Holds (IsSpelling (sign_text b ++ (whole ++ (fraction_text fraction ++ rest)))) (ended b whole fraction rest)
unfolding ended
sound_ended b whole fraction rest is_whole is_fraction =
    holds_map (IsEnd rest) _ (power_of rest) _ (sound_power rest) (λ e end. record {
      bytes = ap (λ (s : List ℕ). sign_text b ++ (whole ++ (fraction_text fraction ++ s))) end.1;
      is_whole = is_whole;
      is_fraction = is_fraction;
      is_exponent = end.0;
    })

sound_pointed : (b : Bool) (whole text : List ℕ) → IsWhole whole → Holds (IsSpelling (sign_text b ++ (whole ++ (46 ∷ text)))) (pointed b whole text)
unfolding pointed
sound_pointed b whole text is_whole = by (front text) (front_digits text) (split_run text)
  where
    by : (ds : List ℕ) → AllByRecursion IsDigit ds → text ≡ ds ++ back text → Holds (IsSpelling (sign_text b ++ (whole ++ (46 ∷ text)))) (cond (is_empty ds) None (ended b whole ds (back text)))
    by [] all e = holds_none _
    by (d ∷ ds) all e =
        let bytes : sign_text b ++ (whole ++ (46 ∷ text)) ≡ sign_text b ++ (whole ++ (fraction_text (d ∷ ds) ++ back text)) = ap (λ (s : List ℕ). sign_text b ++ (whole ++ (46 ∷ s))) e in
        rw bytes (sound_ended b whole (d ∷ ds) (back text) is_whole all)

sound_unsigned : (b : Bool) (text : List ℕ) → Holds (IsSpelling (sign_text b ++ text)) (unsigned b text)
unfolding unsigned
sound_unsigned b text =
    holds_if _ (is_whole (front text)) _ _ (λ h. by (past 46 (back text)) (whole_is (front text) (front_digits text) h) (holds_past 46 (back text))) (λ _. holds_none _)
  where
    by : (p : Option (List ℕ)) → IsWhole (front text) → Holds (λ rest. back text ≡ 46 ∷ rest) p → Holds (IsSpelling (sign_text b ++ text)) (point_from b (front text) (back text) p)
    by None whole h =
        let bytes : sign_text b ++ text ≡ sign_text b ++ (front text ++ ([] ++ back text)) = ap (λ (s : List ℕ). sign_text b ++ s) (split_run text) in
        rw bytes (sound_ended b (front text) [] (back text) whole tt)
    by (Some rest) whole h =
        let bytes : sign_text b ++ text ≡ sign_text b ++ (front text ++ (46 ∷ rest)) = ap (λ (s : List ℕ). sign_text b ++ s) (split_run text ∙ ap (λ (s : List ℕ). front text ++ s) (h.here rest refl)) in
        rw bytes (sound_pointed b (front text) rest whole)

sound : (text : List ℕ) → Holds (IsSpelling text) (parsed text)
unfolding parsed
sound text = by (past 45 text) (holds_past 45 text)
  where
    by : (p : Option (List ℕ)) → Holds (λ rest. text ≡ 45 ∷ rest) p → Holds (IsSpelling text) (sign_from text p)
    by None h = sound_unsigned false text
    by (Some rest) h = rw (h.here rest refl) (sound_unsigned true rest)

pub parsed_sound : (text : List ℕ) (w : Written) → parsed text ≡ Some w → IsSpelling text w
parsed_sound text w e = (sound text).here w e
