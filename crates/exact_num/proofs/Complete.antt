-- What is spelled is parsed.
use Rattle.std.proofs.Common.{◌≡◌, ◌∙◌, inl, inr, refl, ap, ℕ, List, [], ◌∷◌, ◌++◌, Bool, true, false, Some, None, arith}
use Rattle.std.specs.List.{AllByRecursion}
use Rattle.exact_num.specs.Parsing.{is_whole, past, power_digits, power_signed, power_of, ended, pointed, point_from, unsigned, parsed}
use Rattle.exact_num.specs.Spelling.{Sign, unmarked, plus, minus, Exponent, no_exponent, exponent, Written, mark_text, exponent_text, fraction_text, sign_text, IsDigit, AreDigits, IsWhole, IsExponent, IsSpelling}
use Rattle.exact_num.proofs.Runs.{digit_other, are_digits, Stops, front_run, back_run, whole_digits, is_whole_true}

complete_digits : (mark : ℕ) (sign : Sign) (ds : List ℕ) → AreDigits ds → power_digits mark sign ds ≡ Some (exponent mark sign ds)
unfolding power_digits
complete_digits mark sign [] all = elim all [ ]
complete_digits mark sign (d ∷ ds) all = rw (are_digits (d ∷ ds) all) refl

complete_signed : (mark : ℕ) (sign : Sign) (ds : List ℕ) → AreDigits ds → power_signed mark (mark_text sign ++ ds) ≡ Some (exponent mark sign ds)
unfolding power_signed
complete_signed mark unmarked [] all = elim all [ ]
complete_signed mark unmarked (d ∷ ds) all =
    rw (digit_other d 45 all.0 (omega arith), digit_other d 43 all.0 (omega arith)) (complete_digits mark unmarked (d ∷ ds) all)
complete_signed mark plus ds all = complete_digits mark plus ds all
complete_signed mark minus ds all = complete_digits mark minus ds all

complete_power : (e : Exponent) → IsExponent e → power_of (exponent_text e) ≡ Some e
unfolding power_of
complete_power no_exponent h = refl
complete_power (exponent mark sign ds) (inl m, all) = rw m (complete_signed 69 sign ds all)
complete_power (exponent mark sign ds) (inr m, all) = rw m (complete_signed 101 sign ds all)

-- an exponent begins with its mark
stops : (e : Exponent) → IsExponent e → Stops (exponent_text e)
stops no_exponent h = tt
stops (exponent mark sign ds) (inl m, all) = rw m refl
stops (exponent mark sign ds) (inr m, all) = rw m refl

no_point : (e : Exponent) → IsExponent e → past 46 (exponent_text e) ≡ None
no_point no_exponent h = refl
no_point (exponent mark sign ds) (inl m, all) = rw m refl
no_point (exponent mark sign ds) (inr m, all) = rw m refl

complete_ended : (b : Bool) (whole fraction : List ℕ) (e : Exponent) → IsExponent e → ended b whole fraction (exponent_text e) ≡ Some (record { negative = b; whole = whole; fraction = fraction; power = e })
unfolding ended
complete_ended b whole fraction e h = rw (complete_power e h) refl

complete_point : (b : Bool) (whole fraction : List ℕ) (e : Exponent) → AllByRecursion IsDigit fraction → IsExponent e → point_from b whole (fraction_text fraction ++ exponent_text e) (past 46 (fraction_text fraction ++ exponent_text e)) ≡ Some (record { negative = b; whole = whole; fraction = fraction; power = e })
unfolding pointed
complete_point b whole [] e all h = rw (no_point e h) (complete_ended b whole [] e h)
complete_point b whole (d ∷ ds) e all h =
    rw (front_run (d ∷ ds) (exponent_text e) all (stops e h), back_run (d ∷ ds) (exponent_text e) all (stops e h)) (complete_ended b whole (d ∷ ds) e h)

stops_fraction : (fraction : List ℕ) (e : Exponent) → IsExponent e → Stops (fraction_text fraction ++ exponent_text e)
stops_fraction [] e h = stops e h
stops_fraction (d ∷ ds) e h = refl

complete_unsigned : (b : Bool) (whole fraction : List ℕ) (e : Exponent) → IsWhole whole → AllByRecursion IsDigit fraction → IsExponent e → unsigned b (whole ++ (fraction_text fraction ++ exponent_text e)) ≡ Some (record { negative = b; whole = whole; fraction = fraction; power = e })
unfolding unsigned
complete_unsigned b whole fraction e is_whole all h =
    let rest = fraction_text fraction ++ exponent_text e in
    rw (front_run whole rest (whole_digits whole is_whole) (stops_fraction fraction e h), back_run whole rest (whole_digits whole is_whole) (stops_fraction fraction e h), is_whole_true whole is_whole) (complete_point b whole fraction e all h)

no_sign : (whole rest : List ℕ) → IsWhole whole → past 45 (whole ++ rest) ≡ None
no_sign [] rest h = elim h [ ]
no_sign (x ∷ xs) rest h = let digits = whole_digits (x ∷ xs) h in rw (digit_other x 45 digits.0 (omega arith)) refl

pub complete : (b : Bool) (whole fraction : List ℕ) (e : Exponent) → IsWhole whole → AllByRecursion IsDigit fraction → IsExponent e → parsed (sign_text b ++ (whole ++ (fraction_text fraction ++ exponent_text e))) ≡ Some (record { negative = b; whole = whole; fraction = fraction; power = e })
unfolding parsed
complete true whole fraction e is_whole all h = complete_unsigned true whole fraction e is_whole all h
complete false whole fraction e is_whole all h =
    rw (no_sign whole (fraction_text fraction ++ exponent_text e) is_whole) (complete_unsigned false whole fraction e is_whole all h)

pub parsed_complete : (text : List ℕ) (w : Written) → IsSpelling text w → parsed text ≡ Some w
parsed_complete text w h = ap parsed h.bytes ∙ complete w.negative w.whole w.fraction w.power h.is_whole h.is_fraction h.is_exponent
