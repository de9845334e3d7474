-- The bytes of number texts.
use Rattle.std.proofs.Common.{◌≡◌, inl, inr, refl, ℕ, List, [], ◌∷◌, ◌++◌, Bool, true, false}
use Rattle.std.specs.List.{AllByRecursion}
use Rattle.exact_num.specs.Parsing.{is_numeric}
use Rattle.exact_num.specs.Spelling.{Sign, unmarked, plus, minus, Exponent, no_exponent, exponent, Written, mark_text, exponent_text, fraction_text, sign_text, IsDigit, AreDigits, IsWhole, IsExponent, IsSpelling, BeginsNumber}
use Rattle.exact_num.proofs.Runs.{is_digit_true, whole_digits}

abbrev pub IsNumeric : List ℕ → Type 0
IsNumeric xs = AllByRecursion (λ x. is_numeric x ≡ true) xs

pub joined : (xs ys : List ℕ) → IsNumeric xs → IsNumeric ys → IsNumeric (xs ++ ys)
joined [] ys h g = g
joined (x ∷ xs) ys h g = (h.0, joined xs ys h.1 g)

pub digits_numeric : (ds : List ℕ) → AllByRecursion IsDigit ds → IsNumeric ds
digits_numeric [] h = tt
digits_numeric (d ∷ ds) h = (rw (is_digit_true d h.0) refl, digits_numeric ds h.1)

pub fraction_numeric : (ds : List ℕ) → AllByRecursion IsDigit ds → IsNumeric (fraction_text ds)
fraction_numeric [] h = tt
fraction_numeric (d ∷ ds) h = (refl, digits_numeric (d ∷ ds) h)

mark_numeric : (sign : Sign) (ds : List ℕ) → AreDigits ds → IsNumeric (mark_text sign ++ ds)
mark_numeric sign [] h = elim h [ ]
mark_numeric unmarked (d ∷ ds) h = digits_numeric (d ∷ ds) h
mark_numeric plus (d ∷ ds) h = (refl, digits_numeric (d ∷ ds) h)
mark_numeric minus (d ∷ ds) h = (refl, digits_numeric (d ∷ ds) h)

exponent_numeric : (e : Exponent) → IsExponent e → IsNumeric (exponent_text e)
exponent_numeric no_exponent h = tt
exponent_numeric (exponent mark sign ds) (inl m, all) = (rw m refl, mark_numeric sign ds all)
exponent_numeric (exponent mark sign ds) (inr m, all) = (rw m refl, mark_numeric sign ds all)

sign_numeric : (negative : Bool) → IsNumeric (sign_text negative)
sign_numeric true = (refl, tt)
sign_numeric false = tt

pub all_numeric : (text : List ℕ) (w : Written) → IsSpelling text w → AllByRecursion (λ x. is_numeric x ≡ true) text
all_numeric text w h =
    rw h.bytes (joined (sign_text w.negative) (w.whole ++ (fraction_text w.fraction ++ exponent_text w.power)) (sign_numeric w.negative)
    (joined w.whole (fraction_text w.fraction ++ exponent_text w.power) (digits_numeric w.whole (whole_digits w.whole h.is_whole))
    (joined (fraction_text w.fraction) (exponent_text w.power) (fraction_numeric w.fraction h.is_fraction) (exponent_numeric w.power h.is_exponent))))

begins : (negative : Bool) (whole rest : List ℕ) → IsWhole whole → BeginsNumber (sign_text negative ++ (whole ++ rest))
begins true whole rest h = inl refl
begins false [] rest h = elim h [ ]
begins false (x ∷ xs) rest h = let digits = whole_digits (x ∷ xs) h in inr digits.0

pub begins_number : (text : List ℕ) (w : Written) → IsSpelling text w → BeginsNumber text
begins_number text w h = rw h.bytes (begins w.negative w.whole (fraction_text w.fraction ++ exponent_text w.power) h.is_whole)
