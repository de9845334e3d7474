-- Numbers at the front: digits, and maybe a point and digits.
use Rattle.std.proofs.Common.{◌≡◌, ◌∙◌, refl, sym, ap, ap₂, ℕ, ◌^◌, ◌<◌, ◌≤◌, List, [], ◌∷◌, ◌++◌, length, Bool, true, false, not, cond, Some, Ok, Option, ok_or, append-nil, append_assoc, arith}
use Rattle.std.specs.List.{list_all}
use Rattle.exact_num.specs.Decimal.{Decimal, numbered, least}
use Rattle.exact_num.specs.Leading.{IsLeading, number_run, after_number, is_ended}
use Rattle.exact_num.specs.Parsing.{is_digit, is_numeric, is_whole, parsed}
use Rattle.exact_num.specs.Reading.{number_of, read_from, read_of}
use Rattle.exact_num.specs.Spelling.{Written, no_exponent, sign_text, fraction_text, digits_value}
use Rattle.exact_num.specs.declared.fault.NumFault.TheVariants.{TooWide}
use Rattle.exact_num.proofs.Complete.{complete}
use Rattle.exact_num.proofs.NumberBytes.{IsNumeric, joined, digits_numeric, fraction_numeric}
use Rattle.exact_num.proofs.Places.{numbered_small}
use Rattle.exact_num.proofs.Runs.{digits_are, whole_is}
use Rattle.exact_num.proofs.Values.{value_append}

run_is : (xs rest : List ℕ) → IsNumeric xs → is_ended rest ≡ true → number_run (xs ++ rest) ≡ xs
run_is [] [] h e = refl
run_is [] (x ∷ rest) h e = by (is_numeric x) e
  where
    by : (b : Bool) → not b ≡ true → cond b (x ∷ number_run rest) [] ≡ []
    by true f = cc
    by false f = refl
run_is (x ∷ xs) rest h e = rw (h.0, run_is xs rest h.1 e) refl

after_is : (xs rest : List ℕ) → IsNumeric xs → is_ended rest ≡ true → after_number (xs ++ rest) ≡ rest
after_is [] [] h e = refl
after_is [] (x ∷ rest) h e = by (is_numeric x) e
  where
    by : (b : Bool) → not b ≡ true → cond b (after_number rest) (x ∷ rest) ≡ x ∷ rest
    by true f = cc
    by false f = refl
after_is (x ∷ xs) rest h e = rw (h.0) (after_is xs rest h.1 e)

abbrev parts : Bool → List ℕ → List ℕ → Written
parts minus ds fs = record { negative = minus; whole = ds; fraction = fs; power = no_exponent }

value_is : (minus : Bool) (ds fs : List ℕ) (n : ℕ) → n ≡ digits_value 0 (ds ++ fs) → n < 10 ^ 38 → length fs ≤ 38 → number_of (parts minus ds fs) ≡ Some (least minus n (length fs))
unfolding number_of
value_is minus ds fs n value small places =
    ap₂ (λ (m k : ℕ). numbered minus m k) (omega (arith, value)) (omega arith) ∙ numbered_small minus n (length fs) small places

spelled_reads : (minus : Bool) (ds fs : List ℕ) (n : ℕ) → list_all is_digit ds ≡ true → is_whole ds ≡ true → list_all is_digit fs ≡ true → n ≡ digits_value 0 (ds ++ fs) → n < 10 ^ 38 → length fs ≤ 38 → read_of (sign_text minus ++ (ds ++ fraction_text fs)) ≡ Ok (least minus n (length fs))
spelled_reads minus ds fs n all whole more value small places =
    let text : parsed (sign_text minus ++ (ds ++ fraction_text fs)) ≡ Some (parts minus ds fs) =
    ap (λ (xs : List ℕ). parsed (sign_text minus ++ (ds ++ xs))) (sym (append-nil (fraction_text fs)))
    ∙ complete minus ds fs no_exponent (whole_is ds (digits_are ds all) whole) (digits_are fs more) tt in
    ap read_from text ∙ ap (λ (o : Option Decimal). ok_or o TooWide) (value_is minus ds fs n value small places)

pub leading_is : (minus : Bool) (ds fs rest : List ℕ) (n : ℕ) → list_all is_digit ds ≡ true → is_whole ds ≡ true → list_all is_digit fs ≡ true → is_ended rest ≡ true → n ≡ digits_value 0 (ds ++ fs) → n < 10 ^ 38 → length fs ≤ 38 → IsLeading minus (ds ++ (fraction_text fs ++ rest)) (least minus n (length fs)) rest
leading_is minus ds fs rest n all whole more ended value small places =
    let numeric = joined ds (fraction_text fs) (digits_numeric ds (digits_are ds all)) (fraction_numeric fs (digits_are fs more)) in
    let same : ds ++ (fraction_text fs ++ rest) ≡ (ds ++ fraction_text fs) ++ rest = sym (append_assoc ds (fraction_text fs) rest) in
    record {
      number = ap (λ (xs : List ℕ). read_of (sign_text minus ++ xs)) (ap number_run same ∙ run_is (ds ++ fraction_text fs) rest numeric ended) ∙ spelled_reads minus ds fs n all whole more value small places;
      after = sym (ap after_number same ∙ after_is (ds ++ fraction_text fs) rest numeric ended);
    }

pub whole_leads : (minus : Bool) (ds rest : List ℕ) (n : ℕ) → list_all is_digit ds ≡ true → is_whole ds ≡ true → is_ended rest ≡ true → n ≡ digits_value 0 ds → n < 10 ^ 38 → IsLeading minus (ds ++ rest) (least minus n 0) rest
whole_leads minus ds rest n all whole ended value small =
    leading_is minus ds [] rest n all whole refl ended (value ∙ ap (λ (xs : List ℕ). digits_value 0 xs) (sym (append-nil ds))) small (omega arith)

pub decimal_leads : (minus : Bool) (ds fs rest : List ℕ) (n : ℕ) → list_all is_digit ds ≡ true → is_whole ds ≡ true → list_all is_digit fs ≡ true → 0 < length fs → is_ended rest ≡ true → n ≡ digits_value (digits_value 0 ds) fs → n < 10 ^ 38 → length fs ≤ 38 → IsLeading minus (ds ++ 46 ∷ (fs ++ rest)) (least minus n (length fs)) rest
decimal_leads minus ds [] rest n all whole more some ended value small places = absurd (omega arith)
decimal_leads minus ds (f ∷ fs) rest n all whole more some ended value small places =
    leading_is minus ds (f ∷ fs) rest n all whole more ended (value ∙ sym (value_append 0 ds (f ∷ fs))) small places

pub signed_leads : (minus : Bool) (text unsigned : List ℕ) (d : Decimal) (rest : List ℕ) → text ≡ sign_text minus ++ unsigned → IsLeading minus unsigned d rest → IsLeading false text d rest
signed_leads true text unsigned d rest e h = rw e (record { number = h.number; after = h.after })
signed_leads false text unsigned d rest e h = rw e h
