-- Printed numbers read back.
use Rattle.std.proofs.Common.{◌≡◌, ◌∙◌, inl, inr, refl, sym, ap, ap₂, ℕ, zero, suc, ◌+◌, ◌*◌, ◌/◌, ◌%◌, ◌^◌, ◌<◌, ◌≤◌, ◌==◌, List, [], ◌∷◌, ◌++◌, length, length-append, append-nil, decimal, false, Ok, ℤ, pos, int_lt, unsigned_abs, ◌*ℤ◌, div-add-mod', arith}
use Rattle.std.proofs.lemmas.Bool.Decides.{nat_tests}
use Rattle.std.specs.List.{AllByRecursion}
use Rattle.std.proofs.lemmas.Fmt.{decimal_by_steps_wide}
use Rattle.exact_num.specs.Decimal.{Decimal, IsNumber, IsSame, signed}
use Rattle.exact_num.specs.Reading.{read_of}
use Rattle.exact_num.specs.Spelling.{Written, no_exponent, IsDigit, IsWhole, IsSpelling, digits_value, fraction_text, sign_text, meaning}
use Rattle.exact_num.specs.Text.{padded, point_text, size_text, text_of}
use Rattle.exact_num.proofs.Powers.{ten_more, ten_some}
use Rattle.exact_num.proofs.Readings.{read_exactly}
use Rattle.exact_num.proofs.Signs.{sign_back}
use Rattle.exact_num.proofs.Values.{value_append}

digits_push : (ds : List ℕ) (d : ℕ) → AllByRecursion IsDigit ds → IsDigit d → AllByRecursion IsDigit (ds ++ d ∷ [])
digits_push [] d all h = (h, tt)
digits_push (x ∷ xs) d all h = (all.0, digits_push xs d all.1 h)

-- the digits of a whole number
record IsPrinted (n : ℕ) (ds : List ℕ) : Type 0 where
  whole : IsWhole ds
  value : digits_value 0 ds ≡ n

printed_one : (n : ℕ) → n < 10 → IsPrinted n ((48 + n) ∷ [])
printed_one zero h = record { whole = inl (refl, refl); value = refl }
printed_one (suc n) h = record { whole = inr (omega arith, omega arith, tt); value = omega arith }

whole_more : (ds : List ℕ) (d : ℕ) → IsWhole ds → 0 < digits_value 0 ds → IsDigit d → IsWhole (ds ++ d ∷ [])
whole_more [] d h some digit = elim h [ ]
whole_more (x ∷ xs) d (inl (e, f)) some digit =
    let none : digits_value 0 (x ∷ xs) ≡ 0 = rw (e, f) refl in absurd (omega arith)
whole_more (x ∷ xs) d (inr (l, h, all)) some digit = inr (l, h, digits_push xs d all digit)

printed_more : (n : ℕ) (ds : List ℕ) → 10 ≤ n → IsPrinted (n / 10) ds → IsPrinted n (ds ++ ((48 + n % 10) ∷ []))
printed_more n ds h p = record {
  whole = whole_more ds (48 + n % 10) p.whole (omega (arith, p.value)) (omega arith, omega arith);
  value = let value = value_append 0 ds ((48 + n % 10) ∷ []) in omega (arith, value, p.value);
}

printed : (n : ℕ) → n < 10 ^ 64 → IsPrinted n (decimal n)
printed n h = decimal_by_steps_wide IsPrinted printed_one printed_more n h

-- the digits after the point
padded_digits : (k n : ℕ) → AllByRecursion IsDigit (padded k n)
unfolding padded
padded_digits zero n = tt
padded_digits (suc k) n = digits_push (padded k (n / 10)) (48 + n % 10) (padded_digits k (n / 10)) (omega arith, omega arith)

padded_length : (k n : ℕ) → length (padded k n) ≡ k
unfolding padded
padded_length zero n = refl
padded_length (suc k) n = let few = padded_length k (n / 10) in omega (arith, length-append (padded k (n / 10)) ((48 + n % 10) ∷ []), few)

padded_value : (k n v : ℕ) → n < 10 ^ k → digits_value v (padded k n) ≡ v * 10 ^ k + n
unfolding padded
padded_value zero n v h = omega arith
padded_value (suc k) n v h =
    let more = ten_more 1 k in
    let times = ten_more v k in
    let value = value_append v (padded k (n / 10)) ((48 + n % 10) ∷ []) in
    let front = padded_value k (n / 10) v (omega arith) in
    omega (arith, value, front, times)

padded_none : (n : ℕ) → padded 0 n ≡ []
unfolding padded
padded_none n = refl

not_zero : (k : ℕ) → (suc k == 0) ≡ false
not_zero k = grind (arith, nat_tests)

-- where there is no place, there is no point
point_is : (scale n : ℕ) → point_text scale n ≡ fraction_text (padded scale n)
point_is zero n = ap fraction_text (sym (padded_none n))
point_is (suc k) n = rw (not_zero k) (by (padded (suc k) n) (padded_length (suc k) n))
  where
    by : (ds : List ℕ) → length ds ≡ suc k → 46 ∷ ds ≡ fraction_text ds
    by [] e = absurd (omega arith)
    by (d ∷ ds) e = refl

abbrev parts : Decimal → Written
parts d = record {
  negative = int_lt d.unscaled (pos 0);
  whole = decimal (unsigned_abs d.unscaled / 10 ^ d.scale);
  fraction = padded d.scale (unsigned_abs d.unscaled % 10 ^ d.scale);
  power = no_exponent;
}

whole_small : (n k : ℕ) → n < 10 ^ 38 → n / 10 ^ k < 10 ^ 64
whole_small n k h = let some = ten_some k in let part : n / 10 ^ k ≤ n = grind arith in omega arith

spelled_so : (d : Decimal) → IsNumber d → IsSpelling (text_of d) (parts d)
unfolding size_text
spelled_so d number = record {
  bytes =
      ap (λ (s : List ℕ). sign_text (int_lt d.unscaled (pos 0)) ++ (decimal (unsigned_abs d.unscaled / 10 ^ d.scale) ++ s))
      (point_is d.scale (unsigned_abs d.unscaled % 10 ^ d.scale) ∙ sym (append-nil (fraction_text (padded d.scale (unsigned_abs d.unscaled % 10 ^ d.scale)))));
  is_whole = (printed (unsigned_abs d.unscaled / 10 ^ d.scale) (whole_small (unsigned_abs d.unscaled) d.scale number.size)).whole;
  is_fraction = padded_digits d.scale (unsigned_abs d.unscaled % 10 ^ d.scale);
  is_exponent = tt;
}

means : (d : Decimal) → IsNumber d → IsSame d (meaning (parts d))
means d number =
    let n = unsigned_abs d.unscaled in
    let k = d.scale in
    let some = ten_some k in
    let whole = (printed (n / 10 ^ k) (whole_small n k number.size)).value in
    let front = value_append 0 (decimal (n / 10 ^ k)) (padded k (n % 10 ^ k)) in
    let behind = padded_value k (n % 10 ^ k) (digits_value 0 (decimal (n / 10 ^ k))) (omega arith) in
    let value : digits_value 0 (decimal (n / 10 ^ k) ++ padded k (n % 10 ^ k)) * 10 ^ 0 ≡ n =
    let sum = front ∙ behind ∙ ap (λ (m : ℕ). m * 10 ^ k + n % 10 ^ k) whole ∙ div-add-mod' n (10 ^ k) in omega (arith, sum) in
    let integer : signed (int_lt d.unscaled (pos 0)) (digits_value 0 (decimal (n / 10 ^ k) ++ padded k (n % 10 ^ k)) * 10 ^ 0) ≡ d.unscaled =
    ap (λ (m : ℕ). signed (int_lt d.unscaled (pos 0)) m) value ∙ sign_back d.unscaled in
    let places : length (padded k (n % 10 ^ k)) + 0 ≡ k = omega (arith, padded_length k (n % 10 ^ k)) in
    ap₂ (λ (z : ℤ) (j : ℕ). z *ℤ pos (10 ^ j)) (sym integer) places

pub reads_back : (d : Decimal) → IsNumber d → read_of (text_of d) ≡ Ok d
reads_back d number = read_exactly (text_of d) d number (parts d, (spelled_so d number, means d number))
