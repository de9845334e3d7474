-- How long the canonical text of a number is, beside a text that was read as it.
use Rattle.std.proofs.Common.{◌≡◌, ◌∙◌, refl, sym, ap, subst, inl, inr, ⊎_elim, ◌⊎◌, ℕ, suc, ◌+◌, ◌-◌, ◌*◌, ◌/◌, ◌^◌, ◌<◌, ◌≤◌, ◌==◌, nat_lt, nat_le, ◌&&◌, List, [], ◌∷◌, ◌++◌, Bool, true, false, cond, Option, Some, None, ok_or, length, length-append, arith, pos, int_lt, unsigned_abs, mul_right_comm, mul-lt-mul_of_pos_right}
use Rattle.std.specs.Prelude.{decimal}
use Rattle.std.specs.List.{AllByRecursion}
use Rattle.std.specs.Result.{result_ok}
use Rattle.std.proofs.Math.Nat.{div-lt_iff_lt-mul, lt_of_mul-lt-mul_right, div-le_self}
use Rattle.std.proofs.lemmas.Bool.{and_parts, cases_lt}
use Rattle.std.proofs.lemmas.Bool.Decides.{nat_tests}
use Rattle.std.proofs.lemmas.Fmt.{length-decimal-le_wide}
use Rattle.std.proofs.lemmas.Nat.{pow-add}
use Rattle.exact_num.specs.Decimal.{Decimal, signed, shortened, least, numbered}
use Rattle.exact_num.specs.Reading as numbers
use Rattle.exact_num.specs.Reading.{read_from, read_of}
use Rattle.exact_num.specs.Spelling as parts
use Rattle.exact_num.specs.Spelling.{Sign, unmarked, plus, minus, Exponent, no_exponent, exponent, sign_text, fraction_text, mark_text, exponent_text, IsDigit, IsWhole, IsSpelling, digits_value, exponent_size, is_minus, is_down, up, down}
use Rattle.exact_num.specs.Text.{size_text, text_of}
use Rattle.exact_num.specs.declared.fault.NumFault.TheVariants.{TooWide}
use Rattle.exact_num.proofs.Complete.{parsed_complete}
use Rattle.exact_num.proofs.Powers.{ten_more, ten_times, ten_some, ten_rises}
use Rattle.exact_num.proofs.Shortening.{shortened_is}
use Rattle.exact_num.proofs.Signs.{signed_abs}
use Rattle.exact_num.proofs.TextLengths.{whole_length, point_length}
use Rattle.exact_json.specs.Meaning.{number_of}

-- Digits are below the power of ten of their count.

value_below : (ds : List ℕ) (n b : ℕ) → AllByRecursion IsDigit ds → n < b → digits_value n ds < b * 10 ^ length ds
value_below [] n b h l = omega arith
value_below (d ∷ ds) n b h l =
    let next : n * 10 + (d - 48) < b * 10 = omega (arith, h.0.1) in
    let same : b * 10 * 10 ^ length ds ≡ b * 10 ^ suc (length ds) = mul_right_comm b 10 (10 ^ length ds) ∙ sym (ten_more b (length ds)) in
    subst (λ (m : ℕ). digits_value (n * 10 + (d - 48)) ds < m) same (value_below ds (n * 10 + (d - 48)) (b * 10) h.1 next)

one_times : (n : ℕ) → 1 * n ≡ n
one_times n = omega arith

value_small : (ds : List ℕ) → AllByRecursion IsDigit ds → digits_value 0 ds < 10 ^ length ds
value_small ds h = subst (λ (m : ℕ). digits_value 0 ds < m) (one_times (10 ^ length ds)) (value_below ds 0 1 h (omega arith))

-- The printed text, by the digits of its whole part.

size_near : (u s k : ℕ) → 0 < k → u / 10 ^ s < 10 ^ k → u < 10 ^ 38 → length (size_text u s) ≤ k + (s + 1)
size_near u s k p q small =
    let less : u / 10 ^ s ≤ u = div-le_self u (10 ^ s) in
    let rise : 10 ^ 38 ≤ 10 ^ 64 = ten_rises 38 64 (omega arith) in
    let wide : u / 10 ^ s < 10 ^ 64 = omega (arith, less, small, rise) in
    by (s == 0) refl (length-decimal-le_wide k (u / 10 ^ s) p q wide)
  where
    by : (b : Bool) → (s == 0) ≡ b → length (decimal (u / 10 ^ s)) ≤ k → length (size_text u s) ≤ k + (s + 1)
    by true e whole = omega (arith, whole_length u s e, whole)
    by false e whole = omega (arith, point_length u s e, whole)

size_small : (u s : ℕ) → u < 10 ^ 38 → s ≤ 38 → length (size_text u s) ≤ 40
size_small u s small few = ⊎_elim below above (cases_lt s 38)
  where
    below : s < 38 → length (size_text u s) ≤ 40
    below l =
        let all : 38 - s + s ≡ 38 = omega arith in
        let power : 10 ^ (38 - s) * 10 ^ s ≡ 10 ^ 38 = sym (pow-add 10 (38 - s) s) ∙ ap (λ (n : ℕ). 10 ^ n) all in
        let whole : u / 10 ^ s < 10 ^ (38 - s) = (div-lt_iff_lt-mul {k = 10 ^ s} {x = u} {y = 10 ^ (38 - s)} (ten_some s)).1 (subst (λ (n : ℕ). u < n) (sym power) small) in
        omega (arith, size_near u s (38 - s) (omega arith) whole small)

    above : 38 ≤ s → length (size_text u s) ≤ 40
    above l =
        let all : s ≡ 38 = omega arith in
        let power : 10 ^ 1 * 10 ^ s ≡ 10 ^ 39 = sym (pow-add 10 1 s) ∙ ap (λ (n : ℕ). 10 ^ (1 + n)) all in
        let rise : 10 ^ 38 ≤ 10 ^ 39 = ten_rises 38 39 (omega arith) in
        let less : u < 10 ^ 39 = omega (arith, small, rise) in
        let whole : u / 10 ^ s < 10 ^ 1 = (div-lt_iff_lt-mul {k = 10 ^ s} {x = u} {y = 10 ^ 1} (ten_some s)).1 (subst (λ (n : ℕ). u < n) (sym power) less) in
        omega (arith, size_near u s 1 (omega arith) whole small)

sign_short : (b : Bool) → length (sign_text b) ≤ 1
sign_short true = omega arith
sign_short false = omega arith

no_sign : (u : ℕ) → int_lt (pos u) (pos 0) ≡ false
no_sign u = grind (arith, nat_tests)

sign_kept : (b : Bool) (u : ℕ) → length (sign_text (int_lt (signed b u) (pos 0))) ≤ length (sign_text b)
sign_kept true u = sign_short (int_lt (signed true u) (pos 0))
sign_kept false u = rw (no_sign u) (omega arith)

text_length : (b : Bool) (u s : ℕ) → length (text_of (record { unscaled = signed b u; scale = s })) ≤ length (sign_text b) + length (size_text u s)
text_length b u s =
    let size : length (size_text (unsigned_abs (signed b u)) s) ≡ length (size_text u s) = ap (λ (n : ℕ). length (size_text n s)) (signed_abs b u) in
    omega (arith, length-append (sign_text (int_lt (signed b u) (pos 0))) (size_text (unsigned_abs (signed b u)) s), sign_kept b u, size)

record IsNear (d : Decimal) (b : Bool) (k places : ℕ) : Type 0 where
  near : length (text_of d) ≤ length (sign_text b) + (k + (places + 1))
  small : length (text_of d) ≤ length (sign_text b) + 40

numbered_near : (b : Bool) (n places k f : ℕ) (d : Decimal) → 0 < k → f ≤ places → n < 10 ^ (k + f) → numbered b n places ≡ Some d → IsNear d b k places
numbered_near b n places k f d p q l e = by (nat_lt (shortened n places).0 (10 ^ 38) && nat_le (shortened n places).1 38) refl e
  where
    by : (t : Bool) → (nat_lt (shortened n places).0 (10 ^ 38) && nat_le (shortened n places).1 38) ≡ t → cond t (Some (least b n places)) None ≡ Some d → IsNear d b k places
    by false g h = cc
    by true g h =
        let same : least b n places ≡ d = cc in
        let u : ℕ = (shortened n places).0 in
        let s : ℕ = (shortened n places).1 in
        let known = shortened_is n places in
        let z : ℕ = known.zeros in
        let both = and_parts (nat_lt u (10 ^ 38)) (nat_le s 38) g in
        let small : u < 10 ^ 38 = let test = both.0 in grind (arith, nat_tests) in
        let few : s ≤ 38 = let test = both.1 in grind (arith, nat_tests) in
        let rise : 10 ^ (k + f) ≤ 10 ^ (k + places) = ten_rises (k + f) (k + places) (omega arith) in
        let power : 10 ^ (k + places) ≡ 10 ^ k * 10 ^ s * 10 ^ z = pow-add 10 k places ∙ ap (λ (m : ℕ). 10 ^ k * 10 ^ m) (sym known.split) ∙ ten_times (10 ^ k) s z in
        let under : n < 10 ^ (k + places) = omega (arith, l, rise) in
        let times : u * 10 ^ z < 10 ^ k * 10 ^ s * 10 ^ z = subst (λ (m : ℕ). m < 10 ^ k * 10 ^ s * 10 ^ z) known.value (subst (λ (m : ℕ). n < m) power under) in
        let less : u < 10 ^ k * 10 ^ s = lt_of_mul-lt-mul_right (10 ^ z) times in
        let whole : u / 10 ^ s < 10 ^ k = (div-lt_iff_lt-mul {k = 10 ^ s} {x = u} {y = 10 ^ k} (ten_some s)).1 less in
        subst (λ (x : Decimal). IsNear x b k places) same (record {
          near = omega (arith, text_length b u s, size_near u s k p whole small, known.split);
          small = omega (arith, text_length b u s, size_small u s small few);
        })

-- A number text and what it means.

pub whole_digits : (ds : List ℕ) → IsWhole ds → (0 < length ds) × AllByRecursion IsDigit ds
whole_digits [] h = absurd h
whole_digits (x ∷ xs) (inl h) = (omega arith, rw (h.0, h.1) ((omega arith, omega arith), tt))
whole_digits (x ∷ xs) (inr h) = (omega arith, ((omega (arith, h.0), h.1), h.2))

all_append : (xs ys : List ℕ) → AllByRecursion IsDigit xs → AllByRecursion IsDigit ys → AllByRecursion IsDigit (xs ++ ys)
all_append [] ys h k = k
all_append (x ∷ xs) ys h k = (h.0, all_append xs ys h.1 k)

fraction_longer : (ds : List ℕ) → length ds ≤ length (fraction_text ds)
fraction_longer [] = omega arith
fraction_longer (d ∷ ds) = omega arith

-- an exponent's size, and the bytes that it takes
record IsPower (e : Exponent) : Type 0 where
  -- none, of one digit, or of more
  cases : (exponent_size e ≡ 0) ⊎ (((exponent_size e ≤ 9) × (2 ≤ length (exponent_text e))) ⊎ (3 ≤ length (exponent_text e)))

power_is : (e : Exponent) → parts.IsExponent e → IsPower e
power_is no_exponent h = record { cases = inl refl }
power_is (exponent mark sign []) h = absurd h.1
power_is (exponent mark sign (d ∷ [])) h =
    record { cases = inr (inl (omega (arith, h.1.0.1), omega (arith, length-append (mark_text sign) (d ∷ [])))) }
power_is (exponent mark sign (d ∷ (e ∷ ds))) h =
    record { cases = inr (inr (omega (arith, length-append (mark_text sign) (d ∷ (e ∷ ds))))) }

both_within : (e : Exponent) → (up e ≤ exponent_size e) × (down e ≤ exponent_size e)
both_within e = by (is_down e)
  where
    by : (b : Bool) → (cond b 0 (exponent_size e) ≤ exponent_size e) × (cond b (exponent_size e) 0 ≤ exponent_size e)
    by true = (omega arith, omega arith)
    by false = (omega arith, omega arith)

value_shifted : (v p j : ℕ) → v < 10 ^ j → v * 10 ^ p < 10 ^ (j + p)
value_shifted v p j h = rw (pow-add 10 j p) (mul-lt-mul_of_pos_right h (ten_some p))

parts_near : (w : parts.Written) (d : Decimal) → IsWhole w.whole → AllByRecursion IsDigit w.fraction → numbers.number_of w ≡ Some d → IsNear d w.negative (length w.whole + up w.power) (length w.fraction + down w.power)
unfolding numbers.number_of
parts_near w d whole fraction e =
    let digits = whole_digits w.whole whole in
    let long : length (w.whole ++ w.fraction) ≡ length w.whole + length w.fraction = length-append w.whole w.fraction in
    let value = value_small (w.whole ++ w.fraction) (all_append w.whole w.fraction digits.1 fraction) in
    let shifted = value_shifted (digits_value 0 (w.whole ++ w.fraction)) (up w.power) (length (w.whole ++ w.fraction)) value in
    let places : length (w.whole ++ w.fraction) + up w.power ≡ (length w.whole + up w.power) + length w.fraction = omega (arith, long) in
    numbered_near w.negative (digits_value 0 (w.whole ++ w.fraction) * 10 ^ up w.power) (length w.fraction + down w.power) (length w.whole + up w.power) (length w.fraction) d (omega (arith, digits.0)) (omega arith)
    (subst (λ (m : ℕ). digits_value 0 (w.whole ++ w.fraction) * 10 ^ up w.power < 10 ^ m) places shifted) e

pub spelled_length : (w : parts.Written) → length (parts.spelled w) ≡ length (sign_text w.negative) + (length w.whole + (length (fraction_text w.fraction) + length (exponent_text w.power)))
spelled_length w =
    omega (arith, length-append (sign_text w.negative) (w.whole ++ (fraction_text w.fraction ++ exponent_text w.power)), length-append w.whole (fraction_text w.fraction ++ exponent_text w.power), length-append (fraction_text w.fraction) (exponent_text w.power))

pub number_tenfold : (s : List ℕ) (w : parts.Written) (d : Decimal) → IsSpelling s w → number_of s ≡ Some d → length (text_of d) ≤ 10 * length s
number_tenfold s w d h e = by (power_is w.power h.is_exponent).cases
  where
    some : (o : Option Decimal) → result_ok (ok_or o TooWide) ≡ Some d → o ≡ Some d
    some None f = cc
    some (Some x) f = let same : x ≡ d = cc in ap Some same

    by : (exponent_size w.power ≡ 0) ⊎ (((exponent_size w.power ≤ 9) × (2 ≤ length (exponent_text w.power))) ⊎ (3 ≤ length (exponent_text w.power))) → length (text_of d) ≤ 10 * length s
    by cases =
        let read : read_of s ≡ read_from (Some w) = ap read_from (parsed_complete s w h) in
        let means : numbers.number_of w ≡ Some d = some (numbers.number_of w) (sym (ap result_ok read) ∙ e) in
        let near = parts_near w d h.is_whole h.is_fraction means in
        let long : length s ≡ length (parts.spelled w) = ap length h.bytes in
        let whole = (whole_digits w.whole h.is_whole).0 in
        let shift = both_within w.power in
        elim cases [
          | inl none ↦ omega (arith, near.near, long, spelled_length w, whole, shift.0, shift.1, fraction_longer w.fraction, none)
          | inr (inl one) ↦ omega (arith, near.near, long, spelled_length w, whole, shift.0, shift.1, fraction_longer w.fraction, one.0, one.1)
          | inr (inr more) ↦ omega (arith, near.small, long, spelled_length w, whole, sign_short w.negative, more)
        ]
