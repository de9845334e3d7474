-- Numbers that need more than 38 digits.
use Rattle.std.proofs.Common.{◌≡◌, ◌∙◌, sym, ap, ℕ, zero, suc, ◌+◌, ◌-◌, ◌*◌, ◌%◌, ◌^◌, ◌<◌, ◌≤◌, List, [], ◌∷◌, drop, get_or, length, drop-cons, arith, All}
use Rattle.std.specs.List.{AllByRecursion}
use Rattle.std.proofs.lemmas.List.Elements.{recursion_from_All}
use Rattle.exact_num.specs.Spelling.{IsDigit, digits_value}
use Rattle.exact_num.specs.Wide.{IsWide}
use Rattle.exact_num.proofs.Powers.{ten_more, ten_rises, ten_times}

pub wide_from : (n : ℕ) → 10 ^ 38 ≤ n → 0 < n % 10 → IsWide n
wide_from n h last = record { digits = by }
  where
    by : (m zeros : ℕ) → n ≡ m * 10 ^ zeros → 10 ^ 38 ≤ m
    by m zero e = omega arith
    by m (suc zeros) e = let more = ten_more m zeros in absurd (omega arith)

pub wide_more : (n d : ℕ) → IsWide n → d < 10 → IsWide (n * 10 + d)
wide_more n d h small = record { digits = by }
  where
    by : (m zeros : ℕ) → n * 10 + d ≡ m * 10 ^ zeros → 10 ^ 38 ≤ m
    by m zero e = let whole : 10 ^ 38 ≤ n = h.digits n 0 (omega arith) in omega arith
    by m (suc zeros) e = let more = ten_more m zeros in h.digits m zeros (omega arith)

wide_after : (ds : List ℕ) (n : ℕ) → AllByRecursion IsDigit ds → IsWide n → IsWide (digits_value n ds)
wide_after [] n all h = h
wide_after (d ∷ ds) n all h = wide_after ds (n * 10 + (d - 48)) all.1 (wide_more n (d - 48) h (omega arith))

digits_left : (ds : List ℕ) (i : ℕ) → AllByRecursion IsDigit ds → AllByRecursion IsDigit (drop i ds)
digits_left ds zero all = all
digits_left [] (suc i) all = tt
digits_left (d ∷ ds) (suc i) all = digits_left ds i all.1

pub wide_left : (ds : List ℕ) (i n : ℕ) → All IsDigit ds → IsWide n → IsWide (digits_value n (drop i ds))
wide_left ds i n all h = wide_after (drop i ds) n (digits_left ds i (recursion_from_All IsDigit ds all)) h

-- at a turn of the loop over the digits
pub wide_turn : (ds : List ℕ) (i v n : ℕ) → All IsDigit ds → i < length ds → digits_value v (drop i ds) ≡ n → IsWide (v * 10 + (get_or ds i 0 - 48)) → IsWide n
wide_turn ds i v n all h e wide =
    let turn : digits_value v (drop i ds) ≡ digits_value (v * 10 + (get_or ds i 0 - 48)) (drop (suc i) ds) = ap (λ (s : List ℕ). digits_value v s) (drop-cons ds i 0 h) in
    rw (sym e ∙ turn) (wide_left ds (suc i) (v * 10 + (get_or ds i 0 - 48)) all wide)

pub wide_last : (digits zeros digit : ℕ) → 0 < digit → digit < 10 → 10 ^ 38 ≤ digits * 10 ^ (zeros + 1) → IsWide (digits * 10 ^ zeros * 10 + digit)
wide_last digits zeros digit some small h = let more = ten_times digits zeros 1 in wide_from (digits * 10 ^ zeros * 10 + digit) (omega arith) (omega arith)

pub wide_zeros : (digits zeros digit : ℕ) → 0 < digit → digit < 10 → (digits ≡ 0 → ⊥) → 38 ≤ zeros → IsWide (digits * 10 ^ zeros * 10 + digit)
wide_zeros digits zeros digit some small not_zero far =
    let rises = ten_rises 38 zeros far in
    let most : 10 ^ zeros ≤ digits * 10 ^ zeros = grind arith in
    wide_from (digits * 10 ^ zeros * 10 + digit) (omega arith) (omega arith)
