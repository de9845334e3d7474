-- Digits that are taken in turn, whose integer keeps to 18 digits.
use Rattle.std.proofs.Common.{◌≡◌, ◌∙◌, refl, ap, ℕ, ◌+◌, ◌-◌, ◌*◌, ◌^◌, ◌<◌, ◌≤◌, List, [], ◌∷◌, take, length, get_or, true, arith}
use Rattle.std.specs.List.{list_all}
use Rattle.std.proofs.lemmas.List.{take_more}
use Rattle.std.proofs.lemmas.List.Folds.{list_all_more}
use Rattle.std.proofs.Math.Nat.{mul-le-mul_right}
use Rattle.exact_num.specs.Parsing.{is_digit}
use Rattle.exact_num.specs.Spelling.{IsDigit, digits_value}
use Rattle.exact_num.proofs.Powers.{ten_times, ten_grows}
use Rattle.exact_num.proofs.Runs.{is_digit_true}
use Rattle.exact_num.proofs.Values.{value_append}

pub size_small : (v k : ℕ) → (v + 1) * 10 ^ k ≤ 10 ^ 18 → v < 10 ^ 18
size_small v k h = let grows = ten_grows (v + 1) k in omega arith

ten_less : (v most at : ℕ) → at < most → (v + 1) * 10 ^ (most - at) ≡ (v + 1) * 10 * 10 ^ (most - (at + 1))
ten_less v most at less =
    let sum : most - at ≡ 1 + (most - (at + 1)) = omega arith in
    ap (λ (k : ℕ). (v + 1) * 10 ^ k) sum ∙ ten_times (v + 1) 1 (most - (at + 1))

-- there is room for one more digit
pub size_ten : (v most at : ℕ) → at < most → (v + 1) * 10 ^ (most - at) ≤ 10 ^ 18 → v * 10 + 10 ≤ 10 ^ 18
size_ten v most at less h =
    let grows = ten_grows ((v + 1) * 10) (most - (at + 1)) in
    let same = ten_less v most at less in
    omega arith

pub size_more : (v d most at : ℕ) → at < most → d ≤ 9 → (v + 1) * 10 ^ (most - at) ≤ 10 ^ 18 → (v * 10 + d + 1) * 10 ^ (most - (at + 1)) ≤ 10 ^ 18
size_more v d most at less digit h =
    let part : v * 10 + d + 1 ≤ (v + 1) * 10 = omega arith in
    let grows = mul-le-mul_right (10 ^ (most - (at + 1))) part in
    let same = ten_less v most at less in
    omega arith

pub all_more : (xs : List ℕ) (i : ℕ) → i < length xs → IsDigit (get_or xs i 0) → list_all is_digit (take i xs) ≡ true → list_all is_digit (take (i + 1) xs) ≡ true
all_more xs i inside digit all = list_all_more is_digit xs i 0 inside ∙ rw (all, is_digit_true (get_or xs i 0) digit) refl

pub value_more : (n : ℕ) (xs : List ℕ) (i : ℕ) → i < length xs → digits_value n (take (i + 1) xs) ≡ digits_value n (take i xs) * 10 + (get_or xs i 0 - 48)
value_more n xs i inside = ap (λ (ys : List ℕ). digits_value n ys) (take_more xs i 0 inside) ∙ value_append n (take i xs) (get_or xs i 0 ∷ [])
