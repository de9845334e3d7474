-- Printed digits.
use Rattle.std.proofs.Common.{◌≡◌, ◌∙◌, ap, ap₂, ℕ, zero, suc, ◌+◌, ◌/◌, ◌%◌, ◌^◌, ◌<◌, ◌≤◌, List, [], ◌∷◌, ◌++◌, decimal, lit<, arith}
use Rattle.std.proofs.lemmas.Fmt.{decimal_digit, decimal_step_wide}
use Rattle.exact_num.specs.Text.{padded}
use Rattle.exact_num.proofs.Powers.{ten_more, ten_some, ten_rises}

-- the digits of a number with a leading 1
pub marked_text : (k n : ℕ) → n < 10 ^ k → k ≤ 38 → decimal (10 ^ k + n) ≡ 49 ∷ padded k n
unfolding padded
marked_text zero n h few = ap decimal (let one : 10 ^ 0 + n ≡ 1 = omega arith in one) ∙ decimal_digit 1 (lit< tt)
marked_text (suc k) n h few =
    let more = ten_more 1 k in
    let some = ten_some k in
    let most = ten_rises (suc k) 38 few in
    let rest : (10 ^ suc k + n) / 10 ≡ 10 ^ k + n / 10 = omega arith in
    let last : (10 ^ suc k + n) % 10 ≡ n % 10 = omega arith in
    decimal_step_wide (10 ^ suc k + n) (omega arith) (omega arith)
    ∙ ap₂ (λ (m d : ℕ). decimal m ++ (48 + d) ∷ []) rest last
    ∙ ap (λ (ds : List ℕ). ds ++ (48 + n % 10) ∷ []) (marked_text k (n / 10) (omega arith) (omega arith))
