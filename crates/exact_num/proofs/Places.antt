-- Where the point goes.
use Rattle.std.proofs.Common.{◌≡◌, ◌∙◌, refl, sym, ap, ℕ, ◌+◌, ◌-◌, ◌*◌, ◌%◌, ◌^◌, ◌<◌, ◌≤◌, Bool, Some, None, arith, inl, inr, ◌⊎◌, add-zero, true, false, ap₂, pos}
use Rattle.std.proofs.lemmas.Bool.{cases_lt}
use Rattle.std.proofs.lemmas.Bool.Decides.{nat_tests}
use Rattle.exact_num.specs.Decimal.{signed, shortened, admitted, numbered, least}
use Rattle.exact_num.specs.Spelling.{up, down}
use Rattle.exact_num.specs.Wide.{IsWide}
use Rattle.exact_num.proofs.Powers.{ten_times, ten_grows, ten_rises, ten_some}
use Rattle.exact_num.proofs.Shortening.{shortened_zeros, shortened_lean, shortened_is}
use Rattle.exact_num.proofs.Signs.{times_cancel}

pub admitted_some : (b : Bool) (n places : ℕ) → n < 10 ^ 38 → places ≤ 38 → admitted b n places ≡ Some (record { unscaled = signed b n; scale = places })
admitted_some b n places h g = grind (arith, nat_tests)

pub admitted_wide : (b : Bool) (n places : ℕ) → 10 ^ 38 ≤ n → admitted b n places ≡ None
admitted_wide b n places h = grind (arith, nat_tests)

pub admitted_low : (b : Bool) (n places : ℕ) → 38 < places → admitted b n places ≡ None
admitted_low b n places h = grind (arith, nat_tests)

numbered_pair : (b : Bool) (n places : ℕ) (s : ℕ × ℕ) → shortened n places ≡ s → numbered b n places ≡ admitted b s.0 s.1
numbered_pair b n places s e = ap (λ (p : ℕ × ℕ). admitted b p.0 p.1) e

pub numbered_high : (b : Bool) (m by down : ℕ) → numbered b (m * 10 ^ (by + down)) down ≡ admitted b (m * 10 ^ by) 0
numbered_high b m by down =
    numbered_pair b (m * 10 ^ (by + down)) down (m * 10 ^ by, 0)
    (ap (λ n. shortened n down) (ten_times m by down) ∙ ap (λ p. shortened (m * 10 ^ by * 10 ^ down) p) (sym (add-zero down)) ∙ shortened_zeros (m * 10 ^ by) down 0 ∙ shortened_lean (m * 10 ^ by) 0 (λ _. refl))

pub numbered_low : (b : Bool) (m by up : ℕ) → (m % 10 ≡ 0 → by ≡ 0) → numbered b (m * 10 ^ up) (up + by) ≡ admitted b m by
numbered_low b m by up h = numbered_pair b (m * 10 ^ up) (up + by) (m, by) (shortened_zeros m up by ∙ shortened_lean m by h)

-- a number of at most 38 digits with at most 38 places
pub numbered_small : (b : Bool) (n places : ℕ) → n < 10 ^ 38 → places ≤ 38 → numbered b n places ≡ Some (least b n places)
numbered_small b n places h g =
    let s = shortened_is n places in
    let grows = ten_grows (shortened n places).0 s.zeros in
    admitted_some b (shortened n places).0 (shortened n places).1 (omega (arith, s.value, grows)) (omega (arith, s.split))

pub placed_high : (b : Bool) (m up down : ℕ) → down ≤ up → numbered b (m * 10 ^ up) down ≡ admitted b (m * 10 ^ (up - down)) 0
placed_high b m up down h =
    let sum : up ≡ up - down + down = omega arith in
    ap (λ (k : ℕ). numbered b (m * 10 ^ k) down) sum ∙ numbered_high b m (up - down) down

pub placed_low : (b : Bool) (m up down : ℕ) → 0 < m % 10 → up ≤ down → numbered b (m * 10 ^ up) down ≡ admitted b m (down - up)
placed_low b m up down lean h =
    let sum : down ≡ up + (down - up) = omega arith in
    ap (λ (k : ℕ). numbered b (m * 10 ^ up) k) sum ∙ numbered_low b m (down - up) up (λ e. absurd (omega arith))

pub high_wide : (b : Bool) (m by : ℕ) → 0 < m → 38 ≤ by → admitted b (m * 10 ^ by) 0 ≡ None
high_wide b m by some far =
    let rises = ten_rises 38 by far in
    let most : 10 ^ by ≤ m * 10 ^ by = grind arith in
    admitted_wide b (m * 10 ^ by) 0 (omega arith)

pub far_up : (b : Bool) (m up down : ℕ) → 0 < m → down + 38 ≤ up → numbered b (m * 10 ^ up) down ≡ None
far_up b m up down some far = placed_high b m up down (omega arith) ∙ high_wide b m (up - down) some (omega arith)

pub far_down : (b : Bool) (m up down : ℕ) → 0 < m % 10 → up + 38 < down → numbered b (m * 10 ^ up) down ≡ None
far_down b m up down lean far = placed_low b m up down lean (omega arith) ∙ admitted_low b m (down - up) (omega arith)

-- digits that stand as they are
pub admitted_least : (b : Bool) (n places : ℕ) → n < 10 ^ 38 → places ≤ 38 → (n % 10 ≡ 0 → places ≡ 0) → admitted b n places ≡ Some (least b n places)
admitted_least b n places h g lean =
    admitted_some b n places h g ∙ ap (λ (s : ℕ × ℕ). Some (record { unscaled = signed b s.0; scale = s.1 })) (sym (shortened_lean n places lean))

-- a number that is too wide, whatever the power of ten
wide_part : (n up u zeros : ℕ) → IsWide n → n * 10 ^ up ≡ u * 10 ^ zeros → 10 ^ 38 ≤ u
wide_part n up u zeros wide e = by (cases_lt zeros up)
  where
    by : (zeros < up) ⊎ (up ≤ zeros) → 10 ^ 38 ≤ u
    by (inl less) =
        let k = up - zeros in
        let sum : up ≡ k + zeros = omega arith in
        let equal : n * 10 ^ k * 10 ^ zeros ≡ u * 10 ^ zeros = sym (ten_times n k zeros) ∙ ap (λ (j : ℕ). n * 10 ^ j) (sym sum) ∙ e in
        let same : n * 10 ^ k ≡ u = times_cancel (n * 10 ^ k) u (10 ^ zeros) (ten_some zeros) equal in
        let most : 10 ^ 38 ≤ n = wide.digits n 0 (omega arith) in
        let grows = ten_grows n k in
        omega arith
    by (inr more) =
        let k = zeros - up in
        let sum : zeros ≡ k + up = omega arith in
        let equal : n * 10 ^ up ≡ u * 10 ^ k * 10 ^ up = e ∙ ap (λ (j : ℕ). u * 10 ^ j) sum ∙ ten_times u k up in
        wide.digits u k (times_cancel n (u * 10 ^ k) (10 ^ up) (ten_some up) equal)

pub wide_none : (b : Bool) (n up down : ℕ) → IsWide n → numbered b (n * 10 ^ up) down ≡ None
wide_none b n up down wide =
    let h = shortened_is (n * 10 ^ up) down in
    admitted_wide b (shortened (n * 10 ^ up) down).0 (shortened (n * 10 ^ up) down).1 (wide_part n up (shortened (n * 10 ^ up) down).0 h.zeros wide h.value)

pub zero_numbered : (b : Bool) (places : ℕ) → numbered b 0 places ≡ Some (record { unscaled = pos 0; scale = 0 })
zero_numbered b places =
    numbered_pair b 0 places (0, 0) (ap₂ (λ (n p : ℕ). shortened n p) (omega arith) (sym (add-zero places)) ∙ shortened_zeros 0 places 0 ∙ shortened_lean 0 0 (λ _. refl))
    ∙ by b
  where
    by : (b : Bool) → admitted b 0 0 ≡ Some (record { unscaled = pos 0; scale = 0 })
    by true = refl
    by false = refl

pub numbered_whole : (b : Bool) (n : ℕ) → n < 10 ^ 38 → numbered b n 0 ≡ Some (record { unscaled = signed b n; scale = 0 })
numbered_whole b n h = numbered_pair b n 0 (n, 0) (shortened_lean n 0 (λ _. refl)) ∙ admitted_some b n 0 h (omega arith)
