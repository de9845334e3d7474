-- One value has one decimal of least scale.
use Rattle.std.proofs.Common.{◌≡◌, ◌∙◌, ◌⊎◌, inl, inr, sym, ap, ℕ, ◌+◌, ◌-◌, ◌*◌, ◌%◌, ◌^◌, ◌<◌, ℤ, pos, ◌*ℤ◌, unsigned_abs, Bool, Some, ap₂, arith}
use Rattle.std.proofs.lemmas.Bool.{cases_order}
use Rattle.exact_num.specs.Decimal.{Decimal, IsSame, IsNumber, signed, shortened, least, numbered}
use Rattle.exact_num.proofs.Powers.{ten_times, ten_some}
use Rattle.exact_num.proofs.Places.{admitted_some}
use Rattle.exact_num.proofs.Shortening.{shortened_is, least_same}
use Rattle.exact_num.proofs.Signs.{signed_abs, cancel_ℤ, swap_ℤ, abs_times, times_cancel}

pub record IsLean (d : Decimal) : Type 0 where
  pub lean : unsigned_abs d.unscaled % 10 ≡ 0 → d.scale ≡ 0

pub same_sizes : (a b : Decimal) → IsSame a b → unsigned_abs a.unscaled * 10 ^ b.scale ≡ unsigned_abs b.unscaled * 10 ^ a.scale
same_sizes a b e = sym (abs_times a.unscaled (10 ^ b.scale)) ∙ ap unsigned_abs e ∙ abs_times b.unscaled (10 ^ a.scale)

-- a decimal of more places has no zero at the end, and ends in one
pub not_shorter : (m n j k : ℕ) → m * 10 ^ k ≡ n * 10 ^ j → j < k → (n % 10 ≡ 0 → k ≡ 0) → ⊥
not_shorter m n j k e h lean =
    let by = k - j - 1 in
    let sum : k ≡ by + 1 + j = omega arith in
    let equal : m * 10 ^ (by + 1) * 10 ^ j ≡ n * 10 ^ j = sym (ten_times m (by + 1) j) ∙ ap (λ (i : ℕ). m * 10 ^ i) (sym sum) ∙ e in
    let same : m * 10 ^ (by + 1) ≡ n = times_cancel (m * 10 ^ (by + 1)) n (10 ^ j) (ten_some j) equal in
    let more = ten_times m by 1 in
    let none : k ≡ 0 = lean (omega arith) in
    omega arith

pub unique : (a b : Decimal) → IsLean a → IsLean b → IsSame a b → a ≡ b
unique a b lean_a lean_b e = by (cases_order a.scale b.scale)
  where
    by : (a.scale ≡ b.scale) ⊎ ((a.scale < b.scale) ⊎ (b.scale < a.scale)) → a ≡ b
    by (inl same) =
        let integers : a.unscaled ≡ b.unscaled = cancel_ℤ a.unscaled b.unscaled (10 ^ b.scale) (ten_some b.scale) (e ∙ ap (λ (k : ℕ). b.unscaled *ℤ pos (10 ^ k)) same) in
        ap₂ (λ (z : ℤ) (k : ℕ). let d : Decimal = record { unscaled = z; scale = k } in d) integers same
    by (inr (inl less)) = absurd (not_shorter (unsigned_abs a.unscaled) (unsigned_abs b.unscaled) a.scale b.scale (same_sizes a b e) less lean_b.lean)
    by (inr (inr more)) = absurd (not_shorter (unsigned_abs b.unscaled) (unsigned_abs a.unscaled) b.scale a.scale (sym (same_sizes a b e)) more lean_a.lean)

pub same_both : (a b c : Decimal) → IsSame a c → IsSame b c → IsSame a b
same_both a b c e f =
    cancel_ℤ (a.unscaled *ℤ pos (10 ^ b.scale)) (b.unscaled *ℤ pos (10 ^ a.scale)) (10 ^ c.scale) (ten_some c.scale)
    (swap_ℤ a.unscaled (10 ^ b.scale) (10 ^ c.scale)
    ∙ ap (λ (z : ℤ). z *ℤ pos (10 ^ b.scale)) e
    ∙ swap_ℤ c.unscaled (10 ^ a.scale) (10 ^ b.scale)
    ∙ ap (λ (z : ℤ). z *ℤ pos (10 ^ a.scale)) (sym f)
    ∙ swap_ℤ b.unscaled (10 ^ c.scale) (10 ^ a.scale))

least_lean : (minus : Bool) (n places : ℕ) → IsLean (least minus n places)
least_lean minus n places = record {
  lean = λ e. (shortened_is n places).lean (ap (λ (m : ℕ). m % 10) (sym (signed_abs minus (shortened n places).0)) ∙ e);
}

-- the Number of a value is the one that is computed
pub numbered_is : (minus : Bool) (n places : ℕ) (d : Decimal) → IsNumber d → IsSame d (record { unscaled = signed minus n; scale = places }) → numbered minus n places ≡ Some d
numbered_is minus n places d number e =
    let whole : Decimal = record { unscaled = signed minus n; scale = places } in
    let same : least minus n places ≡ d = unique (least minus n places) d (least_lean minus n places) (record { lean = number.least }) (same_both (least minus n places) d whole (least_same minus n places) e) in
    let size : (shortened n places).0 ≡ unsigned_abs d.unscaled = sym (signed_abs minus (shortened n places).0) ∙ ap (λ (x : Decimal). unsigned_abs x.unscaled) same in
    let scale : (shortened n places).1 ≡ d.scale = ap (λ (x : Decimal). x.scale) same in
    admitted_some minus (shortened n places).0 (shortened n places).1 (omega (arith, size, number.size)) (omega (arith, scale, number.places))
    ∙ ap (λ (x : Decimal). Some x) same
