-- Numbers over a given power of ten.
use Rattle.std.proofs.Common.{◌≡◌, ◌∙◌, sym, ap, ℕ, ◌+◌, ◌-◌, ◌*◌, ◌^◌, ◌<◌, ◌≤◌, ℤ, pos, ◌*ℤ◌, int_lt, unsigned_abs, arith}
use Rattle.exact_num.specs.Decimal.{Decimal, IsSame, signed}
use Rattle.exact_num.specs.Fitting.{IsOver}
use Rattle.exact_num.proofs.Powers.{ten_times, ten_some}
use Rattle.exact_num.proofs.Signs.{sign_back, signed_abs, signed_times, times_cancel}
use Rattle.exact_num.proofs.Uniqueness.{IsLean, same_sizes, not_shorter}

-- no integer over a lower power
pub over_less : (d : Decimal) (u : ℤ) (scale : ℕ) → IsLean d → scale < d.scale → IsSame (record { unscaled = u; scale = scale }) d → ⊥
over_less d u scale lean less e =
    not_shorter (unsigned_abs u) (unsigned_abs d.unscaled) scale d.scale (same_sizes (record { unscaled = u; scale = scale }) d e) less lean.lean

-- the digits and more zeros
more_zeros : (n j k : ℕ) → j ≤ k → n * 10 ^ k ≡ n * 10 ^ (k - j) * 10 ^ j
more_zeros n j k h = ap (λ (i : ℕ). n * 10 ^ i) (let sum : k ≡ k - j + j = omega arith in sum) ∙ ten_times n (k - j) j

pub over_size : (d : Decimal) (precision scale : ℕ) (u : ℤ) → d.scale ≤ scale → IsOver precision scale d u → unsigned_abs u ≡ unsigned_abs d.unscaled * 10 ^ (scale - d.scale)
over_size d precision scale u h over =
    times_cancel (unsigned_abs u) (unsigned_abs d.unscaled * 10 ^ (scale - d.scale)) (10 ^ d.scale) (ten_some d.scale)
    (same_sizes (record { unscaled = u; scale = scale }) d over.same ∙ more_zeros (unsigned_abs d.unscaled) d.scale scale h)

pub over_wide : (d : Decimal) (precision scale : ℕ) (u : ℤ) → d.scale ≤ scale → 10 ^ precision ≤ unsigned_abs d.unscaled * 10 ^ (scale - d.scale) → IsOver precision scale d u → ⊥
over_wide d precision scale u h wide over = let size = over_size d precision scale u h over in omega (arith, over.size, size, wide)

pub over_is : (d : Decimal) (precision scale size : ℕ) (u : ℤ) → d.scale ≤ scale → size ≡ unsigned_abs d.unscaled * 10 ^ (scale - d.scale) → size < 10 ^ precision → u ≡ signed (int_lt d.unscaled (pos 0)) size → IsOver precision scale d u
over_is d precision scale size u h value small e =
    let minus = int_lt d.unscaled (pos 0) in
    let sizes : size * 10 ^ d.scale ≡ unsigned_abs d.unscaled * 10 ^ scale =
    ap (λ (n : ℕ). n * 10 ^ d.scale) value ∙ sym (more_zeros (unsigned_abs d.unscaled) d.scale scale h) in
    record {
      same =
          ap (λ (z : ℤ). z *ℤ pos (10 ^ d.scale)) e
          ∙ signed_times minus size (10 ^ d.scale)
          ∙ ap (λ (n : ℕ). signed minus n) sizes
          ∙ sym (signed_times minus (unsigned_abs d.unscaled) (10 ^ scale))
          ∙ ap (λ (z : ℤ). z *ℤ pos (10 ^ scale)) (sign_back d.unscaled);
      size = omega (arith, ap unsigned_abs e ∙ signed_abs minus size, small);
    }
