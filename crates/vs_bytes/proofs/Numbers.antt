-- Numbers of a count of bytes.
use Rattle.std.proofs.Common.{◌^◌, ◌<◌, ◌≤◌, ◌⊎◌, inl, inr, ℕ, suc, List, ◌+◌, slice_index, get_or-drop, drop, arith, lit<}
use Rattle.std.proofs.Math.Nat.{pow-le-pow_right}
use Rattle.std.proofs.lemmas.Bool.{cases_lt}
use Rattle.byteorder.specs.Numbers.{little_from-lt}
use Rattle.vs_bytes.specs.Numbers.{number}

-- a number of bytes fits as many
pub number_fits : (bytes : List ℕ) (at width : ℕ) → ((k : ℕ) → slice_index bytes k < 256) → number bytes at width < 256 ^ width
number_fits bytes at width small = little_from-lt 0 width (drop at bytes) (λ k. rw (get_or-drop at bytes k 0) (small (at + k)))

-- a count of at most 4 bytes keeps a number below 2 ^ 32
pub four_bytes : (n width : ℕ) → width ≤ 4 → n < 256 ^ width → n < 4294967296
four_bytes n width most fits =
    let top : 256 ^ width ≤ 256 ^ 4 = pow-le-pow_right {n = 256} (lit< tt) most in
    omega (arith, fits, top)

-- a number that doesn't fit k bytes needs more
pub more_bytes : (n k width : ℕ) → 256 ^ k ≤ n → n < 256 ^ width → suc k ≤ width
more_bytes n k width low high = by (cases_lt k width)
  where
    by : (k < width) ⊎ (width ≤ k) → suc k ≤ width
    by (inl more) = omega (arith, more)
    by (inr less) =
        let top : 256 ^ width ≤ 256 ^ k = pow-le-pow_right {n = 256} (lit< tt) less in
        omega (arith, low, high, top)
