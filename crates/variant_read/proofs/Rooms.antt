-- Room for the parts of an object or array.
use Rattle.std.proofs.Common.{◌≡◌, ℕ, suc, ◌+◌, ◌*◌, ◌^◌, ◌<◌, ◌≤◌, arith, mul-le-mul_right, mul-le-mul_left, suc-mul}

-- one of `n` numbers of `w` bytes
pub number_room : (k n w : ℕ) → k < n → k * w + w ≤ n * w
number_room k n w h =
    let more : suc k * w ≤ n * w = mul-le-mul_right w (omega (arith, h)) in
    let step : suc k * w ≡ k * w + w = suc-mul k w in
    omega (arith, more, step)

pub numbers_small : (n w : ℕ) → n < 2 ^ 33 → w ≤ 4 → n * w < 2 ^ 35
numbers_small n w few most =
    let top : n * w ≤ n * 4 = mul-le-mul_left n most in
    omega (arith, few, top)
