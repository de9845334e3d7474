-- Unscaled integers that have few digits.
use Rattle.std.proofs.Common.{◌≡◌, refl, ℕ, ◌+◌, ◌-◌, ◌^◌, ◌<◌, ◌≤◌, Bool, true, false, cond, nat_lt, nat_le, pos, negsuc, unsigned_abs, List, length, slice_index, Ok, arith, lit<}
use Rattle.std.proofs.Math.Nat.{pow-le-pow_right}
use Rattle.std.proofs.lemmas.Bool.{le-ltb, lt-leb}
use Rattle.std.proofs.lemmas.Bool.Decides.{nat_tests}
use Rattle.exact_num.specs.Unscaled.{signed_number, half, little_integer}
use Rattle.vs_bytes.specs.Numbers.{number}
use Rattle.variant_read.specs.Meaning.{size_in}
use Rattle.variant_read.specs.Primitives.{unscaled_bound, max_scale, decimal_kind}

half_most : (w : ℕ) → half w ≤ 256 ^ w
unfolding half
half_most w = omega arith

pub reach_most : (w n : ℕ) → w ≤ 8 → unsigned_abs (signed_number w n) < unscaled_bound
unfolding signed_number
reach_most w n h =
    let top : 256 ^ w ≤ 256 ^ 8 = pow-le-pow_right {n = 256} (lit< tt) h in
    by (nat_lt n (half w)) refl top
  where
    by : (b : Bool) → nat_lt n (half w) ≡ b → 256 ^ w ≤ 256 ^ 8 → unsigned_abs (cond b (pos n) (negsuc (256 ^ w - 1 - n))) < unscaled_bound
    by true e top =
        let low : n < half w = grind (arith, nat_tests) in
        let two : half w ≤ 256 ^ w = half_most w in
        omega (arith, low, two, top)
    by false e top = omega (arith, top)

-- an integer of at most 8 bytes has at most 38 digits
few_digits : (bytes : List ℕ) (at w : ℕ) → w ≤ 8 → nat_le unscaled_bound (unsigned_abs (little_integer bytes at w)) ≡ false
few_digits bytes at w h = lt-leb unscaled_bound (unsigned_abs (little_integer bytes at w)) (reach_most w (number bytes at w) h)

pub small_read : (bytes : List ℕ) (w : ℕ) → w ≤ 8 → 2 + w ≤ length bytes → slice_index bytes 1 ≤ max_scale → size_in (decimal_kind w bytes) ≡ Ok (2 + w)
unfolding decimal_kind
small_read bytes w small there scale =
    rw (le-ltb (length bytes) (2 + w) there, le-ltb max_scale (slice_index bytes 1) scale, few_digits bytes 2 w small) refl
