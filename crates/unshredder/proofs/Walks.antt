-- Leaves one by one.
use Rattle.std.proofs.Common.{◌≡◌, ℕ, suc, ◌+◌, ◌-◌, ◌<◌, Bool, true, false, refl, arith}
use Rattle.shred_schema.specs.Ranges.{is_any_read}

pub leaf_passed : (mask : ℕ → Bool) (k end : ℕ) → k < end → mask k ≡ false → is_any_read mask (k + 1) (end - (k + 1)) ≡ is_any_read mask k (end - k)
leaf_passed mask k end h e = let one : end - k ≡ suc (end - (k + 1)) = omega (arith, h) in rw (one, e) refl

pub leaf_read : (mask : ℕ → Bool) (k end : ℕ) → k < end → mask k ≡ true → is_any_read mask k (end - k) ≡ true
leaf_read mask k end h e = let one : end - k ≡ suc (end - (k + 1)) = omega (arith, h) in rw (one, e) refl
