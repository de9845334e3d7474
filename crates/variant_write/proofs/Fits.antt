-- Numbers fit their widths.
use Rattle.std.proofs.Common.{ℕ, zero, suc, ◌<◌, ◌≤◌, ◌^◌, List, [], ◌∷◌, get_or, length, arith, lit<}
use Rattle.std.proofs.Math.Nat.{one-le-pow}
use Rattle.variant_write.specs.Coded.{greatest}

-- 0 fits any width
pub zero_fits : (w : ℕ) → 0 < 256 ^ w
zero_fits w = let h : 1 ≤ 256 ^ w = one-le-pow w 256 (lit< tt) in omega (arith, h)

-- each id is at most the greatest
pub ids_below : (bound : ℕ) (ids : List ℕ) (k d : ℕ) → greatest ids < bound → k < length ids → get_or ids k d < bound
ids_below bound [] k d most inside = absurd (omega (arith, inside))
ids_below bound (id ∷ ids) zero d most inside = omega (arith, most)
ids_below bound (id ∷ ids) (suc k) d most inside = ids_below bound ids k d (omega (arith, most)) (omega (arith, inside))
