-- Numbers as integers of a given scale.
use Rattle.std.specs.Prelude.{ℕ, ◌^◌, ◌<◌, ℤ, unsigned_abs}
use Rattle.exact_num.specs.Decimal.{Decimal, IsSame}

-- u / 10 ^ scale is the number, and u has `precision` digits at most
pub record IsOver (precision scale : ℕ) (d : Decimal) (u : ℤ) : Type 0 where
  pub same : IsSame (record { unscaled = u; scale = scale }) d
  pub size : unsigned_abs u < 10 ^ precision
