-- Numbers that need too many digits, and exponents that are cut.
use Rattle.std.specs.Prelude.{◌≡◌, ℕ, ◌*◌, ◌^◌, ◌≤◌, min, Option, Some, None}
use Rattle.exact_num.specs.Decimal.{max_digits}
use Rattle.exact_num.specs.Spelling.{Exponent, is_down, exponent_size}
use Rattle.exact_num.specs.declared.exponent.CutExponent.{CutExponent}

-- too many digits also without the zeros at the end: no power of ten helps
pub record IsWide (n : ℕ) : Type 0 where
  pub digits : (m zeros : ℕ) → n ≡ m * 10 ^ zeros → 10 ^ max_digits ≤ m

-- the exponent, or 10 ^ 24 in its place where it is further from 0 than that
pub record IsCut (p : CutExponent) (e : Exponent) : Type 0 where
  pub sign : p.down ≡ is_down e
  pub size : p.size ≡ min (exponent_size e) (10 ^ 24)

abbrev pub IsCutOption : Option CutExponent → Option Exponent → Type 0
IsCutOption None None = Unit {0}
IsCutOption None (Some e) = ⊥
IsCutOption (Some p) None = ⊥
IsCutOption (Some p) (Some e) = IsCut p e
