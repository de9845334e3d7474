-- Exact decimals: integers over powers of ten.
use Rattle.std.specs.Prelude.{◌≡◌, ◌==◌, ◌&&◌, nat_lt, nat_le, ℕ, zero, suc, ◌/◌, ◌%◌, ◌^◌, ◌<◌, ◌≤◌, Bool, cond, ℤ, pos, neg_ℤ, ◌*ℤ◌, unsigned_abs, Option, Some, None}
use Rattle.std.specs.Ordering.{int_cmp}
use Rattle.std.specs.declared.cmp.Ordering.{Ordering}

-- the number unscaled / 10 ^ scale
pub record Decimal : Type 0 where
  pub unscaled : ℤ
  pub scale : ℕ

-- two decimals are one number
abbrev pub IsSame : Decimal → Decimal → Type 0
IsSame a b = a.unscaled *ℤ pos (10 ^ b.scale) ≡ b.unscaled *ℤ pos (10 ^ a.scale)

-- their order as numbers
abbrev pub order : Decimal → Decimal → Ordering
order a b = int_cmp (a.unscaled *ℤ pos (10 ^ b.scale)) (b.unscaled *ℤ pos (10 ^ a.scale))

-- a Number has so many digits at most, and so many of them after the point
abbrev pub max_digits : ℕ
max_digits = 38

abbrev pub max_places : ℕ
max_places = 38

-- what a Number is, which has no zero at the end after the point
pub record IsNumber (d : Decimal) : Type 0 where
  pub size : unsigned_abs d.unscaled < 10 ^ max_digits
  pub places : d.scale ≤ max_places
  pub least : unsigned_abs d.unscaled % 10 ≡ 0 → d.scale ≡ 0

-- some Number has the decimal's value
abbrev pub IsAdmitted : Decimal → Type 0
IsAdmitted d = (n : Decimal) × (IsNumber n × IsSame n d)

-- There is one such Number at most, and it computes: zeros at the end are taken off as long as there
-- are places after the point.

-- the integer of a sign and a size; there is no negative 0
abbrev pub signed : Bool → ℕ → ℤ
signed minus n = cond minus (neg_ℤ (pos n)) (pos n)

-- n / 10 ^ places in least scale, as a pair of integer and scale
unfoldable pub shortened : ℕ → ℕ → ℕ × ℕ
shortened n zero = (n, zero)
shortened n (suc places) = cond (n % 10 == 0) (shortened (n / 10) places) (n, suc places)

-- the decimal of least scale
abbrev pub least : Bool → ℕ → ℕ → Decimal
least minus n places = record { unscaled = signed minus (shortened n places).0; scale = (shortened n places).1 }

-- the decimal, if so many digits and places are enough for it
abbrev pub admitted : Bool → ℕ → ℕ → Option Decimal
admitted minus n places =
    cond (nat_lt n (10 ^ max_digits) && nat_le places max_places) (Some (record { unscaled = signed minus n; scale = places })) None

-- the Number of the value n / 10 ^ places, or its negative
abbrev pub numbered : Bool → ℕ → ℕ → Option Decimal
numbered minus n places = admitted minus (shortened n places).0 (shortened n places).1
