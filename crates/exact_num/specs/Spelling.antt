-- JSON numbers as their parts, and the number that the parts mean (RFC 8259, section 6).
use Rattle.std.specs.Prelude.{◌≡◌, ◌⊎◌, ℕ, ◌+◌, ◌-◌, ◌*◌, ◌^◌, Bool, true, false, cond, List, [], ◌∷◌, ◌++◌, length}
use Rattle.std.specs.List.{AllByRecursion}
pub use Rattle.byte_parsing.specs.Words.{IsDigit, IsWhole}
use Rattle.exact_num.specs.Decimal.{Decimal, signed}

-- the sign of an exponent may be left out
pub data Sign : Type 0 where
  unmarked : Sign
  plus : Sign
  minus : Sign

-- its mark (e or E), sign and digits
pub data Exponent : Type 0 where
  no_exponent : Exponent
  exponent : ℕ → Sign → List ℕ → Exponent

-- where there is no point, the fraction has no digits
pub record Written : Type 0 where
  pub negative : Bool
  pub whole : List ℕ
  pub fraction : List ℕ
  pub power : Exponent

-- The bytes.

abbrev pub sign_text : Bool → List ℕ
sign_text negative = cond negative (45 ∷ []) []

abbrev pub fraction_text : List ℕ → List ℕ
fraction_text [] = []
fraction_text (d ∷ ds) = 46 ∷ (d ∷ ds)

abbrev pub mark_text : Sign → List ℕ
mark_text unmarked = []
mark_text plus = 43 ∷ []
mark_text minus = 45 ∷ []

abbrev pub exponent_text : Exponent → List ℕ
exponent_text no_exponent = []
exponent_text (exponent mark sign ds) = mark ∷ (mark_text sign ++ ds)

abbrev pub spelled : Written → List ℕ
spelled w = sign_text w.negative ++ (w.whole ++ (fraction_text w.fraction ++ exponent_text w.power))

-- What the grammar asks of the parts.

-- one digit or more
abbrev pub AreDigits : List ℕ → Type 0
AreDigits [] = ⊥
AreDigits (x ∷ xs) = IsDigit x × AllByRecursion IsDigit xs

abbrev pub IsExponent : Exponent → Type 0
IsExponent no_exponent = Unit {0}
IsExponent (exponent mark sign ds) = ((mark ≡ 69) ⊎ (mark ≡ 101)) × AreDigits ds

-- the text is a number, and these are its parts
pub record IsSpelling (text : List ℕ) (w : Written) : Type 0 where
  pub bytes : text ≡ spelled w
  pub is_whole : IsWhole w.whole
  pub is_fraction : AllByRecursion IsDigit w.fraction
  pub is_exponent : IsExponent w.power

-- how each number text begins
abbrev pub BeginsNumber : List ℕ → Type 0
BeginsNumber [] = ⊥
BeginsNumber (x ∷ xs) = (x ≡ 45) ⊎ IsDigit x

-- What the parts mean.

-- the number that digits stand for, n being what those before them stand for
abbrev pub digits_value : ℕ → List ℕ → ℕ
digits_value n [] = n
digits_value n (d ∷ ds) = digits_value (n * 10 + (d - 48)) ds

abbrev pub is_minus : Sign → Bool
is_minus unmarked = false
is_minus plus = false
is_minus minus = true

abbrev pub is_down : Exponent → Bool
is_down no_exponent = false
is_down (exponent mark sign ds) = is_minus sign

abbrev pub exponent_size : Exponent → ℕ
exponent_size no_exponent = 0
exponent_size (exponent mark sign ds) = digits_value 0 ds

-- the exponent, as a power that multiplies and one that divides
abbrev pub up : Exponent → ℕ
up e = cond (is_down e) 0 (exponent_size e)

abbrev pub down : Exponent → ℕ
down e = cond (is_down e) (exponent_size e) 0

-- the integer of all digits, and the places after the point
abbrev pub meaning : Written → Decimal
meaning w = record {
  unscaled = signed w.negative (digits_value 0 (w.whole ++ w.fraction) * 10 ^ up w.power);
  scale = length w.fraction + down w.power;
}
