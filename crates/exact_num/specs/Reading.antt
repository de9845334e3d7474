-- What a reader of number texts answers.
use Rattle.std.specs.Prelude.{◌≡◌, ℕ, ◌+◌, ◌*◌, ◌^◌, List, ◌++◌, length, Option, Some, None, Result, Ok, Err, ok_or, MatchResult}
use Rattle.exact_num.specs.Decimal.{Decimal, IsSame, IsAdmitted, numbered}
use Rattle.exact_num.specs.Spelling.{Written, IsSpelling, meaning, digits_value, up, down}
use Rattle.exact_num.specs.Parsing.{parsed}
use Rattle.exact_num.specs.declared.fault.NumFault.{NumFault}
use Rattle.exact_num.specs.declared.fault.NumFault.TheVariants.{NotNumber, TooWide}

-- As a relation: the parts and what they mean.

-- some parts that the text spells have the decimal's value
abbrev pub IsRead : List ℕ → Decimal → Type 0
IsRead text d = (w : Written) × (IsSpelling text w × IsSame d (meaning w))

abbrev pub IsFault : List ℕ → NumFault → Type 0
IsFault text NotNumber = (w : Written) → IsSpelling text w → ⊥
IsFault text TooWide = (w : Written) × (IsSpelling text w × (IsAdmitted (meaning w) → ⊥))

-- As a function of the text.

-- the Number of what the parts mean
unfoldable pub number_of : Written → Option Decimal
number_of w = numbered w.negative (digits_value 0 (w.whole ++ w.fraction) * 10 ^ up w.power) (length w.fraction + down w.power)

abbrev pub read_from : Option Written → Result Decimal NumFault
read_from None = Err NotNumber
read_from (Some w) = ok_or (number_of w) TooWide

abbrev pub read_of : List ℕ → Result Decimal NumFault
read_of text = read_from (parsed text)

-- the result is the defined one, seen through `view`
abbrev pub Gives : {A B F : Type 0} → (A → B) → Result A F → Result B F → Type 0
Gives view result defined = MatchResult result (λ a. defined ≡ Ok (view a)) (λ fault. defined ≡ Err fault)
