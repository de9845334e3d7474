-- Runs of digits.
use Rattle.std.proofs.Common.{◌≡◌, ℕ, ◌≤◌, List, ◌++◌, true, false, ◌==◌, arith}
use Rattle.std.specs.List.{AllByRecursion, list_all}
use Rattle.std.proofs.lemmas.Bool.Decides.{nat_tests}
use Rattle.byte_parsing.specs.Parse as bytes
use Rattle.byte_parsing.proofs.Runs as runs
use Rattle.byte_parsing.proofs.WholeNumbers as wholes
use Rattle.exact_num.specs.Parsing.{is_digit, is_whole, front, back}
use Rattle.exact_num.specs.Spelling.{IsDigit, IsWhole}

pub is_digit_true : (x : ℕ) → IsDigit x → is_digit x ≡ true
is_digit_true x h = wholes.digit_passes x h

pub digit_other : (x y : ℕ) → IsDigit x → y ≤ 47 → (x == y) ≡ false
digit_other x y h g = grind (arith, nat_tests)

pub digits_are : (xs : List ℕ) → list_all is_digit xs ≡ true → AllByRecursion IsDigit xs
digits_are xs h = wholes.digits_are xs (runs.pass_all is_digit xs h)

pub are_digits : (xs : List ℕ) → AllByRecursion IsDigit xs → list_all is_digit xs ≡ true
are_digits xs h = runs.all_pass is_digit xs (wholes.digits_pass xs h)

pub split_run : (xs : List ℕ) → xs ≡ front xs ++ back xs
split_run xs = runs.split_run is_digit xs

pub front_digits : (xs : List ℕ) → AllByRecursion IsDigit (front xs)
front_digits xs = wholes.digits_are (front xs) (runs.front_passes is_digit xs)

-- the first byte, if there is one, is no digit
abbrev pub Stops : List ℕ → Type 0
Stops rest = bytes.Stops is_digit rest

pub front_run : (ds rest : List ℕ) → AllByRecursion IsDigit ds → Stops rest → front (ds ++ rest) ≡ ds
front_run ds rest h s = runs.front_run is_digit ds rest (wholes.digits_pass ds h) s

pub back_run : (ds rest : List ℕ) → AllByRecursion IsDigit ds → Stops rest → back (ds ++ rest) ≡ rest
back_run ds rest h s = runs.back_run is_digit ds rest (wholes.digits_pass ds h) s

pub whole_is : (ds : List ℕ) → AllByRecursion IsDigit ds → is_whole ds ≡ true → IsWhole ds
whole_is ds all h = wholes.whole_is ds (wholes.digits_pass ds all) h

pub whole_digits : (ds : List ℕ) → IsWhole ds → AllByRecursion IsDigit ds
whole_digits ds h = wholes.whole_digits ds h

pub is_whole_true : (ds : List ℕ) → IsWhole ds → is_whole ds ≡ true
is_whole_true ds h = wholes.whole_is_true ds h
