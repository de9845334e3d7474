-- What is read of 1 to 10 digits.
use Rattle.std.proofs.Common.{◌≡◌, ◌^◌, ◌<◌, refl, ℕ, List, length, true, false, nat_le, None, Err, arith}
use Rattle.std.proofs.lemmas.Bool.{and_right}
use Rattle.std.proofs.lemmas.Bool.Decides.{nat_tests}
use Rattle.std.proofs.lemmas.Str.Parse.{IsNumeralModel, numerals_by_value, tells_all_ascii_digits, parse_digits}
use Rattle.std.specs.Str.{all_ascii_digits}
use Rattle.std.specs.Str.Parse.{digits_value, ParsesUnsigned}
use Rattle.command_words.specs.Numbers.{is_number, number_within}
use Rattle.command_words.specs.declared.numbers.NumberRange.{NumberRange}

own : IsNumeralModel (λ ds. all_ascii_digits ds ≡ true) (digits_value 10)
own = numerals_by_value _ tells_all_ascii_digits

-- a number that isn't read is greater than any of a range
pub above_all : {E : Type 0} → (range : NumberRange) (text : List ℕ) (error : E) → is_number text ≡ true → range.most < 2 ^ 32 → ParsesUnsigned 32 10 text (Err error) → number_within range text ≡ None
above_all range text error is small parsed =
    let filled : 0 < length text = grind (arith, nat_tests) in
    let digits : all_ascii_digits text ≡ true = grind (arith, nat_tests) in
    let large = parse_digits own 32 text (Err error) parsed digits in
    let above : range.most < digits_value 10 text = large_above (digits_value 10 text) range.most (λ less. large (filled, less)) small in
    let over : nat_le (digits_value 10 text) range.most ≡ false = grind (arith, nat_tests) in
    rw (is, over, and_right (nat_le range.least (digits_value 10 text)) false refl) refl
  where
    large_above : (n most : ℕ) → (n < 2 ^ 32 → ⊥) → most < 2 ^ 32 → most < n
    large_above n most short less = grind (arith, nat_tests)
