-- Which leaves are in a range, and tests on all of them.
use Rattle.std.proofs.Common.{◌≡◌, ℕ, suc, ◌+◌, ◌≤◌, ◌<◌, ◌==◌, true, false, arith}
use Rattle.std.proofs.lemmas.Bool.Decides.{nat_tests}
use Rattle.shred_schema.specs.Ranges.{is_among}

pub among_from : (j k c : ℕ) → k ≤ j → j < k + c → is_among j k c ≡ true
among_from j k c = grind (arith, nat_tests)

pub among_low : (j k c : ℕ) → is_among j k c ≡ true → k ≤ j
among_low j k c = grind (arith, nat_tests)

pub among_high : (j k c : ℕ) → is_among j k c ≡ true → j < k + c
among_high j k c = grind (arith, nat_tests)

pub among_none : (j k : ℕ) → is_among j k 0 ≡ false
among_none j k = grind (arith, nat_tests)

pub among_one : (j k : ℕ) → is_among j k 1 ≡ (j == k)
among_one j k = grind (arith, nat_tests)

pub among_first : (k c : ℕ) → is_among k k (suc c) ≡ true
among_first k c = grind (arith, nat_tests)

pub among_rest : (j k c : ℕ) → is_among j (k + 1) c ≡ true → is_among j k (suc c) ≡ true
among_rest j k c = grind (arith, nat_tests)

pub among_left : (j k a b : ℕ) → is_among j k a ≡ true → is_among j k (a + b) ≡ true
among_left j k a b = grind (arith, nat_tests)

pub among_right : (j k a b : ℕ) → is_among j (k + a) b ≡ true → is_among j k (a + b) ≡ true
among_right j k a b = grind (arith, nat_tests)

pub left_not_right : (j k a b : ℕ) → is_among j k a ≡ true → is_among j (k + a) b ≡ false
left_not_right j k a b = grind (arith, nat_tests)

pub right_not_left : (j k a b : ℕ) → is_among j (k + a) b ≡ true → is_among j k a ≡ false
right_not_left j k a b = grind (arith, nat_tests)

pub out_left : (j k a b : ℕ) → is_among j k (a + b) ≡ false → is_among j k a ≡ false
out_left j k a b = grind (arith, nat_tests)

pub out_right : (j k a b : ℕ) → is_among j k (a + b) ≡ false → is_among j (k + a) b ≡ false
out_right j k a b = grind (arith, nat_tests)
