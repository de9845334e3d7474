-- An index of nine digits fits into 32 bits.
use Rattle.std.proofs.Common.{◌<◌, ◌^◌, ℕ, arith}
use Rattle.exact_num.proofs.Powers.{ten_rises}

pub digit_fits : (v i : ℕ) → v < 10 ^ i → i < 9 → v < 10 ^ 8
digit_fits v i h less = let most = ten_rises i 8 (omega arith) in omega arith
