-- Exponents that are cut.
use Rattle.std.proofs.Common.{◌≡◌, ℕ, ◌+◌, ◌-◌, ◌*◌, ◌^◌, min, List, [], ◌∷◌, arith}
use Rattle.exact_num.specs.Spelling.{digits_value}

cut_like : (ds : List ℕ) (a b : ℕ) → min a (10 ^ 24) ≡ min b (10 ^ 24) → min (digits_value a ds) (10 ^ 24) ≡ min (digits_value b ds) (10 ^ 24)
cut_like [] a b e = e
cut_like (d ∷ ds) a b e = cut_like ds (a * 10 + (d - 48)) (b * 10 + (d - 48)) (omega arith)

pub cut_after : (ds : List ℕ) (a : ℕ) → min (digits_value (min a (10 ^ 24)) ds) (10 ^ 24) ≡ min (digits_value a ds) (10 ^ 24)
cut_after ds a = cut_like ds (min a (10 ^ 24)) a (omega arith)

pub cut_next : (ds : List ℕ) (a b : ℕ) → b ≡ min a (10 ^ 24) → min (digits_value b ds) (10 ^ 24) ≡ min (digits_value a ds) (10 ^ 24)
cut_next ds a b e = cut_like ds b a (omega arith)
