-- Lists that are read part by part.
use Rattle.std.proofs.Common.{◌≡◌, refl, ℕ, ◌+◌, List, [], ◌++◌, append_assoc, Result, Ok, Err, arith}
use Rattle.std.proofs.Math.Nat.{add_assoc}
use Rattle.vs_bytes.specs.PartsInTurn.{after}

pub after_none : {A F : Type 0} → (rest : Result (List A × ℕ) F) → after [] 0 rest ≡ rest
after_none (Ok p) = let e : 0 + p.1 ≡ p.1 = omega arith in rw e refl
after_none (Err fault) = refl

pub after_after : {A F : Type 0} → (xs ys : List A) (m n : ℕ) (rest : Result (List A × ℕ) F) → after xs m (after ys n rest) ≡ after (xs ++ ys) (m + n) rest
after_after xs ys m n (Ok p) = rw (append_assoc xs ys p.0, add_assoc m n p.1) refl
after_after xs ys m n (Err fault) = refl
