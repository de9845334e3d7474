-- What an Ok in two steps came from.
use Rattle.std.proofs.Common.{◌≡◌, refl, Result, Ok, Err}
use Rattle.vs_bytes.specs.Outcome.{◌>>=◌}

-- the first step gave a value, and the second one gave `b` of it
pub record Steps {A B F : Type 0} (r : Result A F) (f : A → Result B F) (b : B) : Type 0 where
  pub value : A
  pub is : r ≡ Ok value
  pub rest : f value ≡ Ok b

pub steps_of : {A B F : Type 0} (r : Result A F) (f : A → Result B F) (b : B) → (r >>= f) ≡ Ok b → Steps r f b
steps_of (Ok a) f b h = record { value = a; is = refl; rest = h }
steps_of (Err e) f b h = absurd cc

-- a result that has a value
pub record Has {A F : Type 0} (r : Result A F) : Type 0 where
  pub value : A
  pub is : r ≡ Ok value
