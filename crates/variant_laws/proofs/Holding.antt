-- What holds of a result wherever there is one.
use Rattle.std.proofs.Common.{◌≡◌, refl, subst, Bool, true, false, cond, Result, Ok, Err}
use Rattle.vs_bytes.specs.Outcome.{◌>>=◌}

-- P holds of what is given, if anything is
pub record Holds {A F : Type 0} (P : A → Type 0) (outcome : Result A F) : Type 0 where
  pub held : (a : A) → outcome ≡ Ok a → P a

pub holds_ok : {A F : Type 0} (P : A → Type 0) (a : A) → P a → Holds {F = F} P (Ok a)
holds_ok P a p = record { held = λ b e. let same : a ≡ b = cc in subst P same p }

pub holds_err : {A F : Type 0} (P : A → Type 0) (fault : F) → Holds P (Err fault)
holds_err P fault = record { held = λ b e. absurd (cc) }

pub holds_if : {A F : Type 0} (P : A → Type 0) (b : Bool) (x y : Result A F) → (b ≡ true → Holds P x) → (b ≡ false → Holds P y) → Holds P (cond b x y)
holds_if P true x y f g = f refl
holds_if P false x y f g = g refl

pub holds_then : {A B F : Type 0} (P : A → Type 0) (Q : B → Type 0) (o : Result A F) (f : A → Result B F) → Holds P o → ((a : A) → P a → Holds Q (f a)) → Holds Q (o >>= f)
holds_then P Q (Ok a) f h on = on a (h.held a refl)
holds_then P Q (Err fault) f h on = holds_err Q fault
