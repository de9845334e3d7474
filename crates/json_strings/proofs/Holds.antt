-- What holds of a value that is read, if one is.
use Rattle.std.proofs.Common.{◌≡◌, refl, subst, Bool, true, false, cond, Option, Some, None}
use Rattle.std.specs.Prelude.{option_and_then}
use Rattle.std.specs.Option.{option_map}

pub record Holds {A : Type 0} (P : A → Type 0) (o : Option A) : Type 0 where
  pub here : (a : A) → o ≡ Some a → P a

pub holds_none : {A : Type 0} (P : A → Type 0) → Holds P None
holds_none P = record { here = λ a e. cc }

pub holds_some : {A : Type 0} (P : A → Type 0) (a : A) → P a → Holds P (Some a)
holds_some P a p = record { here = λ b e. let same : a ≡ b = cc in subst P same p }

pub holds_then : {A B : Type 0} (Q : A → Type 0) (P : B → Type 0) (o : Option A) (f : A → Option B) → Holds Q o → ((a : A) → Q a → Holds P (f a)) → Holds P (option_and_then f o)
holds_then Q P None f h k = holds_none P
holds_then Q P (Some a) f h k = k a (h.here a refl)

pub holds_map : {A B : Type 0} (Q : A → Type 0) (P : B → Type 0) (o : Option A) (f : A → B) → Holds Q o → ((a : A) → Q a → P (f a)) → Holds P (option_map f o)
holds_map Q P None f h k = holds_none P
holds_map Q P (Some a) f h k = holds_some P (f a) (k a (h.here a refl))

pub holds_if : {A : Type 0} (P : A → Type 0) (b : Bool) (o q : Option A) → (b ≡ true → Holds P o) → (b ≡ false → Holds P q) → Holds P (cond b o q)
holds_if P true o q h k = h refl
holds_if P false o q h k = k refl
