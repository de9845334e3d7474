-- A refusal that is handed on.
use Rattle.std.proofs.Common.{◌≡◌, Option, None, Err}
use Rattle.vs_bytes.specs.Outcome.{Reads}
use Rattle.vs_bytes.specs.declared.refused.Refused.{Refused}
use Rattle.vs_bytes.specs.declared.refused.Refused.TheVariants.{Fault, NoMemory}

-- where no part is read, nothing is
pub fails : {B D F : Type 0} (refused : Refused F) (part : Option B) (all : Option D) → Reads {A = B} {F = F} (λ x. x) (Err refused) part → (part ≡ None → all ≡ None) → Reads {A = D} {F = F} (λ x. x) (Err refused) all
fails (Fault fault) part all h k = k h
fails NoMemory part all h k = tt
