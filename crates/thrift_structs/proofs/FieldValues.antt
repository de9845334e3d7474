-- What fields hold.
use Rattle.std.proofs.Common.{◌≡◌, refl, ap, Option, None, Result, Ok, Err}
use Rattle.vs_bytes.specs.Outcome.{Makes}
use Rattle.vs_bytes.specs.declared.refused.Refused.{Refused}
use Rattle.vs_bytes.specs.declared.refused.Refused.TheVariants.{Fault, NoMemory}
use Rattle.thrift_compact.specs.Numbers.{Read, mapped}
use Rattle.thrift_compact.specs.Trees.{Value, Fields, other, struct_value}
use Rattle.thrift_compact.specs.Slots.{put, struct_in}
use Rattle.thrift_compact.specs.declared.slots.Slot.{Slot}

-- a value that was passed over breaks the slot
pub put_other : {A : Type 0} (read : Value → Option A) (old : Slot A) → read other ≡ None → put old (read other) ≡ put old None
put_other {A = A} read old e = ap (λ (x : Option A). put old x) e

pub struct_is : {A : Type 0} (read : Fields → Option A) (found : Read Fields) → mapped (struct_in read) (mapped struct_value found) ≡ mapped read found
struct_is read (Ok fs) = refl
struct_is read (Err fault) = refl

-- A refusal that is handed on: where a part has a fault, the whole has it.
pub makes_fails : {B D F : Type 0} (refused : Refused F) (part : Result B F) (all : Result D F) → Makes {A = B} {F = F} (λ x. x) (Err refused) part → ((fault : F) → part ≡ Err fault → all ≡ Err fault) → Makes {A = D} {F = F} (λ x. x) (Err refused) all
makes_fails (Fault fault) part all h k = k fault h
makes_fails NoMemory part all h k = tt
