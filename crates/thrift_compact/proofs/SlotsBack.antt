-- Fields that are written fill their slots, and are those of a table.
use Rattle.std.proofs.Common.{◌≡◌, refl, ap, ◌^◌, ◌<◌, ◌≤◌, ℕ, nat_lt, ℤ, pos, negsuc, int_lt, Option, None, Some, false, arith}
use Rattle.std.proofs.lemmas.Bool.Decides.{nat_tests}
use Rattle.thrift_compact.specs.Trees.{Value, Fields, no_fields, with_field}
use Rattle.thrift_compact.specs.Coded.{maybe}
use Rattle.thrift_compact.specs.Fitting.{AllFields}
use Rattle.thrift_compact.specs.Slots.{filled, optional}
use Rattle.thrift_compact.specs.PageWriting.{IsCount}
use Rattle.thrift_compact.specs.declared.slots.Slot.{Slot}
use Rattle.thrift_compact.specs.declared.slots.Slot.TheVariants.{Missing, Found}

-- The slots of a struct that was written.

pub not_negative : (z : ℤ) → IsCount z → int_lt z (pos 0) ≡ false
not_negative (pos n) c = (let e : nat_lt n 0 ≡ false = grind (arith, nat_tests) in e)
not_negative (negsuc n) c = absurd (grind (arith, nat_tests))

abbrev pub slot_of : {A : Type 0} → Option A → Slot A
slot_of None = Missing
slot_of (Some a) = Found a

pub optional_slot : {A : Type 0} (x : Option A) → optional (slot_of x) ≡ Some x
optional_slot None = refl
optional_slot (Some a) = refl

-- an optional field fills its slot
pub step : {A D : Type 0} (put : D → ℤ → Value → D) (set : Slot A → D) (i : ℤ) (tree : A → Value) (x : Option A) (fs : Fields) → ((a : A) → x ≡ Some a → put (set Missing) i (tree a) ≡ set (Found a)) → filled put (set Missing) (maybe i tree x fs) ≡ filled put (set (slot_of x)) fs
unfolding filled
step put set i tree None fs h = refl
step {D = D} put set i tree (Some a) fs h = ap (λ (d : D). filled put d fs) (h a refl)

-- What the tables allow.

pub weaken : (Allowed : ℤ → Value → Type 0) (last i : ℕ) (fs : Fields) → last ≤ i → AllFields Allowed i fs → AllFields Allowed last fs
weaken Allowed last i no_fields h f = tt
weaken Allowed last i (with_field id v fs) h f = (f.0, omega (arith, h, f.1), f.2, f.3, f.4)

pub maybe_fit : {A : Type 0} (Allowed : ℤ → Value → Type 0) (last i : ℕ) (tree : A → Value) (x : Option A) (fs : Fields) → last < i → i < 2 ^ 15 → ((a : A) → x ≡ Some a → Allowed (pos i) (tree a)) → AllFields Allowed i fs → AllFields Allowed last (maybe (pos i) tree x fs)
maybe_fit Allowed last i tree None fs rises small g f = weaken Allowed last i fs (omega (arith, rises)) f
maybe_fit Allowed last i tree (Some a) fs rises small g f = (refl, rises, small, g a refl, f)
