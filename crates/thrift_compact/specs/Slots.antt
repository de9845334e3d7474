-- Structs by their fields. Each known field of a struct has a slot, and the fields fill the slots in their order:
-- a field that stands twice, or that can't be read, breaks its slot.
use Rattle.std.specs.Prelude.{ℕ, ℤ, pos, int_lt, if◌then◌else◌, Option, Some, None}
use Rattle.std.specs.Ordering.{int_eq}
use Rattle.thrift_compact.specs.Trees.{Value, Fields, i32_value, struct_value, no_fields, with_field}
use Rattle.thrift_compact.specs.declared.slots.Slot.{Slot}
use Rattle.thrift_compact.specs.declared.slots.Slot.TheVariants.{Missing, Found, Broken}

-- what `f` gives of a value that is there
infixl 10 ◌>>?◌
abbrev pub ◌>>?◌ : {A B : Type 0} → Option A → (A → Option B) → Option B
None >>? f = None
(Some a) >>? f = f a

abbrev pub put : {A : Type 0} → Slot A → Option A → Slot A
put Missing (Some a) = Found a
put Missing None = Broken
put (Found a) read = Broken
put Broken read = Broken

-- field `id` in the slot of field i, read by `read`
abbrev pub put_at : {A : Type 0} → ℕ → (Value → Option A) → ℤ → Value → Slot A → Slot A
put_at i read id v slot = if int_eq id (pos i) then put slot (read v) else slot

-- the slots that the fields fill
unfoldable pub filled : {D : Type 0} → (D → ℤ → Value → D) → D → Fields → D
filled put_field d no_fields = d
filled put_field d (with_field id v fs) = filled put_field (put_field d id v) fs

-- a required field
abbrev pub required : {A : Type 0} → Slot A → Option A
required Missing = None
required (Found a) = Some a
required Broken = None

-- any other field, which may be missing
abbrev pub optional : {A : Type 0} → Slot A → Option (Option A)
optional Missing = Some None
optional (Found a) = Some (Some a)
optional Broken = None

-- a required count or size, which isn't negative
abbrev pub counted : Slot ℤ → Option ℤ
counted Missing = None
counted (Found z) = if int_lt z (pos 0) then None else Some z
counted Broken = None

-- What a field holds.

abbrev pub i32_in : Value → Option ℤ
i32_in (i32_value z) = Some z
i32_in v = None

abbrev pub struct_in : {A : Type 0} → (Fields → Option A) → Value → Option A
struct_in read (struct_value fs) = read fs
struct_in read v = None

-- a struct by its slots
abbrev pub read_by : {D A : Type 0} → (D → ℤ → Value → D) → D → (D → Option A) → Fields → Option A
read_by put_field start finish fs = finish (filled put_field start fs)
