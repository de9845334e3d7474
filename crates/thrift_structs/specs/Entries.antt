-- What fields hold: numbers, binaries, lists.
use Rattle.std.specs.Prelude.{ℕ, List, [], ◌∷◌, ◌++◌, ℤ, pos, int_lt, unsigned_abs, if◌then◌else◌, Option, Some, None, Ok}
use Rattle.vs_bytes.specs.Outcome.{◌>>=◌}
use Rattle.thrift_compact.specs.Numbers.{Read, mapped}
use Rattle.thrift_compact.specs.Headers.{list}
use Rattle.thrift_compact.specs.Skipping.{max_nesting, elements, skipped}
use Rattle.thrift_compact.specs.Trees.{Value, Elements, i64_value, binary_value, list_value, no_elements, with_element, Shape, is_element, elements_at, shaped}
use Rattle.thrift_compact.specs.Slots.{◌>>?◌}
use Rattle.thrift_compact.specs.declared.slots.Slot.{Slot}
use Rattle.thrift_compact.specs.declared.slots.Slot.TheVariants.{Missing, Found, Broken}

abbrev pub i64_in : Value → Option ℤ
i64_in (i64_value z) = Some z
i64_in v = None

abbrev pub binary_in : Value → Option (List ℕ)
binary_in (binary_value bytes) = Some bytes
binary_in v = None

-- the elements of a list, if each can be read
unfoldable pub each_in : {A : Type 0} → (Value → Option A) → Elements → Option (List A)
each_in read no_elements = Some []
each_in read (with_element v vs) = read v >>? λ a. each_in read vs >>? λ rest. Some (a ∷ rest)

abbrev pub list_in : {A : Type 0} → (Value → Option A) → Value → Option (List A)
list_in read (list_value kind vs) = each_in read vs
list_in read v = None

-- a count or offset that may be missing, and isn't negative
abbrev pub optional_counted : Slot ℤ → Option (Option ℤ)
optional_counted Missing = Some None
optional_counted (Found z) = if int_lt z (pos 0) then None else Some (Some z)
optional_counted Broken = None

-- the same as a number without sign
abbrev pub optional_count : Slot ℤ → Option (Option ℕ)
optional_count Missing = Some None
optional_count (Found z) = if int_lt z (pos 0) then None else Some (Some (unsigned_abs z))
optional_count Broken = None

-- a list with one item more, where both are there
abbrev pub pushed : {A : Type 0} → Option (List A) → Option A → Option (List A)
pushed None item = None
pushed (Some items) None = None
pushed (Some items) (Some item) = Some (items ++ item ∷ [])

-- a list by its header: its elements, where they have the shape that is known
unfoldable pub list_read : {A : Type 0} → Shape → (Value → Option A) → List ℕ → Read (Option (List A))
list_read s read bytes = list bytes >>= λ l.
    if is_element s l.0.0 then mapped (each_in read) (elements_at (shaped s l.0.0) l.0.1 l.1)
    else (elements (skipped max_nesting) l.0.0 l.0.1 l.1 >>= λ rest. Ok (None, rest))
