-- The values that a table allows, and that have bytes.
use Rattle.std.specs.Prelude.{◌≡◌, ◌⊎◌, ℕ, ◌^◌, ◌<◌, true, false, length, ℤ, pos, unsigned_abs}
use Rattle.std.specs.Ordering.{int_eq}
use Rattle.thrift_compact.specs.Trees.{Value, Elements, Fields, Shape, Shapes, is_element, bool_value, i8_value, i32_value, i64_value, binary_value, list_value, struct_value, no_elements, with_element, no_fields, with_field, bools, i8s, i32s, i64s, binaries, lists, structs, unknown, known}
use Rattle.thrift_compact.specs.Coded.{zigzag, kind_of, how_many}

-- the ids rise from above `last`, and each field is allowed
abbrev pub AllFields : (ℤ → Value → Type 0) → ℕ → Fields → Type 0
AllFields Allowed last no_fields = Unit {0}
AllFields Allowed last (with_field id v fs) =
    (pos (unsigned_abs id) ≡ id) × (last < unsigned_abs id) × (unsigned_abs id < 2 ^ 15) × Allowed id v × AllFields Allowed (unsigned_abs id) fs

-- each element is of the list's type, and is allowed
abbrev pub AllElements : (Value → Type 0) → ℕ → Elements → Type 0
AllElements Allowed kind no_elements = Unit {0}
AllElements Allowed kind (with_element v vs) = (kind_of v ≡ kind) × Allowed v × AllElements Allowed kind vs

abbrev mutual
  pub Fits : Shape → Value → Type 0
  Fits bools (bool_value truth) = Unit {0}
  Fits i8s (i8_value z) = zigzag z < 2 ^ 8
  Fits i32s (i32_value z) = zigzag z < 2 ^ 32
  Fits i64s (i64_value z) = zigzag z < 2 ^ 64
  Fits binaries (binary_value bytes) = length bytes < 2 ^ 32
  Fits (lists s) (list_value kind vs) = (is_element s kind ≡ true) × (how_many vs < 2 ^ 32) × AllElements (Fits s) kind vs
  Fits (structs ss) (struct_value fs) = AllFields (FitsField ss) 0 fs
  Fits s v = ⊥

  pub FitsField : Shapes → ℤ → Value → Type 0
  FitsField unknown id v = ⊥
  FitsField (known i s ss) id v = ((int_eq id (pos i) ≡ true) × Fits s v) ⊎ ((int_eq id (pos i) ≡ false) × FitsField ss id v)
