-- Values of the Thrift compact protocol as trees.
--
-- A table says which fields of a struct are known, and of which type; `known_at` and `shaped` read by it. What
-- isn't known, or has another type than the table says, is passed over.
use Rattle.std.specs.Prelude.{ℕ, zero, suc, ◌==◌, nat_le, Bool, false, ◌&&◌, if◌then◌else◌, List, length, ℤ, pos, Option, Some, None, Ok, Err}
use Rattle.std.specs.Ordering.{int_eq}
use Rattle.vs_bytes.specs.Outcome.{◌>>=◌}
use Rattle.vs_bytes.specs.declared.rule.Rule.TheVariants.{Thrift}
use Rattle.thrift_compact.specs.Numbers.{Read, mapped, int8, signed, binary}
use Rattle.thrift_compact.specs.Headers.{field, list}
use Rattle.thrift_compact.specs.Skipping.{max_nesting, elements, skipped}

mutual
  pub data Value : Type 0 where
    -- a value that was passed over
    other : Value
    bool_value : Bool → Value
    i8_value : ℤ → Value
    i32_value : ℤ → Value
    i64_value : ℤ → Value
    binary_value : List ℕ → Value
    -- a list with its element type
    list_value : ℕ → Elements → Value
    struct_value : Fields → Value

  pub data Elements : Type 0 where
    no_elements : Elements
    with_element : Value → Elements → Elements

  -- the fields of a struct, by their ids
  pub data Fields : Type 0 where
    no_fields : Fields
    with_field : ℤ → Value → Fields → Fields

mutual
  -- the type of a value
  pub data Shape : Type 0 where
    bools : Shape
    i8s : Shape
    i32s : Shape
    i64s : Shape
    binaries : Shape
    lists : Shape → Shape
    structs : Shapes → Shape

  -- the known fields of a struct, by their ids
  pub data Shapes : Type 0 where
    unknown : Shapes
    known : ℕ → Shape → Shapes → Shapes

-- whether a value of a type has the shape
abbrev pub is_of : Shape → ℕ → Bool
is_of bools kind = nat_le 1 kind && nat_le kind 2
is_of i8s kind = kind == 3
is_of i32s kind = kind == 5
is_of i64s kind = kind == 6
is_of binaries kind = kind == 8
is_of (lists s) kind = kind == 9
is_of (structs ss) kind = kind == 12

-- whether the elements of a list have the shape. No known list has truth values
abbrev pub is_element : Shape → ℕ → Bool
is_element bools kind = false
is_element i8s kind = kind == 3
is_element i32s kind = kind == 5
is_element i64s kind = kind == 6
is_element binaries kind = kind == 8
is_element (lists s) kind = kind == 9
is_element (structs ss) kind = kind == 12

-- what reads a field by its id and type
abbrev pub FieldRead : Type 0
FieldRead = ℤ → ℕ → List ℕ → Read Value

unfoldable pub passed_over : ℕ → List ℕ → Read Value
passed_over kind bytes = skipped max_nesting kind bytes >>= λ rest. Ok (other, rest)

-- a value of the type that is known, or of another one
abbrev pub of_type : Bool → Read Value → ℕ → List ℕ → Read Value
of_type fits read kind bytes = if fits then read else passed_over kind bytes

abbrev pub one_field : FieldRead → (ℤ → List ℕ → Read Fields) → Option (ℤ × ℕ) → List ℕ → Read Fields
one_field read more None bytes = Ok (no_fields, bytes)
one_field read more (Some head) bytes = read head.0 head.1 bytes >>= λ v. mapped (with_field head.0 v.0) (more head.0 v.1)

-- at most `most` fields, and the stop
unfoldable pub fields_at : FieldRead → ℕ → ℤ → List ℕ → Read Fields
fields_at read zero last bytes = Err Thrift
fields_at read (suc most) last bytes = field last bytes >>= λ f. one_field read (fields_at read most) f.0 f.1

-- the fields of a struct. Each has a byte
abbrev pub struct_at : FieldRead → List ℕ → Read Fields
struct_at read bytes = fields_at read (length bytes) (pos 0) bytes

unfoldable pub elements_at : (List ℕ → Read Value) → ℕ → List ℕ → Read Elements
elements_at read zero bytes = Ok (no_elements, bytes)
elements_at read (suc size) bytes = read bytes >>= λ v. mapped (with_element v.0) (elements_at read size v.1)

-- the elements of a list, where they have the shape that is known
abbrev pub list_at : Bool → (List ℕ → Read Value) → ℕ → ℕ → List ℕ → Read Value
list_at fits read kind size bytes =
    if fits then mapped (list_value kind) (elements_at read size bytes)
    else elements (skipped max_nesting) kind size bytes >>= λ rest. Ok (other, rest)

unfoldable mutual
  -- a value of a shape
  pub shaped : Shape → ℕ → List ℕ → Read Value
  shaped bools kind bytes = Ok (bool_value (kind == 1), bytes)
  shaped i8s kind bytes = mapped i8_value (int8 bytes)
  shaped i32s kind bytes = mapped i32_value (signed 32 bytes)
  shaped i64s kind bytes = mapped i64_value (signed 64 bytes)
  shaped binaries kind bytes = mapped binary_value (binary bytes)
  shaped (lists s) kind bytes = list bytes >>= λ l. list_at (is_element s l.0.0) (shaped s l.0.0) l.0.0 l.0.1 l.1
  shaped (structs ss) kind bytes = mapped struct_value (struct_at (known_at ss) bytes)

  -- a field by a table
  pub known_at : Shapes → FieldRead
  known_at unknown id kind bytes = passed_over kind bytes
  known_at (known i s ss) id kind bytes = if int_eq id (pos i) then of_type (is_of s kind) (shaped s kind bytes) kind bytes else known_at ss id kind bytes

-- a value that is to have a shape
unfoldable pub at_shape : Shape → ℕ → List ℕ → Read Value
at_shape s kind bytes = of_type (is_of s kind) (shaped s kind bytes) kind bytes
