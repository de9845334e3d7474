-- The bytes of values in the Thrift compact protocol. Of the forms that the protocol allows, field headers and
-- list headers are the short ones where they can be, and varints have no byte more than they need.
use Rattle.std.specs.Prelude.{ℕ, zero, suc, ◌+◌, ◌-◌, ◌*◌, ◌/◌, ◌%◌, max, nat_lt, nat_le, ◌&&◌, if◌then◌else◌, List, [], ◌∷◌, ◌++◌, length, ℤ, pos, negsuc, unsigned_abs, Option, Some, None}
use Rattle.thrift_compact.specs.Numbers.{varint_most}
use Rattle.thrift_compact.specs.Trees.{Value, Elements, Fields, other, bool_value, i8_value, i32_value, i64_value, binary_value, list_value, struct_value, no_elements, with_element, no_fields, with_field}

-- seven bits a byte, the lowest first
unfoldable pub digits_of : ℕ → ℕ → List ℕ
digits_of zero n = []
digits_of (suc room) n = if nat_lt n 128 then n ∷ [] else (n % 128 + 128) ∷ digits_of room (n / 128)

unfoldable pub varint_bytes : ℕ → List ℕ
varint_bytes n = digits_of varint_most n

-- the place of a number among 0, -1, 1, -2, and so on
abbrev pub zigzag : ℤ → ℕ
zigzag (pos n) = 2 * n
zigzag (negsuc n) = 2 * n + 1

unfoldable pub signed_bytes : ℤ → List ℕ
signed_bytes z = varint_bytes (zigzag z)

-- two's complement
abbrev pub int8_byte : ℤ → ℕ
int8_byte (pos n) = n
int8_byte (negsuc n) = 255 - n

unfoldable pub binary_bytes : List ℕ → List ℕ
binary_bytes bytes = varint_bytes (length bytes) ++ bytes

-- the header of field i after field `last`
unfoldable pub field_bytes : ℕ → ℕ → ℕ → List ℕ
field_bytes last i kind = if nat_lt last i && nat_le i (last + 15) then ((i - last) * 16 + kind) ∷ [] else kind ∷ signed_bytes (pos i)

unfoldable pub list_bytes : ℕ → ℕ → List ℕ
list_bytes kind size = if nat_lt size 15 then (size * 16 + kind) ∷ [] else (240 + kind) ∷ varint_bytes size

-- the type of a value. A truth value stands in its type
abbrev pub kind_of : Value → ℕ
kind_of other = 0
kind_of (bool_value truth) = if truth then 1 else 2
kind_of (i8_value z) = 3
kind_of (i32_value z) = 5
kind_of (i64_value z) = 6
kind_of (binary_value bytes) = 8
kind_of (list_value kind vs) = 9
kind_of (struct_value fs) = 12

abbrev pub how_many : Elements → ℕ
how_many no_elements = 0
how_many (with_element v vs) = suc (how_many vs)

unfoldable mutual
  pub coded : Value → List ℕ
  coded other = []
  coded (bool_value truth) = []
  coded (i8_value z) = int8_byte z ∷ []
  coded (i32_value z) = signed_bytes z
  coded (i64_value z) = signed_bytes z
  coded (binary_value bytes) = binary_bytes bytes
  coded (list_value kind vs) = list_bytes kind (how_many vs) ++ elements_coded vs
  coded (struct_value fs) = fields_coded 0 fs

  pub elements_coded : Elements → List ℕ
  elements_coded no_elements = []
  elements_coded (with_element v vs) = coded v ++ elements_coded vs

  -- the fields after field `last`, and the stop
  pub fields_coded : ℕ → Fields → List ℕ
  fields_coded last no_fields = 0 ∷ []
  fields_coded last (with_field id v fs) = field_bytes last (unsigned_abs id) (kind_of v) ++ (coded v ++ fields_coded (unsigned_abs id) fs)

-- how deep structs and lists nest in a value, itself counted
abbrev mutual
  pub nesting : Value → ℕ
  nesting other = 0
  nesting (bool_value truth) = 0
  nesting (i8_value z) = 0
  nesting (i32_value z) = 0
  nesting (i64_value z) = 0
  nesting (binary_value bytes) = 0
  nesting (list_value kind vs) = suc (elements_nesting vs)
  nesting (struct_value fs) = suc (fields_nesting fs)

  pub elements_nesting : Elements → ℕ
  elements_nesting no_elements = 0
  elements_nesting (with_element v vs) = max (nesting v) (elements_nesting vs)

  pub fields_nesting : Fields → ℕ
  fields_nesting no_fields = 0
  fields_nesting (with_field id v fs) = max (nesting v) (fields_nesting fs)

-- the fields, with a field before them where it is there
abbrev pub maybe : {A : Type 0} → ℤ → (A → Value) → Option A → Fields → Fields
maybe id tree None fs = fs
maybe id tree (Some a) fs = with_field id (tree a) fs
