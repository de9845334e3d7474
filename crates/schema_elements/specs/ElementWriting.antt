-- The fields of schema elements and logical types that are written, and the elements that can be written.
use Rattle.std.specs.Prelude.{◌≡◌, List, ℕ, [], ◌∷◌, Bool, true, false, ◌||◌, if◌then◌else◌, ℤ, pos, ◌≤ℤ◌, IfSome}
use Rattle.std.specs.List.{list_any}
use Rattle.std.specs.Ordering.{int_eq}
use Rattle.std.specs.Str.{is_utf8}
use Rattle.thrift_compact.specs.Trees.{Value, Fields, i32_value, binary_value, struct_value, no_fields, with_field}
use Rattle.thrift_compact.specs.Coded.{maybe}
use Rattle.thrift_compact.specs.PageWriting.{IsCount, IsI32}
use Rattle.thrift_structs.specs.ChunkWriting.{IsShort}
use Rattle.schema_elements.specs.FieldValues.{small_value, flag_value, IsI8, IsFlag}
use Rattle.schema_elements.specs.declared.logical_types.Logical.{Logical}
use Rattle.schema_elements.specs.declared.elements.SchemaElement.{SchemaElement}

-- The members of LogicalType, by their ids.

abbrev pub members : List ℕ
members = 1 ∷ 2 ∷ 3 ∷ 4 ∷ 5 ∷ 6 ∷ 7 ∷ 8 ∷ 10 ∷ 11 ∷ 12 ∷ 13 ∷ 14 ∷ 15 ∷ 16 ∷ []

abbrev pub is_decimal : ℤ → Bool
is_decimal member = int_eq member (pos 5)

-- TIME or TIMESTAMP
abbrev pub is_time : ℤ → Bool
is_time member = int_eq member (pos 7) || int_eq member (pos 8)

abbrev pub is_integer : ℤ → Bool
is_integer member = int_eq member (pos 10)

abbrev pub is_variant : ℤ → Bool
is_variant member = int_eq member (pos 16)

-- whether something may stand inside
abbrev pub has_fields : ℤ → Bool
has_fields member = is_decimal member || is_time member || is_integer member || is_variant member

-- The fields, by their ids.

unfoldable pub decimal_fields : Logical → Fields
decimal_fields l = maybe (pos 1) i32_value l.first (maybe (pos 2) i32_value l.second no_fields)

-- a TimeUnit: its member, an empty struct
unfoldable pub unit_fields : ℤ → Fields
unit_fields unit = with_field unit (struct_value no_fields) no_fields

abbrev pub unit_value : ℤ → Value
unit_value unit = struct_value (unit_fields unit)

unfoldable pub time_fields : Logical → Fields
time_fields l = maybe (pos 1) flag_value l.first (maybe (pos 2) unit_value l.second no_fields)

unfoldable pub integer_fields : Logical → Fields
integer_fields l = maybe (pos 1) small_value l.first (maybe (pos 2) flag_value l.second no_fields)

unfoldable pub variant_fields : Logical → Fields
variant_fields l = maybe (pos 1) small_value l.first no_fields

-- inside the member
abbrev pub inside_fields : Logical → Fields
inside_fields l =
    if is_decimal l.member then decimal_fields l
    else if is_time l.member then time_fields l
    else if is_integer l.member then integer_fields l
    else if is_variant l.member then variant_fields l
    else no_fields

unfoldable pub logical_fields : Logical → Fields
logical_fields l =
    if int_eq l.member (pos 0) then no_fields
    else with_field l.member (struct_value (inside_fields l)) no_fields

abbrev pub logical_tree : Logical → Value
logical_tree l = struct_value (logical_fields l)

-- fields 1 to 4, and those after them
unfoldable pub type_fields : SchemaElement → Fields → Fields
type_fields e fs =
    maybe (pos 1) i32_value e.kind (
    maybe (pos 2) i32_value e.type_length (
    maybe (pos 3) i32_value e.repetition_type (
    with_field (pos 4) (binary_value e.name) fs)))

unfoldable pub element_fields : SchemaElement → Fields
element_fields e =
    type_fields e (
    maybe (pos 5) i32_value e.num_children (
    maybe (pos 6) i32_value e.converted_type (
    maybe (pos 7) i32_value e.scale (
    maybe (pos 8) i32_value e.precision (
    maybe (pos 10) logical_tree e.logical_type no_fields)))))

abbrev pub element_tree : SchemaElement → Value
element_tree e = struct_value (element_fields e)

-- What can be written.

-- MILLIS, MICROS or NANOS
abbrev pub IsUnit : ℤ → Type 0
IsUnit unit = (pos 1 ≤ℤ unit) × (unit ≤ℤ pos 3)

-- a member with two fields, or fewer
abbrev pub Holds : Logical → (ℤ → Type 0) → (ℤ → Type 0) → Type 0
Holds l First Second = IfSome l.first First × IfSome l.second Second

-- no number
abbrev pub IsNone : ℤ → Type 0
IsNone z = ⊥

-- the member is known or missing, and holds what a member of its kind can hold
pub record IsLogical (l : Logical) : Type 0 where
  pub known : list_any (λ i. int_eq l.member (pos i)) (0 ∷ members) ≡ true
  pub decimal : is_decimal l.member ≡ true → Holds l IsI32 IsI32
  pub time : is_time l.member ≡ true → Holds l IsFlag IsUnit
  pub integer : is_integer l.member ≡ true → Holds l IsI8 IsFlag
  pub variant : is_variant l.member ≡ true → Holds l IsI8 IsNone
  pub plain : has_fields l.member ≡ false → Holds l IsNone IsNone

abbrev pub ElementFits : SchemaElement → Type 0
ElementFits e = IfSome e.logical_type IsLogical

-- What reads back: the name is UTF-8 of fewer than 2^32 bytes, no count is negative, and each number is in the range of
-- its type.
pub record ElementReadsBack (e : SchemaElement) : Type 0 where
  pub kind : IfSome e.kind IsI32
  pub type_length : IfSome e.type_length IsI32
  pub repetition_type : IfSome e.repetition_type IsI32
  pub utf8 : is_utf8 e.name ≡ true
  pub name : IsShort e.name
  pub num_children : IfSome e.num_children (λ n. IsCount n × IsI32 n)
  pub converted_type : IfSome e.converted_type IsI32
  pub scale : IfSome e.scale IsI32
  pub precision : IfSome e.precision IsI32
  pub logical_type : IfSome e.logical_type IsLogical
