-- Logical types (parquet.thrift, LogicalType, DecimalType, TimeType, TimestampType, TimeUnit, IntType, VariantType).
use Rattle.std.specs.Prelude.{pos, if◌then◌else◌, ℤ, Option, Some, None}
use Rattle.std.specs.Ordering.{int_eq}
use Rattle.thrift_compact.specs.Trees.{Value, Fields, Shapes, bools, i8s, i32s, structs, unknown, known}
use Rattle.thrift_compact.specs.Slots.{◌>>?◌, put_at, optional, i32_in, struct_in, read_by}
use Rattle.thrift_compact.specs.declared.slots.Slot.TheVariants.{Missing}
use Rattle.schema_elements.specs.FieldValues.{small_in, flag_in}
use Rattle.schema_elements.specs.Unions.{none_met, member_at}
use Rattle.schema_elements.specs.declared.logical_types.Logical.{Logical}
use Rattle.schema_elements.specs.declared.unions.Inside.{Inside}
use Rattle.schema_elements.specs.declared.unions.UnionSlots.{UnionSlots}
use Rattle.schema_elements.specs.declared.members.MemberSlots.{MemberSlots}

-- What a member holds: up to two fields, each of which may be missing.

abbrev pub member_start : MemberSlots
member_start = record { first = Missing; second = Missing }

unfoldable pub member_finish : MemberSlots → Option Inside
member_finish d =
    optional d.first >>? λ j.
    optional d.second >>? λ k.
    Some (record { first = j; second = k })

-- Members without known fields: STRING, MAP, LIST, ENUM, DATE, UNKNOWN, JSON, BSON, UUID, FLOAT16; and those of
-- TimeUnit

abbrev pub empty_put : MemberSlots → ℤ → Value → MemberSlots
empty_put d id v = d

abbrev pub empty_of : Fields → Option Inside
empty_of = read_by empty_put member_start member_finish

abbrev pub empty_in : Value → Option Inside
empty_in = struct_in empty_of

-- DECIMAL: scale and precision

unfoldable pub decimal_shapes : Shapes
decimal_shapes = known 1 i32s (known 2 i32s unknown)

unfoldable pub decimal_put : MemberSlots → ℤ → Value → MemberSlots
decimal_put d id v = record {
  first = put_at 1 i32_in id v d.first;
  second = put_at 2 i32_in id v d.second;
}

abbrev pub decimal_of : Fields → Option Inside
decimal_of = read_by decimal_put member_start member_finish

-- TimeUnit: the id of MILLIS, MICROS or NANOS, or 0

unfoldable pub unit_shapes : Shapes
unit_shapes = known 1 (structs unknown) (known 2 (structs unknown) (known 3 (structs unknown) unknown))

unfoldable pub unit_put : UnionSlots → ℤ → Value → UnionSlots
unit_put d id v =
    member_at 1 empty_in id v d (
    member_at 2 empty_in id v d (
    member_at 3 empty_in id v d d))

-- the first known member of a union, or 0
unfoldable pub member_of : UnionSlots → Option ℤ
member_of d = if d.broken then None else Some (pos d.member)

abbrev pub unit_of : Fields → Option ℤ
unit_of = read_by unit_put none_met member_of

-- TIME and TIMESTAMP: isAdjustedToUTC and unit. A unit without a known member is none

unfoldable pub time_shapes : Shapes
time_shapes = known 1 bools (known 2 (structs unit_shapes) unknown)

unfoldable pub time_put : MemberSlots → ℤ → Value → MemberSlots
time_put d id v = record {
  first = put_at 1 flag_in id v d.first;
  second = put_at 2 (struct_in unit_of) id v d.second;
}

abbrev pub known_unit : Option ℤ → Option ℤ
known_unit None = None
known_unit (Some unit) = if int_eq unit (pos 0) then None else Some unit

unfoldable pub time_finish : MemberSlots → Option Inside
time_finish d =
    optional d.first >>? λ j.
    optional d.second >>? λ k.
    Some (record { first = j; second = known_unit k })

abbrev pub time_of : Fields → Option Inside
time_of = read_by time_put member_start time_finish

-- INTEGER: bitWidth and isSigned

unfoldable pub integer_shapes : Shapes
integer_shapes = known 1 i8s (known 2 bools unknown)

unfoldable pub integer_put : MemberSlots → ℤ → Value → MemberSlots
integer_put d id v = record {
  first = put_at 1 small_in id v d.first;
  second = put_at 2 flag_in id v d.second;
}

abbrev pub integer_of : Fields → Option Inside
integer_of = read_by integer_put member_start member_finish

-- VARIANT: specification_version

unfoldable pub variant_shapes : Shapes
variant_shapes = known 1 i8s unknown

unfoldable pub variant_put : MemberSlots → ℤ → Value → MemberSlots
variant_put d id v = record {
  first = put_at 1 small_in id v d.first;
  second = d.second;
}

abbrev pub variant_of : Fields → Option Inside
variant_of = read_by variant_put member_start member_finish

-- LogicalType

unfoldable pub logical_shapes : Shapes
logical_shapes =
    known 1 (structs unknown) (
    known 2 (structs unknown) (
    known 3 (structs unknown) (
    known 4 (structs unknown) (
    known 5 (structs decimal_shapes) (
    known 6 (structs unknown) (
    known 7 (structs time_shapes) (
    known 8 (structs time_shapes) (
    known 10 (structs integer_shapes) (
    known 11 (structs unknown) (
    known 12 (structs unknown) (
    known 13 (structs unknown) (
    known 14 (structs unknown) (
    known 15 (structs unknown) (
    known 16 (structs variant_shapes) unknown))))))))))))))

unfoldable pub logical_put : UnionSlots → ℤ → Value → UnionSlots
logical_put d id v =
    member_at 1 empty_in id v d (
    member_at 2 empty_in id v d (
    member_at 3 empty_in id v d (
    member_at 4 empty_in id v d (
    member_at 5 (struct_in decimal_of) id v d (
    member_at 6 empty_in id v d (
    member_at 7 (struct_in time_of) id v d (
    member_at 8 (struct_in time_of) id v d (
    member_at 10 (struct_in integer_of) id v d (
    member_at 11 empty_in id v d (
    member_at 12 empty_in id v d (
    member_at 13 empty_in id v d (
    member_at 14 empty_in id v d (
    member_at 15 empty_in id v d (
    member_at 16 (struct_in variant_of) id v d d))))))))))))))

unfoldable pub logical_finish : UnionSlots → Option Logical
logical_finish d = if d.broken then None else Some (record { member = pos d.member; first = d.inside.first; second = d.inside.second })

abbrev pub logical_of : Fields → Option Logical
logical_of = read_by logical_put none_met logical_finish
