-- The values that hold no others (VariantEncoding.md, "Value encoding": primitive and short string).
--
-- | Type id | Kind | After byte 0 |
-- |---|---|---|
-- | 0, 1, 2 | null, true, false | nothing |
-- | 3, 4, 5, 6 | int8, int16, int32, int64 | 1, 2, 4, 8 bytes |
-- | 7, 14 | double, float | `FloatLeftOut` |
-- | 8, 9, 10 | decimal4, decimal8, decimal16 | a byte of scale, then 4, 8, 16 bytes |
-- | 16 | string | a length of 4 bytes, then the text |
-- | 11 to 13, 15, 17 to 20 | dates, times, binary, uuid | `KindNotRead` |
-- | above 20 | none | `TypeId` |
--
-- Integers are two's complement, the lowest byte first. The integers and decimals of all kinds are one class of
-- numbers, compared by value, and both kinds of string are one.
use Rattle.std.specs.Prelude.{ℕ, ◌+◌, ◌^◌, ◌==◌, nat_lt, nat_le, true, false, if◌then◌else◌, List, length, slice_index, ℤ, pos, int_lt, unsigned_abs, Result, Ok, Err}
use Rattle.std.specs.Str.{is_utf8}
use Rattle.exact_num.specs.Decimal.{least}
use Rattle.exact_num.specs.Unscaled.{little_integer}
use Rattle.json_tree.specs.Json as json
use Rattle.vs_bytes.specs.Numbers.{number, part}
use Rattle.vs_bytes.specs.declared.rule.Rule.{Rule}
use Rattle.vs_bytes.specs.declared.rule.Rule.TheVariants.{ValueShort, TypeId, FloatLeftOut, KindNotRead, DecimalScale, DecimalDigits, TextUtf8}
use Rattle.variant_meta.specs.TypeIds.{null_id, true_id, false_id, int8_id, int16_id, int32_id, int64_id, double_id, decimal4_id, decimal8_id, decimal16_id, float_id, string_id, last_type_id}
use Rattle.variant_read.specs.Layout.{type_header}

-- a value and how many bytes it has, or the first rule that they violate
abbrev pub Meaning : Type 0
Meaning = Result (json.Json × ℕ) Rule

-- the greatest scale of a decimal, and the bound of its unscaled integer
abbrev pub max_scale : ℕ
max_scale = 38

abbrev pub unscaled_bound : ℕ
unscaled_bound = 10 ^ 38

-- A kind says what the bytes of a value mean.
abbrev pub Kind : Type 0
Kind = List ℕ → Meaning

-- a value without bytes after byte 0
unfoldable pub constant_kind : json.Json → Kind
constant_kind value bytes = Ok (value, 1)

-- a kind that isn't read
unfoldable pub unread_kind : Rule → Kind
unread_kind rule bytes = Err rule

-- the number of an unscaled integer and a scale, in least scale
unfoldable pub decimal : ℤ → ℕ → json.Json
decimal unscaled scale = json.number (least (int_lt unscaled (pos 0)) (unsigned_abs unscaled) scale)

-- an integer of `width` bytes
unfoldable pub integer_kind : ℕ → Kind
integer_kind width bytes =
    if nat_lt (length bytes) (1 + width) then Err ValueShort
    else Ok (decimal (little_integer bytes 1 width) 0, 1 + width)

-- a scale, and an unscaled integer of `width` bytes
unfoldable pub decimal_kind : ℕ → Kind
decimal_kind width bytes =
    if nat_lt (length bytes) (2 + width) then Err ValueShort
    else if nat_lt max_scale (slice_index bytes 1) then Err DecimalScale
    else if nat_le unscaled_bound (unsigned_abs (little_integer bytes 2 width)) then Err DecimalDigits
    else Ok (decimal (little_integer bytes 2 width) (slice_index bytes 1), 2 + width)

-- a text of `len` bytes from `at` on
unfoldable pub text_at : ℕ → ℕ → Kind
text_at at len bytes =
    if nat_lt (length bytes) (at + len) then Err ValueShort
    else if is_utf8 (part bytes at len) then Ok (json.text (part bytes at len), at + len)
    else Err TextUtf8

unfoldable pub short_string : Kind
short_string bytes = text_at 1 (type_header bytes) bytes

-- the bytes of the length of a string that isn't short
abbrev pub string_len_size : ℕ
string_len_size = 4

unfoldable pub string_kind : Kind
string_kind bytes = text_at (1 + string_len_size) (number bytes 1 string_len_size) bytes

-- the kind of a type id. Of the ids up to 20, the ones without a row aren't read
unfoldable pub kind_of : ℕ → Kind
kind_of id =
    if id == null_id then constant_kind json.null
    else if id == true_id then constant_kind (json.boolean true)
    else if id == false_id then constant_kind (json.boolean false)
    else if id == int8_id then integer_kind 1
    else if id == int16_id then integer_kind 2
    else if id == int32_id then integer_kind 4
    else if id == int64_id then integer_kind 8
    else if id == double_id then unread_kind FloatLeftOut
    else if id == decimal4_id then decimal_kind 4
    else if id == decimal8_id then decimal_kind 8
    else if id == decimal16_id then decimal_kind 16
    else if id == float_id then unread_kind FloatLeftOut
    else if id == string_id then string_kind
    else if nat_le id last_type_id then unread_kind KindNotRead
    else unread_kind TypeId

unfoldable pub primitive : Kind
primitive bytes = kind_of (type_header bytes) bytes
