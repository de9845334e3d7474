-- The types of values (VariantEncoding.md, "Value encoding").
use Rattle.std.specs.Prelude.{ℕ}

-- The basic types: bits 0 and 1 of a value's byte 0.

abbrev pub primitive_type : ℕ
primitive_type = 0

abbrev pub short_string_type : ℕ
short_string_type = 1

abbrev pub object_type : ℕ
object_type = 2

abbrev pub array_type : ℕ
array_type = 3

-- The type ids of primitive values: the six bits above.

abbrev pub null_id : ℕ
null_id = 0

abbrev pub true_id : ℕ
true_id = 1

abbrev pub false_id : ℕ
false_id = 2

abbrev pub int8_id : ℕ
int8_id = 3

abbrev pub int16_id : ℕ
int16_id = 4

abbrev pub int32_id : ℕ
int32_id = 5

abbrev pub int64_id : ℕ
int64_id = 6

abbrev pub double_id : ℕ
double_id = 7

abbrev pub decimal4_id : ℕ
decimal4_id = 8

abbrev pub decimal8_id : ℕ
decimal8_id = 9

abbrev pub decimal16_id : ℕ
decimal16_id = 10

abbrev pub float_id : ℕ
float_id = 14

abbrev pub string_id : ℕ
string_id = 16

-- the greatest type id of the standard, that of uuid
abbrev pub last_type_id : ℕ
last_type_id = 20
