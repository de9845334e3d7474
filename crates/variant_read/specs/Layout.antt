-- Where the parts of a Variant value lie (VariantEncoding.md, "Value encoding").
--
-- Byte 0 has the basic type in bits 0 and 1, and a header of six bits above it:
--
-- | Basic type | Header |
-- |---|---|
-- | 0 primitive | type id |
-- | 1 short string | length |
-- | 2 object | bits 0 and 1 offset size - 1, bits 2 and 3 id size - 1, bit 4 is_large |
-- | 3 array | bits 0 and 1 offset size - 1, bit 2 is_large |
--
-- After byte 0, an object or array with n fields or elements, ids of i bytes and offsets of w bytes has:
--
-- | Size | Content |
-- |---|---|
-- | 1, or 4 where is_large | the count n |
-- | n * i | the field ids, in an object alone |
-- | (n + 1) * w | the offset of each item, and the last offset |
-- | last offset | the items |
--
-- Numbers are unsigned, the lowest byte first.
use Rattle.std.specs.Prelude.{ℕ, ◌+◌, ◌*◌, ◌/◌, ◌%◌, ◌==◌, Bool, if◌then◌else◌, List, slice_index}
use Rattle.vs_bytes.specs.Numbers.{number, part}
use Rattle.variant_meta.specs.TypeIds.{object_type}

unfoldable pub basic_type : List ℕ → ℕ
basic_type bytes = slice_index bytes 0 % 4

unfoldable pub type_header : List ℕ → ℕ
type_header bytes = slice_index bytes 0 / 4

-- The parts of an object or array.

unfoldable pub is_object : List ℕ → Bool
is_object bytes = basic_type bytes == object_type

unfoldable pub offset_size : List ℕ → ℕ
offset_size bytes = type_header bytes % 4 + 1

-- an array has no ids
unfoldable pub id_size : List ℕ → ℕ
id_size bytes = if is_object bytes then type_header bytes / 4 % 4 + 1 else 0

unfoldable pub is_large : List ℕ → Bool
is_large bytes = if is_object bytes then type_header bytes / 16 % 2 == 1 else type_header bytes / 4 % 2 == 1

unfoldable pub count_size : List ℕ → ℕ
count_size bytes = if is_large bytes then 4 else 1

-- how many fields or elements there are
unfoldable pub count : List ℕ → ℕ
count bytes = number bytes 1 (count_size bytes)

unfoldable pub id_place : List ℕ → ℕ → ℕ
id_place bytes k = 1 + count_size bytes + k * id_size bytes

unfoldable pub field_id : List ℕ → ℕ → ℕ
field_id bytes k = number bytes (id_place bytes k) (id_size bytes)

unfoldable pub offset_place : List ℕ → ℕ → ℕ
offset_place bytes k = id_place bytes (count bytes) + k * offset_size bytes

unfoldable pub offset : List ℕ → ℕ → ℕ
offset bytes k = number bytes (offset_place bytes k) (offset_size bytes)

-- where the items begin
unfoldable pub fixed_size : List ℕ → ℕ
fixed_size bytes = offset_place bytes (count bytes + 1)

unfoldable pub last_offset : List ℕ → ℕ
last_offset bytes = offset bytes (count bytes)

-- the bytes of the items
unfoldable pub region : List ℕ → List ℕ
region bytes = part bytes (fixed_size bytes) (last_offset bytes)

-- the bytes of the whole object or array
unfoldable pub container_size : List ℕ → ℕ
container_size bytes = fixed_size bytes + last_offset bytes
