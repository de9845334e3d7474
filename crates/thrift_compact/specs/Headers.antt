-- Headers of the Thrift compact protocol (thrift-compact-protocol.md, "Struct encoding", "List and set", "Map").
--
-- | Header | Bytes |
-- |---|---|
-- | field | delta of the id in the high 4 bits, type in the low 4; where the delta is 0, the id follows as an i16 |
-- | stop of a struct | 0 |
-- | list or set | size in the high 4 bits, element type in the low 4; where the size is 15, a varint follows |
-- | map | size as a varint; where it isn't 0, key type in the high 4 bits and value type in the low 4 |
use Rattle.std.specs.Prelude.{ℕ, ◌/◌, ◌%◌, ◌^◌, ◌==◌, nat_lt, nat_le, Bool, ◌&&◌, if◌then◌else◌, List, ℤ, pos, ◌+ℤ◌, int_lt, Option, Some, None, Ok}
use Rattle.vs_bytes.specs.Outcome.{◌>>=◌}
use Rattle.thrift_compact.specs.Numbers.{Read, within, byte, varint, signed}

-- the types: 1 true, 2 false, 3 i8, 4 i16, 5 i32, 6 i64, 7 double, 8 binary, 9 list, 10 set, 11 map, 12 struct
unfoldable pub is_type : ℕ → Bool
is_type kind = nat_le 1 kind && nat_le kind 12

-- the id of a field after the field of id `last`
unfoldable pub field_id : ℤ → ℕ → List ℕ → Read ℤ
field_id last delta bytes =
    if delta == 0 then signed 16 bytes
    else within (int_lt (last +ℤ pos delta) (pos (2 ^ 15))) (last +ℤ pos delta, bytes)

-- the header of the field after the one of id `last`: id and type, or nothing at the stop
unfoldable pub field : ℤ → List ℕ → Read (Option (ℤ × ℕ))
field last bytes = byte bytes >>= λ b.
    if b.0 == 0 then Ok (None, b.1)
    else field_id last (b.0 / 16) b.1 >>= λ id. within (is_type (b.0 % 16)) (Some (id.0, b.0 % 16), id.1)

-- the bound of the size of a list, set or map
abbrev pub size_bound : ℕ
size_bound = 2 ^ 32

unfoldable pub list_size : ℕ → List ℕ → Read ℕ
list_size short bytes = if short == 15 then varint bytes else Ok (short, bytes)

-- the header of a list or set: element type and size
unfoldable pub list : List ℕ → Read (ℕ × ℕ)
list bytes = byte bytes >>= λ b. list_size (b.0 / 16) b.1 >>= λ n.
    within (is_type (b.0 % 16) && nat_lt n.0 size_bound) ((b.0 % 16, n.0), n.1)

-- the header of a map: key type, value type and size. An empty map has no types
unfoldable pub map_types : ℕ → List ℕ → Read (Option (ℕ × ℕ))
map_types size bytes =
    if size == 0 then Ok (None, bytes)
    else byte bytes >>= λ b. within (is_type (b.0 / 16) && is_type (b.0 % 16)) (Some (b.0 / 16, b.0 % 16), b.1)

unfoldable pub map_size : List ℕ → Read ℕ
map_size bytes = varint bytes >>= λ n. within (nat_lt n.0 size_bound) n
