-- Variant metadata (VariantEncoding.md, "Metadata encoding"): the dictionary of names, which the objects of
-- a value cite by their places in it.
--
-- | Offset | Size | Content |
-- |---|---|---|
-- | 0 | 1 | bits 0 to 3 version, bit 4 sorted_strings, bits 6 and 7 offset_size - 1 |
-- | 1 | w = offset_size | dictionary_size, n |
-- | 1 + w | (n + 1) * w | the offset of each name, and the last offset |
-- | 1 + (n + 2) * w | last offset | the bytes of the names |
--
-- Numbers are unsigned, the lowest byte first. Name i lies from offset i to offset i + 1.
use Rattle.std.specs.Prelude.{ℕ, zero, suc, ◌+◌, ◌-◌, ◌*◌, ◌/◌, ◌%◌, ◌==◌, nat_lt, not, Bool, false, ◌&&◌, ◌||◌, if◌then◌else◌, List, [], ◌∷◌, length, slice_index, Result, Ok, Err}
use Rattle.std.specs.List.{list_all}
use Rattle.std.specs.Str.{is_utf8}
use Rattle.vs_bytes.specs.Numbers.{number, part}
use Rattle.vs_bytes.specs.declared.rule.Rule.{Rule}
use Rattle.vs_bytes.specs.declared.rule.Rule.TheVariants.{MetaShort, MetaVersion, MetaOffsets, MetaUtf8, MetaOrder}
use Rattle.variant_meta.specs.Names.{names_rise}

-- the version that is read
abbrev pub version_read : ℕ
version_read = 1

-- The parts of the layout.

unfoldable pub header : List ℕ → ℕ
header bytes = slice_index bytes 0

unfoldable pub version : List ℕ → ℕ
version bytes = header bytes % 16

unfoldable pub sorted_strings : List ℕ → Bool
sorted_strings bytes = header bytes / 16 % 2 == 1

unfoldable pub offset_size : List ℕ → ℕ
offset_size bytes = header bytes / 64 + 1

unfoldable pub dictionary_size : List ℕ → ℕ
dictionary_size bytes = number bytes 1 (offset_size bytes)

-- offset i; offset n is the last one
unfoldable pub offset : List ℕ → ℕ → ℕ
offset bytes i = number bytes (1 + (i + 1) * offset_size bytes) (offset_size bytes)

unfoldable pub last_offset : List ℕ → ℕ
last_offset bytes = offset bytes (dictionary_size bytes)

-- where the bytes of the names begin
unfoldable pub names_start : List ℕ → ℕ
names_start bytes = 1 + (dictionary_size bytes + 2) * offset_size bytes

unfoldable pub name : List ℕ → ℕ → List ℕ
name bytes i = part bytes (names_start bytes + offset bytes i) (offset bytes (i + 1) - offset bytes i)

-- `count` names from name i on
unfoldable pub names_from : List ℕ → ℕ → ℕ → List (List ℕ)
names_from bytes i zero = []
names_from bytes i (suc count) = name bytes i ∷ names_from bytes (i + 1) count

unfoldable pub all_names : List ℕ → List (List ℕ)
all_names bytes = names_from bytes 0 (dictionary_size bytes)

-- The rules, in their order.

-- of `count` offsets after offset i, some one is less than the one before it
unfoldable pub falls_from : List ℕ → ℕ → ℕ → Bool
falls_from bytes i zero = false
falls_from bytes i (suc count) = nat_lt (offset bytes (i + 1)) (offset bytes i) || falls_from bytes (i + 1) count

-- the first offset isn't 0, or an offset is less than the one before it
unfoldable pub offsets_fall : List ℕ → Bool
offsets_fall bytes = nat_lt 0 (offset bytes 0) || falls_from bytes 0 (dictionary_size bytes)

-- the names of a metadata cell, or the first rule that it violates. Bytes after the last name are passed over
unfoldable pub names : List ℕ → Result (List (List ℕ)) Rule
names bytes =
    if length bytes == 0 then Err MetaShort
    else if not (version bytes == version_read) then Err MetaVersion
    else if nat_lt (length bytes) (names_start bytes) then Err MetaShort
    else if offsets_fall bytes then Err MetaOffsets
    else if nat_lt (length bytes) (names_start bytes + last_offset bytes) then Err MetaShort
    else if not (list_all is_utf8 (all_names bytes)) then Err MetaUtf8
    else if sorted_strings bytes && not (names_rise (all_names bytes)) then Err MetaOrder
    else Ok (all_names bytes)
