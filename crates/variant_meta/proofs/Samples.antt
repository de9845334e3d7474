-- Metadata worked out by hand from the standard, byte by byte.
use Rattle.std.proofs.Common.{◌≡◌, ◌<◌, refl, ℕ, zero, suc, [], ◌∷◌, true, Ok, Err, slice_index, arith, lit<}
use Rattle.std.proofs.lemmas.Str.{is_utf8-from_IsUtf8, IsUtf8-from_ascii}
use Rattle.std.specs.Str.{is_utf8}
use Rattle.vs_bytes.specs.Numbers.{width_of}
use Rattle.vs_bytes.specs.declared.rule.Rule.TheVariants.{MetaOffsets, MetaOrder}
use Rattle.variant_meta.specs.Metadata.{header, version, sorted_strings, offset_size, dictionary_size, offset, last_offset, names_start, name, names_from, all_names, falls_from, offsets_fall, names}
use Rattle.variant_meta.specs.Written.{written_size, written_header, metadata_of, coded_names}

-- a letter is UTF-8
letter : (x : ℕ) → x < 128 → is_utf8 (x ∷ []) ≡ true
letter x h = is_utf8-from_IsUtf8 (x ∷ []) (IsUtf8-from_ascii (x ∷ []) by)
  where
    by : (i : ℕ) → slice_index (x ∷ []) i < 128
    by zero = h
    by (suc i) = omega arith

-- the name a: version 1 and sorted_strings, one name, offsets 0 and 1
pub one_name : names (0x11 ∷ 0x01 ∷ 0x00 ∷ 0x01 ∷ 0x61 ∷ []) ≡ Ok ((0x61 ∷ []) ∷ [])
unfolding header version sorted_strings offset_size dictionary_size offset last_offset names_start name names_from all_names falls_from offsets_fall names
one_name = rw (letter 0x61 (lit< tt)) refl

pub one_name_written : coded_names 1 ((0x61 ∷ []) ∷ []) ≡ 0x11 ∷ 0x01 ∷ 0x00 ∷ 0x01 ∷ 0x61 ∷ []
unfolding width_of written_size written_header metadata_of coded_names
one_name_written = refl

-- the same with numbers of 4 bytes
pub one_name_wide : coded_names 4 ((0x61 ∷ []) ∷ []) ≡ 0xd1 ∷ 1 ∷ 0 ∷ 0 ∷ 0 ∷ 0 ∷ 0 ∷ 0 ∷ 0 ∷ 1 ∷ 0 ∷ 0 ∷ 0 ∷ 0x61 ∷ []
unfolding width_of written_size written_header metadata_of coded_names
one_name_wide = refl

-- no names
pub no_names_written : coded_names 1 [] ≡ 0x11 ∷ 0x00 ∷ 0x00 ∷ []
unfolding width_of written_size written_header metadata_of coded_names
no_names_written = refl

-- the names a and b
pub two_names : names (0x11 ∷ 0x02 ∷ 0x00 ∷ 0x01 ∷ 0x02 ∷ 0x61 ∷ 0x62 ∷ []) ≡ Ok ((0x61 ∷ []) ∷ (0x62 ∷ []) ∷ [])
unfolding header version sorted_strings offset_size dictionary_size offset last_offset names_start name names_from all_names falls_from offsets_fall names
two_names = rw (letter 0x61 (lit< tt), letter 0x62 (lit< tt)) refl

-- b before a: only sorted_strings makes it a violation
pub out_of_order : names (0x11 ∷ 0x02 ∷ 0x00 ∷ 0x01 ∷ 0x02 ∷ 0x62 ∷ 0x61 ∷ []) ≡ Err MetaOrder
unfolding header version sorted_strings offset_size dictionary_size offset last_offset names_start name names_from all_names falls_from offsets_fall names
out_of_order = rw (letter 0x61 (lit< tt), letter 0x62 (lit< tt)) refl

pub in_any_order : names (0x01 ∷ 0x02 ∷ 0x00 ∷ 0x01 ∷ 0x02 ∷ 0x62 ∷ 0x61 ∷ []) ≡ Ok ((0x62 ∷ []) ∷ (0x61 ∷ []) ∷ [])
unfolding header version sorted_strings offset_size dictionary_size offset last_offset names_start name names_from all_names falls_from offsets_fall names
in_any_order = rw (letter 0x61 (lit< tt), letter 0x62 (lit< tt)) refl

-- a first offset of 1, though the last one passes the end too
pub first_offset : names (0x11 ∷ 0x01 ∷ 0x01 ∷ 0x09 ∷ 0x61 ∷ []) ≡ Err MetaOffsets
unfolding header version sorted_strings offset_size dictionary_size offset last_offset names_start name names_from all_names falls_from offsets_fall names
first_offset = refl
