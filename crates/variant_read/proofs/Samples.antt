-- Values worked out by hand from the standard, byte by byte.
use Rattle.std.proofs.Common.{◌≡◌, ◌<◌, refl, ℕ, zero, suc, [], ◌∷◌, true, Ok, Err, pos, slice_index, arith, lit<}
use Rattle.std.proofs.lemmas.Str.{is_utf8-from_IsUtf8, IsUtf8-from_ascii}
use Rattle.std.specs.Str.{is_utf8}
use Rattle.exact_num.specs.Decimal.{shortened}
use Rattle.exact_num.specs.Unscaled.{half, signed_number}
use Rattle.json_tree.specs.Json as json
use Rattle.vs_bytes.specs.declared.rule.Rule.TheVariants.{Offsets}
use Rattle.variant_read.specs.Layout.{basic_type, type_header, is_object, offset_size, id_size, is_large, count_size, count, id_place, field_id, offset_place, offset, fixed_size, last_offset, region, container_size}
use Rattle.variant_read.specs.Primitives.{constant_kind, unread_kind, decimal, integer_kind, decimal_kind, text_at, short_string, string_kind, kind_of, primitive}
use Rattle.variant_read.specs.Meaning.{field_name, field_fault, entries_from, entries, items_at, members_from, with_items, container, by_basic_type, value_of, value_within, means}
use Rattle.variant_read.specs.Trees.{object_of}

-- two letters are UTF-8
letters : (x y : ℕ) → x < 128 → y < 128 → is_utf8 (x ∷ y ∷ []) ≡ true
letters x y h k = is_utf8-from_IsUtf8 (x ∷ y ∷ []) (IsUtf8-from_ascii (x ∷ y ∷ []) by)
  where
    by : (i : ℕ) → slice_index (x ∷ y ∷ []) i < 128
    by zero = h
    by (suc zero) = k
    by (suc (suc i)) = omega arith

abbrev integer : ℕ → json.Json
integer n = json.number (record { unscaled = pos n; scale = 0 })

-- `{"a":1}`: an object of one field, id 0, offsets 0 and 2, then int8 1
pub one_member : means ((0x61 ∷ []) ∷ []) (0x02 ∷ 0x01 ∷ 0x00 ∷ 0x00 ∷ 0x02 ∷ 0x0c ∷ 0x01 ∷ []) 0 ≡ Ok (object_of ((0x61 ∷ [], integer 1) ∷ []), 7)
unfolding half signed_number shortened basic_type type_header is_object offset_size id_size is_large count_size count id_place field_id offset_place offset fixed_size last_offset region container_size constant_kind unread_kind decimal integer_kind decimal_kind text_at short_string string_kind kind_of primitive field_name field_fault entries_from entries items_at members_from with_items container by_basic_type value_of value_within means
one_member = refl

-- the same with offsets of 4 bytes and ids of 3
pub one_member_wide : means ((0x61 ∷ []) ∷ []) (0x2e ∷ 0x01 ∷ 0 ∷ 0 ∷ 0 ∷ 0 ∷ 0 ∷ 0 ∷ 0 ∷ 2 ∷ 0 ∷ 0 ∷ 0 ∷ 0x0c ∷ 0x01 ∷ []) 0 ≡ Ok (object_of ((0x61 ∷ [], integer 1) ∷ []), 15)
unfolding half signed_number shortened basic_type type_header is_object offset_size id_size is_large count_size count id_place field_id offset_place offset fixed_size last_offset region container_size constant_kind unread_kind decimal integer_kind decimal_kind text_at short_string string_kind kind_of primitive field_name field_fault entries_from entries items_at members_from with_items container by_basic_type value_of value_within means
one_member_wide = refl

-- `"hi"`, a short string
pub short_text : means [] (0x09 ∷ 0x68 ∷ 0x69 ∷ []) 0 ≡ Ok (json.text (0x68 ∷ 0x69 ∷ []), 3)
unfolding half signed_number shortened basic_type type_header is_object offset_size id_size is_large count_size count id_place field_id offset_place offset fixed_size last_offset region container_size constant_kind unread_kind decimal integer_kind decimal_kind text_at short_string string_kind kind_of primitive field_name field_fault entries_from entries items_at members_from with_items container by_basic_type value_of value_within means
short_text = rw (letters 0x68 0x69 (lit< tt) (lit< tt)) refl

-- 1.5, a decimal4 of scale 1
pub fraction : means [] (0x20 ∷ 0x01 ∷ 0x0f ∷ 0x00 ∷ 0x00 ∷ 0x00 ∷ []) 0 ≡ Ok (json.number (record { unscaled = pos 15; scale = 1 }), 6)
unfolding half signed_number shortened basic_type type_header is_object offset_size id_size is_large count_size count id_place field_id offset_place offset fixed_size last_offset region container_size constant_kind unread_kind decimal integer_kind decimal_kind text_at short_string string_kind kind_of primitive field_name field_fault entries_from entries items_at members_from with_items container by_basic_type value_of value_within means
fraction = refl

-- the fields a and b, whose values lie in the other order
pub values_in_any_order : means ((0x61 ∷ []) ∷ (0x62 ∷ []) ∷ []) (0x02 ∷ 0x02 ∷ 0x00 ∷ 0x01 ∷ 0x02 ∷ 0x00 ∷ 0x04 ∷ 0x0c ∷ 0x02 ∷ 0x0c ∷ 0x01 ∷ []) 0 ≡ Ok (object_of ((0x61 ∷ [], integer 1) ∷ (0x62 ∷ [], integer 2) ∷ []), 11)
unfolding half signed_number shortened basic_type type_header is_object offset_size id_size is_large count_size count id_place field_id offset_place offset fixed_size last_offset region container_size constant_kind unread_kind decimal integer_kind decimal_kind text_at short_string string_kind kind_of primitive field_name field_fault entries_from entries items_at members_from with_items container by_basic_type value_of value_within means
values_in_any_order = refl

-- two fields whose values are the same two bytes: together they are longer than the region
pub values_overlap : means ((0x61 ∷ []) ∷ (0x62 ∷ []) ∷ []) (0x02 ∷ 0x02 ∷ 0x00 ∷ 0x01 ∷ 0x00 ∷ 0x00 ∷ 0x02 ∷ 0x0c ∷ 0x01 ∷ []) 0 ≡ Err Offsets
unfolding half signed_number shortened basic_type type_header is_object offset_size id_size is_large count_size count id_place field_id offset_place offset fixed_size last_offset region container_size constant_kind unread_kind decimal integer_kind decimal_kind text_at short_string string_kind kind_of primitive field_name field_fault entries_from entries items_at members_from with_items container by_basic_type value_of value_within means
values_overlap = refl
