-- Values worked out by hand from the standard, byte by byte.
use Rattle.std.proofs.Common.{◌≡◌, refl, ℕ, ◌-◌, ◌^◌, [], ◌∷◌, ◌++◌, length, take, replicate, pos, negsuc, true}
use Rattle.exact_num.specs.Unscaled.{half, unsigned_number}
use Rattle.json_tree.specs.Json as json
use Rattle.vs_bytes.specs.Numbers.{width_of}
use Rattle.variant_write.specs.Coded.{id_size, coded, elements_coded, values_coded}
use Rattle.variant_write.specs.Layout.{is_large, count_bytes, large_bit, head, packed, composed}
use Rattle.variant_write.specs.Primitives.{integer_bytes, decimal_bytes, whole_bytes, fraction_bytes, decimal_coded, text_coded}
use Rattle.variant_write.specs.declared.widths.Widths.{Widths}

abbrev narrow : Widths
narrow = record { offset = 1; id = 1 }

abbrev integer : ℕ → json.Json
integer n = json.number (record { unscaled = pos n; scale = 0 })

-- `{"a":1}`: an object of one field, id 0, offsets 0 and 2, then int8 1
pub one_member : coded ((0x61 ∷ []) ∷ []) (json.object (json.field (0x61 ∷ []) (integer 1) json.no_fields)) narrow ≡ 0x02 ∷ 0x01 ∷ 0x00 ∷ 0x00 ∷ 0x02 ∷ 0x0c ∷ 0x01 ∷ []
unfolding half unsigned_number width_of id_size coded elements_coded values_coded is_large count_bytes large_bit head packed composed integer_bytes decimal_bytes whole_bytes fraction_bytes decimal_coded text_coded
one_member = refl

-- the same with offsets of 4 bytes and ids of 3
pub one_member_wide : coded ((0x61 ∷ []) ∷ []) (json.object (json.field (0x61 ∷ []) (integer 1) json.no_fields)) (record { offset = 4; id = 3 }) ≡ 0x2e ∷ 0x01 ∷ 0 ∷ 0 ∷ 0 ∷ 0 ∷ 0 ∷ 0 ∷ 0 ∷ 2 ∷ 0 ∷ 0 ∷ 0 ∷ 0x0c ∷ 0x01 ∷ []
unfolding half unsigned_number width_of id_size coded elements_coded values_coded is_large count_bytes large_bit head packed composed integer_bytes decimal_bytes whole_bytes fraction_bytes decimal_coded text_coded
one_member_wide = refl

-- null, true, `"hi"`, an empty array and an empty object
pub of_null : coded [] json.null narrow ≡ 0x00 ∷ []
unfolding coded
of_null = refl

pub of_true : coded [] (json.boolean true) narrow ≡ 0x04 ∷ []
unfolding coded
of_true = refl

pub of_text : coded [] (json.text (0x68 ∷ 0x69 ∷ [])) narrow ≡ 0x09 ∷ 0x68 ∷ 0x69 ∷ []
unfolding coded text_coded
of_text = refl

pub empty_array : coded [] (json.array json.no_parts) narrow ≡ 0x03 ∷ 0x00 ∷ 0x00 ∷ []
unfolding half unsigned_number width_of id_size coded elements_coded values_coded is_large count_bytes large_bit head packed composed integer_bytes decimal_bytes whole_bytes fraction_bytes decimal_coded text_coded
empty_array = refl

pub empty_object : coded [] (json.object json.no_fields) narrow ≡ 0x02 ∷ 0x00 ∷ 0x00 ∷ []
unfolding half unsigned_number width_of id_size coded elements_coded values_coded is_large count_bytes large_bit head packed composed integer_bytes decimal_bytes whole_bytes fraction_bytes decimal_coded text_coded
empty_object = refl

-- 1.5, a decimal4 of scale 1
pub fraction : coded [] (json.number (record { unscaled = pos 15; scale = 1 })) narrow ≡ 0x20 ∷ 0x01 ∷ 0x0f ∷ 0x00 ∷ 0x00 ∷ 0x00 ∷ []
unfolding half unsigned_number coded integer_bytes decimal_bytes whole_bytes fraction_bytes decimal_coded
fraction = refl

-- 38 nines, a decimal16 of scale 0
pub nines : coded [] (integer (10 ^ 38 - 1)) narrow ≡ 0x28 ∷ 0x00 ∷ 0xff ∷ 0xff ∷ 0xff ∷ 0xff ∷ 0x3f ∷ 0x22 ∷ 0x8a ∷ 0x09 ∷ 0x7a ∷ 0xc4 ∷ 0x86 ∷ 0x5a ∷ 0xa8 ∷ 0x4c ∷ 0x3b ∷ 0x4b ∷ []
unfolding half unsigned_number coded integer_bytes decimal_bytes whole_bytes fraction_bytes decimal_coded
nines = refl

-- -1, an int8
pub minus_one : coded [] (json.number (record { unscaled = negsuc 0; scale = 0 })) narrow ≡ 0x0c ∷ 0xff ∷ []
unfolding half unsigned_number coded integer_bytes decimal_bytes whole_bytes fraction_bytes decimal_coded
minus_one = refl

-- 63 letters are a short string, 64 are not
pub longest_short : text_coded (replicate 63 0x61) ≡ 0xfd ∷ replicate 63 0x61
unfolding text_coded
longest_short = refl

pub shortest_long : text_coded (replicate 64 0x61) ≡ (0x40 ∷ 0x40 ∷ 0x00 ∷ 0x00 ∷ 0x00 ∷ []) ++ replicate 64 0x61
unfolding text_coded
shortest_long = refl

-- 255 nulls: a count of 1 byte, offsets of 1 byte
pub nulls_255 : take 2 (coded [] (json.array (json.parts_of (replicate 255 json.null))) narrow) ≡ 0x03 ∷ 0xff ∷ []
unfolding half unsigned_number width_of id_size coded elements_coded values_coded is_large count_bytes large_bit head packed composed integer_bytes decimal_bytes whole_bytes fraction_bytes decimal_coded text_coded
nulls_255 = refl

pub nulls_255_len : length (coded [] (json.array (json.parts_of (replicate 255 json.null))) narrow) ≡ 513
unfolding half unsigned_number width_of id_size coded elements_coded values_coded is_large count_bytes large_bit head packed composed integer_bytes decimal_bytes whole_bytes fraction_bytes decimal_coded text_coded
nulls_255_len = refl

-- 256 nulls: a count of 4 bytes, offsets of 2
pub nulls_256 : take 5 (coded [] (json.array (json.parts_of (replicate 256 json.null))) narrow) ≡ 0x17 ∷ 0x00 ∷ 0x01 ∷ 0x00 ∷ 0x00 ∷ []
unfolding half unsigned_number width_of id_size coded elements_coded values_coded is_large count_bytes large_bit head packed composed integer_bytes decimal_bytes whole_bytes fraction_bytes decimal_coded text_coded
nulls_256 = refl

pub nulls_256_len : length (coded [] (json.array (json.parts_of (replicate 256 json.null))) narrow) ≡ 775
unfolding half unsigned_number width_of id_size coded elements_coded values_coded is_large count_bytes large_bit head packed composed integer_bytes decimal_bytes whole_bytes fraction_bytes decimal_coded text_coded
nulls_256_len = refl
