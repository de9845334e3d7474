-- The record of a value is within the text of the value.
use Rattle.std.proofs.Common.{◌≡◌, refl, subst, ℕ, ◌+◌, ◌*◌, ◌^◌, ◌≤◌, ◌==◌, nat_lt, max, Bool, true, false, cond, List, [], ◌∷◌, ◌++◌, length, length-append, ℤ, unsigned_abs, Option, Some, None, arith}
use Rattle.std.specs.List.{concat}
use Rattle.std.specs.Str.{bytes_eq}
use Rattle.exact_num.specs.Decimal.{Decimal}
use Rattle.json_tree.specs.Json.{Json, Parts, no_parts, part, Fields, no_fields}
use Rattle.json_tree.specs.Json as json
use Rattle.json_tree.specs.Order.{member_of}
use Rattle.json_tree.specs.Text.{text_of, more_parts, more_fields}
use Rattle.vs_bytes.specs.declared.leaf_columns.Cell.{Cell}
use Rattle.vs_bytes.specs.declared.leaf_columns.Cell.TheVariants as cell
use Rattle.vs_bytes.specs.declared.leaf_columns.PrimKind.{PrimKind}
use Rattle.vs_bytes.specs.declared.leaf_columns.PrimKind.TheVariants as prim
use Rattle.variant_meta.specs.Names.{is_before}
use Rattle.variant_meta.specs.TypeIds.{int8_id, int16_id, int32_id, int64_id, decimal4_id, decimal8_id, decimal16_id}
use Rattle.variant_meta.specs.Written.{ends_from, numbers, written_size, metadata_of, coded_names}
use Rattle.vs_bytes.specs.Numbers.{number_bytes}
use Rattle.variant_write.specs.Conditions.{IsWidths}
use Rattle.variant_write.specs.Dictionaries.{object_names, added, each_once, dictionary}
use Rattle.variant_write.specs.Primitives.{fits_bytes, whole_bytes, fraction_bytes, integer_bytes, decimal_bytes, decimal_coded}
use Rattle.variant_write.specs.declared.widths.Widths.{Widths}
use Rattle.variant_write.proofs.ChosenMembers.{chosen_short}
use Rattle.variant_write.proofs.Limits.{text_within, elements_within, fields_within}
use Rattle.variant_write.proofs.NameLimits.{names_most}
use Rattle.variant_write.proofs.PrimitiveSizes.{number_most}
use Rattle.variant_write.proofs.SizeLaw.{coded_most, array_text, object_text, part_text, field_text}
use Rattle.variant_write.proofs.Sizes.{number_len, numbers_most, ends_len, width_most}
use Rattle.shred_schema.specs.Fits.{number_cell, signed_within, over_in, fit}
use Rattle.shred_schema.specs.Groups.{Group, group, Kind, free, scalar, object_of, list_of, Groups, no_groups, field}
use Rattle.shred_schema.specs.Recs.{rec, empty}
use Rattle.shred_schema.specs.declared.nodes.Slot.{Slot}
use Rattle.shred_schema.proofs.FitFacts.{number_told}
use Rattle.shredder.specs.Shredded.{by_names, unnamed, others, cell_or_left, field_record, members_left, items_shredded, shredded, kind_shredded, fields_shredded, shred_row}
use Rattle.level_striping.specs.Sizes.{ValueIsWithin, CellIsWithin, ShareSize, IsWithin, PartIsWithin, FieldsAreWithin, RowIsWithin}
use Rattle.striping_laws.specs.Rows.{text_len}

-- ---- a text has a byte or more

integer_some : (type_id width : ℕ) (z : ℤ) → 1 ≤ length (integer_bytes type_id width z)
unfolding integer_bytes
integer_some type_id width z = omega arith

decimal_some : (type_id width : ℕ) (d : Decimal) → 1 ≤ length (decimal_bytes type_id width d)
unfolding decimal_bytes
decimal_some type_id width d = omega arith

either_some : (b : Bool) (xs ys : List ℕ) → 1 ≤ length xs → 1 ≤ length ys → 1 ≤ length (cond b xs ys)
either_some true xs ys h g = h
either_some false xs ys h g = g

whole_some : (d : Decimal) → 1 ≤ length (whole_bytes d)
unfolding whole_bytes
whole_some d =
    let z = d.unscaled in
    let wide = decimal_bytes decimal16_id 16 d in
    let eight = cond (fits_bytes 8 z) (integer_bytes int64_id 8 z) wide in
    let four = cond (fits_bytes 4 z) (integer_bytes int32_id 4 z) eight in
    let two = cond (fits_bytes 2 z) (integer_bytes int16_id 2 z) four in
    either_some (fits_bytes 1 z) (integer_bytes int8_id 1 z) two (integer_some int8_id 1 z)
    (either_some (fits_bytes 2 z) (integer_bytes int16_id 2 z) four (integer_some int16_id 2 z)
    (either_some (fits_bytes 4 z) (integer_bytes int32_id 4 z) eight (integer_some int32_id 4 z)
    (either_some (fits_bytes 8 z) (integer_bytes int64_id 8 z) wide (integer_some int64_id 8 z) (decimal_some decimal16_id 16 d))))

fraction_some : (d : Decimal) → 1 ≤ length (fraction_bytes d)
unfolding fraction_bytes
fraction_some d =
    let wide = decimal_bytes decimal16_id 16 d in
    let size = unsigned_abs d.unscaled in
    either_some (nat_lt size (10 ^ 9)) (decimal_bytes decimal4_id 4 d) (cond (nat_lt size (10 ^ 18)) (decimal_bytes decimal8_id 8 d) wide) (decimal_some decimal4_id 4 d)
    (either_some (nat_lt size (10 ^ 18)) (decimal_bytes decimal8_id 8 d) wide (decimal_some decimal8_id 8 d) (decimal_some decimal16_id 16 d))

number_some : (d : Decimal) → 1 ≤ length (decimal_coded d)
unfolding decimal_coded
number_some d = either_some (d.scale == 0) (whole_bytes d) (fraction_bytes d) (whole_some d) (fraction_some d)

pub text_some : (j : Json) → 1 ≤ length (text_of j)
text_some json.null = omega arith
text_some (json.boolean true) = omega arith
text_some (json.boolean false) = omega arith
text_some (json.number d) = omega (arith, number_most d, number_some d)
text_some (json.text s) = omega arith
text_some (json.array js) = omega (arith, array_text js)
text_some (json.object fs) = omega (arith, object_text fs)

-- ---- cells

number_within : (f : Decimal → Option ℤ) (j : Json) (c : Cell) (size : ℕ) → number_cell f j ≡ Some c → CellIsWithin size c
number_within f j c size h = let told = number_told f j c h in subst (CellIsWithin size) told.cell_is tt

truth_within : (j : Json) (c : Cell) (size : ℕ) → fit prim.Boolean j ≡ Some c → CellIsWithin size c
truth_within (json.boolean b) c size h = let same : cell.Bool b ≡ c = cc in subst (CellIsWithin size) same tt
truth_within json.null c size h = absurd cc
truth_within (json.number d) c size h = absurd cc
truth_within (json.text s) c size h = absurd cc
truth_within (json.array js) c size h = absurd cc
truth_within (json.object fs) c size h = absurd cc

bytes_within : (j : Json) (c : Cell) (size : ℕ) → length (text_of j) ≤ size → fit prim.Text j ≡ Some c → CellIsWithin size c
bytes_within (json.text s) c size short h = let same : cell.Bytes s ≡ c = cc in subst (CellIsWithin size) same (text_within s size short)
bytes_within json.null c size short h = absurd cc
bytes_within (json.boolean b) c size short h = absurd cc
bytes_within (json.number d) c size short h = absurd cc
bytes_within (json.array js) c size short h = absurd cc
bytes_within (json.object fs) c size short h = absurd cc

cell_within : (q : PrimKind) (j : Json) (c : Cell) (size : ℕ) → length (text_of j) ≤ size → fit q j ≡ Some c → CellIsWithin size c
cell_within prim.Raw j c size short h = absurd cc
cell_within prim.Boolean j c size short h = truth_within j c size h
cell_within prim.Int8 j c size short h = number_within (signed_within 8) j c size h
cell_within prim.Int16 j c size short h = number_within (signed_within 16) j c size h
cell_within prim.Int32 j c size short h = number_within (signed_within 32) j c size h
cell_within prim.Int64 j c size short h = number_within (signed_within 64) j c size h
cell_within (prim.Decimal p s) j c size short h = number_within (over_in p s) j c size h
cell_within prim.Text j c size short h = bytes_within j c size short h
cell_within (prim.Refused why) j c size short h = absurd cc

-- ---- records

none_within : (t : Kind) (size : ℕ) → PartIsWithin t size empty
none_within free size = tt
none_within (scalar q) size = tt
none_within (object_of gs) size = tt
none_within (list_of n) size = tt

member_within : (name : List ℕ) (members : Fields) (j : Json) (size : ℕ) → length (more_fields members) ≤ size → member_of name members ≡ Some j → length (text_of j) ≤ size
member_within name no_fields j size short e = absurd cc
member_within name (json.field other k members) j size short e = by (bytes_eq other name) e (member_within name members j size (omega (arith, short, field_text other k members)))
  where
    by : (b : Bool) → cond b (Some k) (member_of name members) ≡ Some j → (member_of name members ≡ Some j → length (text_of j) ≤ size) → length (text_of j) ≤ size
    by true e f = let same : k ≡ j = cc in subst (λ x. length (text_of x) ≤ size) same (omega (arith, short, field_text other k members))
    by false e f = f e

module _ (code : Json → List ℕ) (most : (j : Json) → length (code j) ≤ 6 * length (text_of j)) where
  whole_within : (s : Slot) (t : Kind) (j : Json) (size : ℕ) → length (text_of j) ≤ size → IsWithin (group s t) size (rec (Some (code j)) empty)
  whole_within s t j size short = (omega (arith, short, text_some j), omega (arith, short, most j), none_within t size)

  members_within : (members : Fields) (size : ℕ) → length (text_of (json.object members)) ≤ size → ValueIsWithin size (members_left code members)
  members_within no_fields size short = tt
  members_within (json.field name j members) size short = omega (arith, short, most (json.object (json.field name j members)))

  cell_or_left_within : (s : Slot) (q : PrimKind) (j : Json) (size : ℕ) → length (text_of j) ≤ size → (o : Option Cell) → fit q j ≡ o → IsWithin (group s (scalar q)) size (cell_or_left code j o)
  cell_or_left_within s q j size short None e = whole_within s (scalar q) j size short
  cell_or_left_within s q j size short (Some c) e = (omega (arith, short, text_some j), tt, cell_within q j c size short e)

  items_within : (n : Group) → ((j : Json) (size : ℕ) → length (text_of j) ≤ size → IsWithin n size (shredded code n j)) → (js : Parts) (size : ℕ) → length (more_parts js) ≤ size → ShareSize (IsWithin n) size (items_shredded (shredded code n) js)
  items_within n f no_parts size short = tt
  items_within n f (part j js) size short =
      (length (text_of j), length (more_parts js), omega (arith, short, part_text j js), f j (length (text_of j)) (omega arith), items_within n f js (length (more_parts js)) (omega arith))

  missing_within : (n : Group) (size : ℕ) → 1 ≤ size → IsWithin n size (rec None empty)
  missing_within (group s t) size some = (some, tt, none_within t size)

  field_within : (n : Group) → ((j : Json) (size : ℕ) → length (text_of j) ≤ size → IsWithin n size (shredded code n j)) → (o : Option Json) (size : ℕ) → 1 ≤ size → ((j : Json) → o ≡ Some j → length (text_of j) ≤ size) → IsWithin n size (field_record (shredded code n) o)
  field_within n f None size some h = missing_within n size some
  field_within n f (Some j) size some h = f j size (h j refl)

  mutual
    pub record_within : (n : Group) (j : Json) (size : ℕ) → length (text_of j) ≤ size → IsWithin n size (shredded code n j)
    record_within (group s t) j size short = kind_within s t j size short

    kind_within : (s : Slot) (t : Kind) (j : Json) (size : ℕ) → length (text_of j) ≤ size → IsWithin (group s t) size (kind_shredded code t j)
    kind_within s free j size short = whole_within s free j size short
    kind_within s (scalar q) j size short = cell_or_left_within s q j size short (fit q j) refl
    kind_within s (list_of n) (json.array js) size short = (omega (arith, short, text_some (json.array js)), tt, items_within n (record_within n) js size (elements_within js size short))
    kind_within s (list_of n) json.null size short = whole_within s (list_of n) json.null size short
    kind_within s (list_of n) (json.boolean b) size short = whole_within s (list_of n) (json.boolean b) size short
    kind_within s (list_of n) (json.number d) size short = whole_within s (list_of n) (json.number d) size short
    kind_within s (list_of n) (json.text x) size short = whole_within s (list_of n) (json.text x) size short
    kind_within s (list_of n) (json.object fs) size short = whole_within s (list_of n) (json.object fs) size short
    kind_within s (object_of gs) (json.object fs) size short =
        let some : 1 ≤ size = omega (arith, short, text_some (json.object fs)) in
        (some, members_within (others gs fs) size (omega (arith, short, chosen_short (unnamed gs fs) fs)), fields_are_within gs fs size some (fields_within fs size short))
    kind_within s (object_of gs) json.null size short = whole_within s (object_of gs) json.null size short
    kind_within s (object_of gs) (json.boolean b) size short = whole_within s (object_of gs) (json.boolean b) size short
    kind_within s (object_of gs) (json.number d) size short = whole_within s (object_of gs) (json.number d) size short
    kind_within s (object_of gs) (json.text x) size short = whole_within s (object_of gs) (json.text x) size short
    kind_within s (object_of gs) (json.array js) size short = whole_within s (object_of gs) (json.array js) size short

    fields_are_within : (gs : Groups) (fs : Fields) (size : ℕ) → 1 ≤ size → length (more_fields fs) ≤ size → FieldsAreWithin gs size (fields_shredded code gs fs)
    fields_are_within no_groups fs size some short = tt
    fields_are_within (field name n gs) fs size some short =
        (field_within n (record_within n) (member_of name fs) size some (λ j e. member_within name fs j size short e), fields_are_within gs fs size some short)

pub shredded_within : (names : List (List ℕ)) (widths : Widths) (n : Group) (j : Json) → IsWidths widths → IsWithin n (length (text_of j)) (shredded (by_names names widths) n j)
shredded_within names widths n j wide = record_within (by_names names widths) (λ x. coded_most names x widths wide) n j (length (text_of j)) (omega arith)

-- ---- metadata: a dictionary has no more names than its value, and no more bytes of names

added_few : (name : List ℕ) (names : List (List ℕ)) → length (added name names) ≤ 1 + length names
added_few name [] = omega arith
added_few name (other ∷ names) = by (is_before name other) (is_before other name) (added_few name names)
  where
    by : (b c : Bool) → length (added name names) ≤ 1 + length names → length (cond b (name ∷ (other ∷ names)) (cond c (other ∷ added name names) (other ∷ names))) ≤ 1 + length (other ∷ names)
    by true c h = omega arith
    by false true h = omega (arith, h)
    by false false h = omega arith

added_short : (name : List ℕ) (names : List (List ℕ)) → length (concat (added name names)) ≤ length name + length (concat names)
added_short name [] = omega (arith, length-append name [])
added_short name (other ∷ names) = by (is_before name other) (is_before other name) (added_short name names)
  where
    by : (b c : Bool) → length (concat (added name names)) ≤ length name + length (concat names) → length (concat (cond b (name ∷ (other ∷ names)) (cond c (other ∷ added name names) (other ∷ names)))) ≤ length name + length (concat (other ∷ names))
    by true c h = omega (arith, length-append name (concat (other ∷ names)))
    by false true h = omega (arith, h, length-append other (concat (added name names)), length-append other (concat names))
    by false false h = omega arith

once_few : (names : List (List ℕ)) → length (each_once names) ≤ length names
once_few [] = omega arith
once_few (name ∷ names) = omega (arith, added_few name (each_once names), once_few names)

once_short : (names : List (List ℕ)) → length (concat (each_once names)) ≤ length (concat names)
once_short [] = omega arith
once_short (name ∷ names) = omega (arith, added_short name (each_once names), once_short names, length-append name (concat names))

dictionary_small : (j : Json) → length (concat (dictionary j)) + length (dictionary j) ≤ length (text_of j)
unfolding dictionary
dictionary_small j = omega (arith, once_few (object_names j), once_short (object_names j), names_most j)

size_most : (least : ℕ) (names : List (List ℕ)) → least ≤ 4 → written_size least names ≤ 4
unfolding written_size
size_most least names h = omega (arith, h, width_most (max (length names) (length (concat names))))

metadata_most : (size : ℕ) (names : List (List ℕ)) → size ≤ 4 → length (metadata_of size names) ≤ 9 + (4 * length names + length (concat names))
unfolding metadata_of
metadata_most size names h =
    let offsets = numbers size (0 ∷ ends_from 0 names) in
    omega (arith, h, number_len size (length names), numbers_most size (0 ∷ ends_from 0 names) h, ends_len 0 names, length-append (number_bytes size (length names)) (offsets ++ concat names), length-append offsets (concat names))

pub metadata_within : (j : Json) (least : ℕ) → least ≤ 4 → length (coded_names least (dictionary j)) ≤ 9 + 4 * length (text_of j)
unfolding coded_names
metadata_within j least h = omega (arith, metadata_most (written_size least (dictionary j)) (dictionary j) (size_most least (dictionary j) h), dictionary_small j)

-- ---- rows

pub row_within : (widths : Widths) (n : Group) (row : Option Json) → IsWidths widths → RowIsWithin n (text_len row) (shred_row n row widths)
row_within widths n None wide = tt
row_within widths n (Some j) wide = (omega (arith, metadata_within j widths.offset wide.offset_most), shredded_within (dictionary j) widths n j wide)
