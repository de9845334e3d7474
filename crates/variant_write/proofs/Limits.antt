-- What holds of the canonical text of a value holds of its parts, and all counts, sums and ids fit 4 bytes.
use Rattle.std.proofs.Common.{◌≡◌, ℕ, zero, suc, ◌+◌, ◌^◌, ◌<◌, ◌≤◌, max, List, [], ◌∷◌, length, length-append, map, get_or, arith}
use Rattle.std.specs.List.{concat, AllByRecursion}
use Rattle.vs_bytes.specs.Numbers.{width_of}
use Rattle.json_tree.specs.Json.{Json, text, array, object, Parts, no_parts, part, Fields, no_fields, field, items_of, names_of, parts_of, fields_of}
use Rattle.json_tree.specs.Text.{text_of, more_parts, more_fields}
use Rattle.json_tree.specs.View.{view, seen}
use Rattle.json_tree.specs.declared.types.Tree.{Tree}
use Rattle.variant_meta.specs.Written.{ends_from}
use Rattle.variant_meta.proofs.Sizes.{width_holds, wider}
use Rattle.variant_write.specs.Coded.{ids_of, greatest, id_size, elements_coded, values_coded}
use Rattle.variant_write.specs.Conditions.{max_text_len, IsWidths, FieldsHaveNames}
use Rattle.variant_write.specs.declared.widths.Widths.{Widths}
use Rattle.variant_write.proofs.PrimitiveSizes.{quoted_len}
use Rattle.variant_write.proofs.SizeLaw.{array_text, object_text, part_text, field_text, elements_count, values_count, elements_most, values_most}

-- ---- the text of the parts, within any bound

pub text_within : (s : List ℕ) (bound : ℕ) → length (text_of (text s)) ≤ bound → length s ≤ bound
text_within s bound h = omega (arith, h, quoted_len s)

pub elements_within : (elements : Parts) (bound : ℕ) → length (text_of (array elements)) ≤ bound → length (more_parts elements) ≤ bound
elements_within elements bound h = omega (arith, h, array_text elements)

pub fields_within : (fields : Fields) (bound : ℕ) → length (text_of (object fields)) ≤ bound → length (more_fields fields) ≤ bound
fields_within fields bound h = omega (arith, h, object_text fields)

pub first_within : (j : Json) (elements : Parts) (bound : ℕ) → length (more_parts (part j elements)) ≤ bound → length (text_of j) ≤ bound
first_within j elements bound h = omega (arith, h, part_text j elements)

pub others_within : (j : Json) (elements : Parts) (bound : ℕ) → length (more_parts (part j elements)) ≤ bound → length (more_parts elements) ≤ bound
others_within j elements bound h = omega (arith, h, part_text j elements)

pub name_within : (name : List ℕ) (j : Json) (fields : Fields) (bound : ℕ) → length (more_fields (field name j fields)) ≤ bound → length name ≤ bound
name_within name j fields bound h = omega (arith, h, field_text name j fields)

pub value_within : (name : List ℕ) (j : Json) (fields : Fields) (bound : ℕ) → length (more_fields (field name j fields)) ≤ bound → length (text_of j) ≤ bound
value_within name j fields bound h = omega (arith, h, field_text name j fields)

pub fields_left_within : (name : List ℕ) (j : Json) (fields : Fields) (bound : ℕ) → length (more_fields (field name j fields)) ≤ bound → length (more_fields fields) ≤ bound
fields_left_within name j fields bound h = omega (arith, h, field_text name j fields)

-- the same at a place

pub item_within : (trees : List Tree) (i bound : ℕ) (tree : Tree) → i < length trees → tree ≡ get_or trees i tree → length (more_parts (parts_of (map view trees))) ≤ bound → length (text_of (view tree)) ≤ bound
item_within [] i bound tree inside is h = absurd (omega (arith, inside))
item_within (first ∷ trees) zero bound tree inside is h = rw is (first_within (view first) (parts_of (map view trees)) bound h)
item_within (first ∷ trees) (suc i) bound tree inside is h = item_within trees i bound tree (omega (arith, inside)) is (others_within (view first) (parts_of (map view trees)) bound h)

pub member_within : (pairs : List (List ℕ × Tree)) (i bound : ℕ) (pair : List ℕ × Tree) → i < length pairs → pair ≡ get_or pairs i pair → length (more_fields (fields_of (map seen pairs))) ≤ bound → (length pair.0 ≤ bound) × (length (text_of (view pair.1)) ≤ bound)
member_within [] i bound pair inside is h = absurd (omega (arith, inside))
member_within (first ∷ pairs) zero bound pair inside is h =
    (rw is (name_within first.0 (view first.1) (fields_of (map seen pairs)) bound h), rw is (value_within first.0 (view first.1) (fields_of (map seen pairs)) bound h))
member_within (first ∷ pairs) (suc i) bound pair inside is h = member_within pairs i bound pair (omega (arith, inside)) is (fields_left_within first.0 (view first.1) (fields_of (map seen pairs)) bound h)

-- ---- counts and sums

pub count_within : (elements : Parts) → length (items_of elements) ≤ length (more_parts elements)
count_within no_parts = omega arith
count_within (part j elements) = omega (arith, part_text j elements, count_within elements)

pub names_within : (fields : Fields) → length (names_of fields) ≤ length (more_fields fields)
names_within no_fields = omega arith
names_within (field name j fields) = omega (arith, field_text name j fields, names_within fields)

pub elements_total : (names : List (List ℕ)) (elements : Parts) (widths : Widths) → IsWidths widths → length (more_parts elements) ≤ max_text_len → length (concat (elements_coded names elements widths)) < 2 ^ 32
elements_total names elements widths is h = omega (arith, h, elements_most names elements widths is)

pub values_total : (names : List (List ℕ)) (fields : Fields) (widths : Widths) → IsWidths widths → length (more_fields fields) ≤ max_text_len → length (concat (values_coded names fields widths)) < 2 ^ 32
values_total names fields widths is h = omega (arith, h, values_most names fields widths is)

pub elements_few : (names : List (List ℕ)) (elements : Parts) (widths : Widths) → length (more_parts elements) ≤ max_text_len → length (elements_coded names elements widths) < 2 ^ 32
elements_few names elements widths h = omega (arith, h, elements_count names elements widths, count_within elements)

pub values_few : (names : List (List ℕ)) (fields : Fields) (widths : Widths) → length (more_fields fields) ≤ max_text_len → length (values_coded names fields widths) < 2 ^ 32
values_few names fields widths h = omega (arith, h, values_count names fields widths, names_within fields)

-- ---- the ends of items

pub ends_below : (bound start : ℕ) (items : List (List ℕ)) → start + length (concat items) < bound → AllByRecursion (λ n. n < bound) (ends_from start items)
ends_below bound start [] h = tt
ends_below bound start (item ∷ items) h =
    let sum = length-append item (concat items) in
    (omega (arith, h, sum), ends_below bound (start + length item) items (omega (arith, h, sum)))

pub offsets_fit : (least : ℕ) (items : List (List ℕ)) → length (concat items) < 2 ^ 32 → AllByRecursion (λ n. n < 256 ^ max least (width_of (length (concat items)))) (ends_from 0 items)
offsets_fit least items h =
    let size : ℕ = max least (width_of (length (concat items))) in
    let fits : length (concat items) < 256 ^ size = wider (length (concat items)) (width_of (length (concat items))) size (omega arith) (width_holds (length (concat items)) h).0 in
    ends_below (256 ^ size) 0 items (omega (arith, fits))

-- ---- ids

pub ids_below : (names : List (List ℕ)) (fields : Fields) → FieldsHaveNames names fields → AllByRecursion (λ id. id < length names) (ids_of names fields)
ids_below names no_fields h = tt
ids_below names (field name j fields) h = (h.0, ids_below names fields h.2)

greatest_below : (bound : ℕ) (ids : List ℕ) → 0 < bound → AllByRecursion (λ id. id < bound) ids → greatest ids < bound
greatest_below bound [] some h = some
greatest_below bound (id ∷ ids) some h = omega (arith, h.0, greatest_below bound ids some h.1)

below_greatest : (bound : ℕ) (ids : List ℕ) → greatest ids < bound → AllByRecursion (λ id. id < bound) ids
below_greatest bound [] h = tt
below_greatest bound (id ∷ ids) h = (omega (arith, h), below_greatest bound ids (omega (arith, h)))

pub greatest_small : (names : List (List ℕ)) (fields : Fields) → length names < 2 ^ 32 → FieldsHaveNames names fields → greatest (ids_of names fields) < 2 ^ 32
greatest_small names no_fields few h = omega arith
greatest_small names (field name j fields) few h = omega (arith, few, h.0, greatest_below (length names) (ids_of names (field name j fields)) (omega (arith, h.0)) (ids_below names (field name j fields) h))

pub ids_fit : (least : ℕ) (ids : List ℕ) → greatest ids < 2 ^ 32 → AllByRecursion (λ id. id < 256 ^ id_size least ids) ids
unfolding id_size
ids_fit least ids h = below_greatest (256 ^ max least (width_of (greatest ids))) ids (wider (greatest ids) (width_of (greatest ids)) (max least (width_of (greatest ids))) (omega arith) (width_holds (greatest ids) h).0)
