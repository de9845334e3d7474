-- Coded bytes mean their value.
use Rattle.std.proofs.Common.{◌≡◌, ◌∙◌, refl, sym, ap, ℕ, zero, suc, ◌+◌, ◌*◌, ◌^◌, ◌<◌, ◌≤◌, max, nat_le, Bool, true, false, cond, List, [], ◌∷◌, ◌++◌, length, arith}
use Rattle.std.specs.List.{AllByRecursion, concat}
use Rattle.std.proofs.lemmas.List.{length-append, length-map}
use Rattle.json_tree.specs.Json.{Json, null, boolean, number, text, array, object, Parts, no_parts, part, Fields, no_fields, field, items_of, names_of, values_of, depth_of, parts_depth, fields_depth}
use Rattle.json_tree.specs.Order.{NamesRise}
use Rattle.json_tree.specs.Valid.{IsValid, AreValid, HoldValid}
use Rattle.vs_bytes.specs.Numbers.{width_of, number_bytes}
use Rattle.variant_meta.specs.Names.{place_of}
use Rattle.variant_meta.proofs.Sizes.{width_holds, wider}
use Rattle.variant_read.specs.Meaning.{value_within}
use Rattle.variant_write.specs.Coded.{ids_of, greatest, id_size, coded, elements_coded, values_coded}
use Rattle.variant_write.specs.Conditions.{IsWidths, HasNames, ElementsHaveNames, FieldsHaveNames}
use Rattle.variant_write.specs.Layout.{composed}
use Rattle.variant_write.specs.Primitives.{decimal_coded, text_coded}
use Rattle.variant_write.specs.declared.widths.Widths.{Widths}
use Rattle.variant_laws.proofs.Composed.{offsets_width, items_few, composed_means, greatest_fits}
use Rattle.variant_laws.proofs.FieldNames.{no_fault, object_is, array_is, no_id}
use Rattle.variant_laws.proofs.Plain.{IsPlain, null_read, true_read, false_read, number_read, text_read}
use Rattle.variant_laws.proofs.Walks.{Means, AllMean}

-- a value that holds no others nests nowhere
plain_within : (names : List (List ℕ)) (room : ℕ) (bytes : List ℕ) (json : Json) → IsPlain bytes json → Means (value_within names room) bytes json
unfolding value_within
plain_within names zero bytes json plain rest = plain _ rest
plain_within names (suc room) bytes json plain rest = plain _ rest

boolean_within : (names : List (List ℕ)) (room : ℕ) (b : Bool) → Means (value_within names room) (cond b 4 8 ∷ []) (boolean b)
boolean_within names room true = plain_within names room (4 ∷ []) (boolean true) true_read
boolean_within names room false = plain_within names room (8 ∷ []) (boolean false) false_read

text_most : (s : List ℕ) → length s ≤ length (text_coded s)
unfolding text_coded
text_most s = by (nat_le (length s) 63)
  where
    by : (b : Bool) → length s ≤ length (cond b ((1 + 4 * length s) ∷ s) (64 ∷ (number_bytes 4 (length s) ++ s)))
    by true = omega arith
    by false = let parts = length-append (number_bytes 4 (length s)) s in omega (arith, parts)

-- The items, one for each.

elements_len : (names : List (List ℕ)) (widths : Widths) (elements : Parts) → length (elements_coded names elements widths) ≡ length (items_of elements)
unfolding elements_coded
elements_len names widths no_parts = refl
elements_len names widths (part j elements) = ap suc (elements_len names widths elements)

values_len : (names : List (List ℕ)) (widths : Widths) (members : Fields) → length (values_coded names members widths) ≡ length (names_of members)
unfolding values_coded
values_len names widths no_fields = refl
values_len names widths (field name j members) = ap suc (values_len names widths members)

-- The ids of fields, below the count of all names.

ids_small : (names : List (List ℕ)) (members : Fields) → length names < 2 ^ 32 → FieldsHaveNames names members → greatest (ids_of names members) < 2 ^ 32
ids_small names no_fields few have = omega arith
ids_small names (field name j members) few have =
    let own = have.0 in
    let rest = ids_small names members few have.2 in
    omega (arith, few, own, rest)

record IdsFit (least : ℕ) (ids : List ℕ) : Type 0 where
  one : 1 ≤ id_size least ids
  four : id_size least ids ≤ 4
  each : AllByRecursion (λ n. n < 256 ^ id_size least ids) ids

ids_fit : (least : ℕ) (ids : List ℕ) → 1 ≤ least → least ≤ 4 → greatest ids < 2 ^ 32 → IdsFit least ids
unfolding id_size
ids_fit least ids low high small =
    let width = width_holds (greatest ids) small in
    let holds = width.0 in
    let four = width.2 in
    record {
      one = omega (arith, low);
      four = omega (arith, high, four);
      each = greatest_fits (max least (width_of (greatest ids))) ids (wider (greatest ids) (width_of (greatest ids)) (max least (width_of (greatest ids))) (omega arith) holds);
    }

-- What holds items.

total_small : (is : Bool) (least i : ℕ) (ids : List ℕ) (items : List (List ℕ)) → 1 ≤ least → length (composed is least i ids items) < 2 ^ 32 → length (concat items) < 2 ^ 32
unfolding composed
total_small is least i ids items low small = (items_few is (offsets_width least items) i ids items (omega (arith, low)) small).1

array_mean : (names : List (List ℕ)) (widths : Widths) (room : ℕ) (elements : Parts) → IsWidths widths → length (composed false widths.offset 0 [] (elements_coded names elements widths)) < 2 ^ 32 → AllMean (value_within names room) (elements_coded names elements widths) (items_of elements) → Means (value_within names (suc room)) (composed false widths.offset 0 [] (elements_coded names elements widths)) (array elements)
array_mean names widths room elements wide small mean =
    let items = elements_coded names elements widths in
    composed_means names room false widths.offset 0 [] items (items_of elements) (array elements) wide.offset_least wide.offset_most refl (omega arith) tt small mean
    (λ bytes has. (λ m h. no_id names bytes m has.0, array_is names elements bytes has.0))

object_mean : (names : List (List ℕ)) (widths : Widths) (room : ℕ) (members : Fields) → IsWidths widths → length names < 2 ^ 32 → FieldsHaveNames names members → NamesRise members → length (coded names (object members) widths) < 2 ^ 32 → AllMean (value_within names room) (values_coded names members widths) (values_of members) → Means (value_within names (suc room)) (coded names (object members) widths) (object members)
unfolding coded
object_mean names widths room members wide few have rise small mean =
    let items = values_coded names members widths in
    let ids = ids_of names members in
    let many = values_len names widths members in
    let as_many = length-map (names_of members) (place_of names) in
    let fit = ids_fit widths.id ids wide.id_least wide.id_most (ids_small names members few have) in
    let bytes : length ids * id_size widths.id ids ≡ length items * id_size widths.id ids = ap (λ (n : ℕ). n * id_size widths.id ids) (as_many ∙ sym many) in
    composed_means names room true widths.offset (id_size widths.id ids) ids items (values_of members) (object members) wide.offset_least wide.offset_most (fit.one, fit.four) bytes fit.each small mean
    (λ bytes has. (λ m h. no_fault names members bytes m has.0 have rise has.1 (omega (arith, h, many)), object_is names members bytes has.0 have has.1))

-- The law.

-- a part is no longer than all
first_small : (item : List ℕ) (items : List (List ℕ)) → length (concat (item ∷ items)) < 2 ^ 32 → (length item < 2 ^ 32) × (length (concat items) < 2 ^ 32)
first_small item items h = let parts = length-append item (concat items) in (omega (arith, parts, h), omega (arith, parts, h))

module _ (names : List (List ℕ)) (widths : Widths) (wide : IsWidths widths) (few : length names < 2 ^ 32) where
  mutual
    unfolding coded elements_coded values_coded

    pub coded_mean : (json : Json) (room : ℕ) → IsValid json → HasNames names json → depth_of json ≤ room → length (coded names json widths) < 2 ^ 32 → Means (value_within names room) (coded names json widths) json
    coded_mean null room valid have deep small = plain_within names room (0 ∷ []) null null_read
    coded_mean (boolean b) room valid have deep small = boolean_within names room b
    coded_mean (number d) room valid have deep small = plain_within names room (decimal_coded d) (number d) (number_read d valid)
    coded_mean (text s) room valid have deep small = plain_within names room (text_coded s) (text s) (text_read s valid (let most = text_most s in omega (arith, most, small)))
    coded_mean (array elements) zero valid have deep small = absurd (omega (arith, deep))
    coded_mean (array elements) (suc room) valid have deep small =
        array_mean names widths room elements wide small (elements_mean elements room valid have (omega (arith, deep)) (total_small false widths.offset 0 [] (elements_coded names elements widths) wide.offset_least small))
    coded_mean (object members) zero valid have deep small = absurd (omega (arith, deep))
    coded_mean (object members) (suc room) valid have deep small =
        object_mean names widths room members wide few have valid.0 small (values_mean members room valid.1 have (omega (arith, deep)) (total_small true widths.offset (id_size widths.id (ids_of names members)) (ids_of names members) (values_coded names members widths) wide.offset_least small))

    elements_mean : (elements : Parts) (room : ℕ) → AreValid elements → ElementsHaveNames names elements → parts_depth elements ≤ room → length (concat (elements_coded names elements widths)) < 2 ^ 32 → AllMean (value_within names room) (elements_coded names elements widths) (items_of elements)
    elements_mean no_parts room valid have deep small = tt
    elements_mean (part j elements) room valid have deep small =
        let each = first_small (coded names j widths) (elements_coded names elements widths) small in
        (coded_mean j room valid.0 have.0 (omega (arith, deep)) each.0, elements_mean elements room valid.1 have.1 (omega (arith, deep)) each.1)

    values_mean : (members : Fields) (room : ℕ) → HoldValid members → FieldsHaveNames names members → fields_depth members ≤ room → length (concat (values_coded names members widths)) < 2 ^ 32 → AllMean (value_within names room) (values_coded names members widths) (values_of members)
    values_mean no_fields room valid have deep small = tt
    values_mean (field name j members) room valid have deep small =
        let each = first_small (coded names j widths) (values_coded names members widths) small in
        (coded_mean j room valid.1 have.1 (omega (arith, deep)) each.0, values_mean members room valid.2 have.2 (omega (arith, deep)) each.1)
