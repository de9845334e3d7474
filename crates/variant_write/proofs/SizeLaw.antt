-- The bytes of a value are at most six times as many as those of its canonical text.
use Rattle.std.proofs.Common.{◌≡◌, refl, ap, ℕ, suc, ◌+◌, ◌*◌, ◌≤◌, Bool, true, false, List, [], ◌∷◌, ◌++◌, length, length-append, arith}
use Rattle.std.specs.List.{concat}
use Rattle.json_tree.specs.Json.{Json, null, boolean, number, text, array, object, Parts, no_parts, part, Fields, no_fields, field, items_of, names_of}
use Rattle.json_tree.specs.Text.{quoted, text_of, more_parts, more_fields}
use Rattle.variant_write.specs.Coded.{ids_of, greatest, id_size, coded, elements_coded, values_coded}
use Rattle.variant_write.specs.Conditions.{IsWidths}
use Rattle.variant_write.specs.Layout.{composed}
use Rattle.variant_write.specs.declared.widths.Widths.{Widths}
use Rattle.variant_write.proofs.PrimitiveSizes.{quoted_len, text_most, number_most}
use Rattle.variant_write.proofs.Sizes.{width_most, composed_most}

-- ---- the text

pub array_text : (elements : Parts) → 1 + length (more_parts elements) ≤ length (text_of (array elements))
array_text no_parts = omega arith
array_text (part j elements) = omega (arith, length-append (text_of j ++ more_parts elements) (93 ∷ []))

pub object_text : (fields : Fields) → 1 + length (more_fields fields) ≤ length (text_of (object fields))
object_text no_fields = omega arith
object_text (field name j fields) = omega (arith, length-append (quoted name ++ 58 ∷ (text_of j ++ more_fields fields)) (125 ∷ []))

pub part_text : (j : Json) (elements : Parts) → length (more_parts (part j elements)) ≡ 1 + (length (text_of j) + length (more_parts elements))
part_text j elements = omega (arith, length-append (text_of j) (more_parts elements))

-- the name has its two quotes
pub field_text : (name : List ℕ) (j : Json) (fields : Fields) → 4 + (length name + (length (text_of j) + length (more_fields fields))) ≤ length (more_fields (field name j fields))
field_text name j fields =
    omega (arith, length-append (quoted name) (58 ∷ (text_of j ++ more_fields fields)), length-append (text_of j) (more_fields fields), quoted_len name)

-- ---- the counts

pub elements_count : (names : List (List ℕ)) (elements : Parts) (widths : Widths) → length (elements_coded names elements widths) ≡ length (items_of elements)
unfolding elements_coded
elements_count names no_parts widths = refl
elements_count names (part j elements) widths = ap suc (elements_count names elements widths)

pub values_count : (names : List (List ℕ)) (fields : Fields) (widths : Widths) → length (values_coded names fields widths) ≡ length (names_of fields)
unfolding values_coded
values_count names no_fields widths = refl
values_count names (field name j fields) widths = ap suc (values_count names fields widths)

pub ids_count : (names : List (List ℕ)) (fields : Fields) → length (ids_of names fields) ≡ length (names_of fields)
ids_count names no_fields = refl
ids_count names (field name j fields) = ap suc (ids_count names fields)

pub id_most : (least : ℕ) (ids : List ℕ) → least ≤ 4 → id_size least ids ≤ 4
unfolding id_size
id_most least ids h = omega (arith, h, width_most (greatest ids))

-- ---- the law

null_most : 1 ≤ 6 * length (text_of null)
null_most = omega arith

truth_most : (b : Bool) → 1 ≤ 6 * length (text_of (boolean b))
truth_most true = omega arith
truth_most false = omega arith

array_most : (elements : Parts) (least : ℕ) (items : List (List ℕ)) → least ≤ 4 → length (concat items) + 6 * length items ≤ 6 * length (more_parts elements) → length (composed false least 0 [] items) ≤ 6 * length (text_of (array elements))
array_most elements least items low h = omega (arith, h, array_text elements, composed_most false least 0 [] items low (omega arith))

object_most : (fields : Fields) (least size : ℕ) (ids : List ℕ) (items : List (List ℕ)) → least ≤ 4 → size ≤ 4 → length ids ≡ length items → length (concat items) + 24 * length items ≤ 6 * length (more_fields fields) → length (composed true least size ids items) ≤ 6 * length (text_of (object fields))
object_most fields least size ids items low few same h = omega (arith, h, same, object_text fields, composed_most true least size ids items low few)

mutual
  unfolding coded

  pub coded_most : (names : List (List ℕ)) (j : Json) (widths : Widths) → IsWidths widths → length (coded names j widths) ≤ 6 * length (text_of j)
  coded_most names null widths is = null_most
  coded_most names (boolean b) widths is = truth_most b
  coded_most names (number d) widths is = number_most d
  coded_most names (text s) widths is = text_most s
  coded_most names (array elements) widths is = array_most elements widths.offset (elements_coded names elements widths) is.offset_most (elements_most names elements widths is)
  coded_most names (object fields) widths is =
      object_most fields widths.offset (id_size widths.id (ids_of names fields)) (ids_of names fields) (values_coded names fields widths) is.offset_most (id_most widths.id (ids_of names fields) is.id_most)
      (omega (arith, ids_count names fields, values_count names fields widths)) (values_most names fields widths is)

  -- with six bytes for each element
  pub elements_most : (names : List (List ℕ)) (elements : Parts) (widths : Widths) → IsWidths widths → length (concat (elements_coded names elements widths)) + 6 * length (elements_coded names elements widths) ≤ 6 * length (more_parts elements)
  elements_most names no_parts widths is = omega arith
  elements_most names (part j elements) widths is = omega (arith, part_text j elements, length-append (coded names j widths) (concat (elements_coded names elements widths)), coded_most names j widths is, elements_most names elements widths is)

  -- with 24 bytes for each field
  pub values_most : (names : List (List ℕ)) (fields : Fields) (widths : Widths) → IsWidths widths → length (concat (values_coded names fields widths)) + 24 * length (values_coded names fields widths) ≤ 6 * length (more_fields fields)
  values_most names no_fields widths is = omega arith
  values_most names (field name j fields) widths is = omega (arith, field_text name j fields, length-append (coded names j widths) (concat (values_coded names fields widths)), coded_most names j widths is, values_most names fields widths is)
