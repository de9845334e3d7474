-- The names of all objects in a value are fewer than the bytes of its canonical text, and together shorter.
use Rattle.std.proofs.Common.{◌≡◌, ◌∙◌, ap, ℕ, ◌+◌, ◌≤◌, ◌<◌, List, ◌++◌, length, length-append, arith}
use Rattle.std.specs.List.{concat}
use Rattle.std.proofs.lemmas.List.Folds.{concat-append}
use Rattle.json_tree.specs.Json.{Json, null, boolean, number, text, array, object, Parts, no_parts, part, Fields, no_fields, field}
use Rattle.json_tree.specs.Text.{text_of, more_parts, more_fields}
use Rattle.variant_meta.specs.Dictionaries.{count_bound, bytes_bound}
use Rattle.variant_write.specs.Conditions.{max_text_len}
use Rattle.variant_write.specs.Dictionaries.{object_names, elements_names, fields_names}
use Rattle.variant_write.proofs.SizeLaw.{array_text, object_text, part_text, field_text}

joined_len : (xs ys : List (List ℕ)) → length (concat (xs ++ ys)) ≡ length (concat xs) + length (concat ys)
joined_len xs ys = ap length (concat-append xs ys) ∙ length-append (concat xs) (concat ys)

-- the bytes of the names, and one more for each
mutual
  pub names_most : (j : Json) → length (concat (object_names j)) + length (object_names j) ≤ length (text_of j)
  names_most null = omega arith
  names_most (boolean b) = omega arith
  names_most (number d) = omega arith
  names_most (text s) = omega arith
  names_most (array elements) = omega (arith, array_text elements, elements_names_most elements)
  names_most (object fields) = omega (arith, object_text fields, fields_names_most fields)

  pub elements_names_most : (elements : Parts) → length (concat (elements_names elements)) + length (elements_names elements) ≤ length (more_parts elements)
  elements_names_most no_parts = omega arith
  elements_names_most (part j elements) =
      omega (arith, part_text j elements, joined_len (object_names j) (elements_names elements), length-append (object_names j) (elements_names elements), names_most j, elements_names_most elements)

  pub fields_names_most : (fields : Fields) → length (concat (fields_names fields)) + length (fields_names fields) ≤ length (more_fields fields)
  fields_names_most no_fields = omega arith
  fields_names_most (field name j fields) =
      omega (arith, field_text name j fields, length-append name (concat (object_names j ++ fields_names fields)), joined_len (object_names j) (fields_names fields), length-append (object_names j) (fields_names fields), names_most j, fields_names_most fields)

-- so a dictionary of them is within its bounds
pub names_few : (j : Json) → length (text_of j) ≤ max_text_len → length (object_names j) < count_bound
names_few j h = omega (arith, h, names_most j)

pub names_small : (j : Json) → length (text_of j) ≤ max_text_len → length (concat (object_names j)) < bytes_bound
names_small j h = omega (arith, h, names_most j)
