-- Parts of values that can be written.
use Rattle.std.proofs.Common.{ℕ, ◌+◌, ◌<◌, ◌≤◌, ◌^◌, Bool, List, length, arith}
use Rattle.std.specs.List.{AllByRecursion}
use Rattle.json_tree.specs.Json.{array, object, Parts, no_parts, part, Fields, no_fields, field, items_of, values_of, parts_depth, fields_depth}
use Rattle.json_tree.specs.Text.{more_parts, more_fields}
use Rattle.json_tree.specs.Valid.{AreValid, HoldValid}
use Rattle.variant_read.specs.Meaning.{max_nesting}
use Rattle.variant_write.specs.Chosen.{chosen}
use Rattle.variant_write.specs.Conditions.{ElementsHaveNames, FieldsHaveNames, max_text_len}
use Rattle.variant_write.proofs.ChosenMembers.{chosen_short, chosen_depth, chosen_rise, chosen_valid, chosen_named}
use Rattle.variant_write.proofs.Limits.{elements_within, fields_within, first_within, others_within, value_within, fields_left_within}
use Rattle.variant_laws.specs.Writable.{IsWritable}

module _ (ns : List (List ℕ)) (above : ℕ) (few : length ns < 2 ^ 32) where
  each_element : (elements : Parts) → AreValid elements → ElementsHaveNames ns elements → above + (parts_depth elements + 1) ≤ max_nesting → length (more_parts elements) ≤ max_text_len → AllByRecursion (IsWritable ns (above + 1)) (items_of elements)
  each_element no_parts valid named depth short = tt
  each_element (part j elements) valid named depth short =
      let own : IsWritable ns (above + 1) j = record { few = few; valid = valid.0; named = named.0; depth = omega (arith, depth); short = first_within j elements max_text_len short } in
      (own, each_element elements valid.1 named.1 (omega (arith, depth)) (others_within j elements max_text_len short))

  each_value : (members : Fields) → HoldValid members → FieldsHaveNames ns members → above + (fields_depth members + 1) ≤ max_nesting → length (more_fields members) ≤ max_text_len → AllByRecursion (IsWritable ns (above + 1)) (values_of members)
  each_value no_fields valid named depth short = tt
  each_value (field name j members) valid named depth short =
      let own : IsWritable ns (above + 1) j = record { few = few; valid = valid.1; named = named.1; depth = omega (arith, depth); short = value_within name j members max_text_len short } in
      (own, each_value members valid.2 named.2 (omega (arith, depth)) (fields_left_within name j members max_text_len short))

pub elements_writable : (ns : List (List ℕ)) (above : ℕ) (elements : Parts) → IsWritable ns above (array elements) → AllByRecursion (IsWritable ns (above + 1)) (items_of elements)
elements_writable ns above elements is = each_element ns above is.few elements is.valid is.named is.depth (elements_within elements max_text_len is.short)

pub values_writable : (ns : List (List ℕ)) (above : ℕ) (members : Fields) → IsWritable ns above (object members) → AllByRecursion (IsWritable ns (above + 1)) (values_of members)
values_writable ns above members is = each_value ns above is.few members is.valid.1 is.named is.depth (fields_within members max_text_len is.short)

pub chosen_writable : (ns : List (List ℕ)) (above : ℕ) (kept : List Bool) (members : Fields) → IsWritable ns above (object members) → IsWritable ns above (object (chosen kept members))
chosen_writable ns above kept members is =
    let shorter = chosen_short kept members in
    let flatter = chosen_depth kept members in
    let depth = is.depth in
    let short = is.short in
    record {
      few = is.few;
      valid = (chosen_rise kept members is.valid.0, chosen_valid kept members is.valid.1);
      named = chosen_named ns kept members is.named;
      depth = omega (arith, depth, flatter);
      short = omega (arith, short, shorter);
    }
