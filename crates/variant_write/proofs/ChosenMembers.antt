-- What holds of an object holds of the object of some of its members.
use Rattle.std.proofs.Common.{◌≡◌, sym, ◌+◌, refl, ℕ, zero, suc, ◌<◌, ◌≤◌, Bool, true, false, cond, List, [], ◌∷◌, ◌++◌, length, length-append, map, get_or, drop, arith}
use Rattle.std.specs.Cmp.Lexicographic.{slice_cmp}
use Rattle.std.specs.List.{AllByRecursion}
use Rattle.std.specs.List.Sorted.{IsStrictlySortedBy}
use Rattle.std.specs.Ordering.{nat_cmp}
use Rattle.std.proofs.Common.{Less}
use Rattle.json_tree.specs.Json.{Json, object, Fields, no_fields, field, names_of, fields_of, fields_depth}
use Rattle.json_tree.specs.Order.{NamesRise, HoldOrdered}
use Rattle.json_tree.specs.Text.{quoted, text_of, more_fields}
use Rattle.json_tree.specs.Valid.{HoldValid}
use Rattle.json_tree.specs.View.{view, seen}
use Rattle.json_tree.specs.declared.types.Tree.{Tree}
use Rattle.variant_write.specs.Chosen.{chosen}
use Rattle.variant_write.specs.Conditions.{FieldsHaveNames}
use Rattle.variant_write.proofs.SizeLaw.{object_text}

-- ---- the text

same_more : (name : List ℕ) (j : Json) (fields others : Fields) → length (more_fields fields) ≤ length (more_fields others) → length (more_fields (field name j fields)) ≤ length (more_fields (field name j others))
same_more name j fields others h =
    omega (arith, h, length-append (quoted name) (58 ∷ (text_of j ++ more_fields fields)), length-append (text_of j) (more_fields fields), length-append (quoted name) (58 ∷ (text_of j ++ more_fields others)), length-append (text_of j) (more_fields others))

one_more : (name : List ℕ) (j : Json) (fields : Fields) → length (more_fields fields) ≤ length (more_fields (field name j fields))
one_more name j fields = omega (arith, length-append (quoted name) (58 ∷ (text_of j ++ more_fields fields)), length-append (text_of j) (more_fields fields))

pub chosen_more : (kept : List Bool) (fields : Fields) → length (more_fields (chosen kept fields)) ≤ length (more_fields fields)
chosen_more [] rest = omega arith
chosen_more (keep ∷ kept) no_fields = omega arith
chosen_more (true ∷ kept) (field name j fields) = same_more name j (chosen kept fields) fields (chosen_more kept fields)
chosen_more (false ∷ kept) (field name j fields) = omega (arith, chosen_more kept fields, one_more name j fields)

text_most : (fields others : Fields) → length (more_fields fields) ≤ length (more_fields others) → length (text_of (object fields)) ≤ length (text_of (object others))
text_most no_fields no_fields h = omega arith
text_most no_fields (field name j others) h = omega (arith, one_more name j others, object_text (field name j others), length-append (quoted name) (58 ∷ (text_of j ++ more_fields others)))
text_most (field name j fields) others h = omega (arith, h, object_text others, length-append (quoted name ++ 58 ∷ (text_of j ++ more_fields fields)) (125 ∷ []))

pub chosen_short : (kept : List Bool) (fields : Fields) → length (text_of (object (chosen kept fields))) ≤ length (text_of (object fields))
chosen_short kept fields = text_most (chosen kept fields) fields (chosen_more kept fields)

-- ---- depth

pub chosen_depth : (kept : List Bool) (fields : Fields) → fields_depth (chosen kept fields) ≤ fields_depth fields
chosen_depth [] rest = omega arith
chosen_depth (keep ∷ kept) no_fields = omega arith
chosen_depth (true ∷ kept) (field name j fields) = omega (arith, chosen_depth kept fields)
chosen_depth (false ∷ kept) (field name j fields) = omega (arith, chosen_depth kept fields)

-- ---- names

chosen_all : (P : List ℕ → Type 0) (kept : List Bool) (fields : Fields) → AllByRecursion P (names_of fields) → AllByRecursion P (names_of (chosen kept fields))
chosen_all P [] rest h = tt
chosen_all P (keep ∷ kept) no_fields h = tt
chosen_all P (true ∷ kept) (field name j fields) h = (h.0, chosen_all P kept fields h.1)
chosen_all P (false ∷ kept) (field name j fields) h = chosen_all P kept fields h.1

pub chosen_rise : (kept : List Bool) (fields : Fields) → NamesRise fields → NamesRise (chosen kept fields)
unfolding IsStrictlySortedBy
chosen_rise [] rest h = tt
chosen_rise (keep ∷ kept) no_fields h = tt
chosen_rise (true ∷ kept) (field name j fields) h = (chosen_all (λ other. slice_cmp nat_cmp name other ≡ Less) kept fields h.0, chosen_rise kept fields h.1)
chosen_rise (false ∷ kept) (field name j fields) h = chosen_rise kept fields h.1

pub chosen_ordered : (kept : List Bool) (fields : Fields) → HoldOrdered fields → HoldOrdered (chosen kept fields)
chosen_ordered [] rest h = tt
chosen_ordered (keep ∷ kept) no_fields h = tt
chosen_ordered (true ∷ kept) (field name j fields) h = (h.0, chosen_ordered kept fields h.1)
chosen_ordered (false ∷ kept) (field name j fields) h = chosen_ordered kept fields h.1

pub chosen_valid : (kept : List Bool) (fields : Fields) → HoldValid fields → HoldValid (chosen kept fields)
chosen_valid [] rest h = tt
chosen_valid (keep ∷ kept) no_fields h = tt
chosen_valid (true ∷ kept) (field name j fields) h = (h.0, h.1, chosen_valid kept fields h.2)
chosen_valid (false ∷ kept) (field name j fields) h = chosen_valid kept fields h.2

pub chosen_named : (names : List (List ℕ)) (kept : List Bool) (fields : Fields) → FieldsHaveNames names fields → FieldsHaveNames names (chosen kept fields)
chosen_named names [] rest h = tt
chosen_named names (keep ∷ kept) no_fields h = tt
chosen_named names (true ∷ kept) (field name j fields) h = (h.0, h.1, chosen_named names kept fields h.2)
chosen_named names (false ∷ kept) (field name j fields) h = chosen_named names kept fields h.2

-- ---- the members from a place on

pub chosen_at : (kept : List Bool) (pairs : List (List ℕ × Tree)) (i : ℕ) (keep : Bool) (d : List ℕ × Tree) → i < length kept → i < length pairs → get_or kept i false ≡ keep
    → chosen (drop i kept) (fields_of (map seen (drop i pairs))) ≡ cond keep (field (get_or pairs i d).0 (view (get_or pairs i d).1) (chosen (drop (i + 1) kept) (fields_of (map seen (drop (i + 1) pairs))))) (chosen (drop (i + 1) kept) (fields_of (map seen (drop (i + 1) pairs))))
chosen_at [] pairs i keep d inside within is = absurd (omega (arith, inside))
chosen_at (first ∷ kept) [] i keep d inside within is = absurd (omega (arith, within))
chosen_at (true ∷ kept) (other ∷ pairs) zero keep d inside within is = rw (sym is) refl
chosen_at (false ∷ kept) (other ∷ pairs) zero keep d inside within is = rw (sym is) refl
chosen_at (first ∷ kept) (other ∷ pairs) (suc i) keep d inside within is =
    let next : suc i + 1 ≡ suc (i + 1) = omega arith in
    rw next (chosen_at kept pairs i keep d (omega (arith, inside)) (omega (arith, within)) is)
