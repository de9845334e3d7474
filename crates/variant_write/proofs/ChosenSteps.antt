-- The members from a place on, of which some are kept.
use Rattle.std.proofs.Common.{◌≡◌, ◌∙◌, refl, sym, ap, ℕ, zero, suc, ◌+◌, ◌<◌, ◌≤◌, Bool, true, false, List, [], ◌∷◌, ◌++◌, length, map, get_or, drop, append_assoc, arith}
use Rattle.json_tree.specs.Json.{Fields, no_fields, fields_of}
use Rattle.json_tree.specs.Text.{text_of, more_fields}
use Rattle.json_tree.specs.View.{view, seen}
use Rattle.json_tree.specs.declared.types.Tree.{Tree}
use Rattle.json_tree.specs.declared.types.Tree.TheVariants.{Null}
use Rattle.variant_meta.specs.Names.{place_of}
use Rattle.variant_write.specs.Chosen.{chosen}
use Rattle.variant_write.specs.Coded.{ids_of, coded, values_coded}
use Rattle.variant_write.specs.Conditions.{HasName, HasNames, FieldsHaveNames}
use Rattle.variant_write.specs.declared.widths.Widths.{Widths}
use Rattle.variant_write.proofs.ChosenMembers.{chosen_at}
use Rattle.variant_write.proofs.Limits.{value_within, fields_left_within}
use Rattle.variant_write.proofs.Walks.{fields_end}

pub member_named : (names : List (List ℕ)) (pairs : List (List ℕ × Tree)) (i : ℕ) (d : List ℕ × Tree) → i < length pairs → FieldsHaveNames names (fields_of (map seen pairs)) → HasName names (get_or pairs i d).0 × HasNames names (view (get_or pairs i d).1)
member_named names [] i d inside h = absurd (omega (arith, inside))
member_named names (first ∷ pairs) zero d inside h = (h.0, h.1)
member_named names (first ∷ pairs) (suc i) d inside h = member_named names pairs i d (omega (arith, inside)) h.2

abbrev pub left_at : List Bool → List (List ℕ × Tree) → ℕ → Fields
left_at kept pairs i = chosen (drop i kept) (fields_of (map seen (drop i pairs)))

module _ (names : List (List ℕ)) (kept : List Bool) (pairs : List (List ℕ × Tree)) (i : ℕ) (d : List ℕ × Tree) (inside : i < length kept) (within : i < length pairs) where
  -- the ids of members that are left, where one is kept, and where it is not
  pub ids_kept : (ids more all : List ℕ) → get_or kept i false ≡ true → ids ++ ids_of names (left_at kept pairs i) ≡ all → more ≡ ids ++ place_of names (get_or pairs i d).0 ∷ [] → more ++ ids_of names (left_at kept pairs (i + 1)) ≡ all
  ids_kept ids more all keep so_far is =
      ap (λ l. l ++ ids_of names (left_at kept pairs (i + 1))) is ∙ append_assoc ids (place_of names (get_or pairs i d).0 ∷ []) (ids_of names (left_at kept pairs (i + 1)))
      ∙ sym (ap (λ fields. ids ++ ids_of names fields) (chosen_at kept pairs i true d inside within keep)) ∙ so_far

  pub values_kept : (widths : Widths) → get_or kept i false ≡ true → values_coded names (left_at kept pairs i) widths ≡ coded names (view (get_or pairs i d).1) widths ∷ values_coded names (left_at kept pairs (i + 1)) widths
  unfolding values_coded
  values_kept widths keep = ap (λ fields. values_coded names fields widths) (chosen_at kept pairs i true d inside within keep)

pub left_out : (kept : List Bool) (pairs : List (List ℕ × Tree)) (i : ℕ) → i < length kept → i < length pairs → get_or kept i false ≡ false → left_at kept pairs (i + 1) ≡ left_at kept pairs i
left_out kept pairs i inside within keep = sym (chosen_at kept pairs i false ([], Null) inside within keep)

none_chosen : (kept : List Bool) → chosen kept no_fields ≡ no_fields
none_chosen [] = refl
none_chosen (keep ∷ kept) = refl

pub none_left : (kept : List Bool) (pairs : List (List ℕ × Tree)) (i : ℕ) → length pairs ≤ i → left_at kept pairs i ≡ no_fields
none_left kept pairs i past = ap (chosen (drop i kept)) (fields_end pairs i past) ∙ none_chosen (drop i kept)

pub member_short : (pairs : List (List ℕ × Tree)) (i bound : ℕ) (d : List ℕ × Tree) → i < length pairs → length (more_fields (fields_of (map seen pairs))) ≤ bound → length (text_of (view (get_or pairs i d).1)) ≤ bound
member_short [] i bound d inside h = absurd (omega (arith, inside))
member_short (first ∷ pairs) zero bound d inside h = value_within first.0 (view first.1) (fields_of (map seen pairs)) bound h
member_short (first ∷ pairs) (suc i) bound d inside h = member_short pairs i bound d (omega (arith, inside)) (fields_left_within first.0 (view first.1) (fields_of (map seen pairs)) bound h)

-- a number put at the end of a list, all of whose parts are known by equations
pub pushed : (more now before : List ℕ) (n m : ℕ) → more ≡ now ++ n ∷ [] → now ≡ before → n ≡ m → more ≡ before ++ m ∷ []
pushed more now before n m is same place = is ∙ (λ i. same i ++ place i ∷ [])
