-- Walks over the items of an array and over the members of an object.
use Rattle.std.proofs.Common.{◌≡◌, refl, sym, ap, subst, ℕ, zero, suc, ◌+◌, ◌<◌, ◌≤◌, List, [], ◌∷◌, map, drop, length, get_or, arith}
use Rattle.json_tree.specs.Json.{Json, array, object, Parts, no_parts, part, Fields, no_fields, field, parts_of, fields_of}
use Rattle.json_tree.specs.Text.{text_of, more_parts, more_fields}
use Rattle.json_tree.specs.View.{view, seen}
use Rattle.json_tree.specs.declared.types.Tree.{Tree}
use Rattle.variant_write.specs.Conditions.{HasNames, ElementsHaveNames, FieldsHaveNames}
use Rattle.variant_write.proofs.Limits.{elements_within, fields_within}

-- the next one, and the others
pub parts_next : (trees : List Tree) (i : ℕ) (tree : Tree) → i < length trees → tree ≡ get_or trees i tree → parts_of (map view (drop i trees)) ≡ part (view tree) (parts_of (map view (drop (i + 1) trees)))
parts_next [] i tree inside is = absurd (omega (arith, inside))
parts_next (first ∷ trees) zero tree inside is = ap (λ (t : Tree). part (view t) (parts_of (map view trees))) (sym is)
parts_next (first ∷ trees) (suc i) tree inside is =
    let place : suc i + 1 ≡ suc (i + 1) = omega arith in
    rw place (parts_next trees i tree (omega (arith, inside)) is)

pub parts_end : (trees : List Tree) (i : ℕ) → length trees ≤ i → parts_of (map view (drop i trees)) ≡ no_parts
parts_end [] zero past = refl
parts_end [] (suc i) past = refl
parts_end (first ∷ trees) zero past = absurd (omega (arith, past))
parts_end (first ∷ trees) (suc i) past = parts_end trees i (omega (arith, past))

pub fields_next : (pairs : List (List ℕ × Tree)) (i : ℕ) (pair : List ℕ × Tree) → i < length pairs → pair ≡ get_or pairs i pair → fields_of (map seen (drop i pairs)) ≡ field pair.0 (view pair.1) (fields_of (map seen (drop (i + 1) pairs)))
fields_next [] i pair inside is = absurd (omega (arith, inside))
fields_next (first ∷ pairs) zero pair inside is = ap (λ (p : List ℕ × Tree). field p.0 (view p.1) (fields_of (map seen pairs))) (sym is)
fields_next (first ∷ pairs) (suc i) pair inside is =
    let place : suc i + 1 ≡ suc (i + 1) = omega arith in
    rw place (fields_next pairs i pair (omega (arith, inside)) is)

pub fields_end : (pairs : List (List ℕ × Tree)) (i : ℕ) → length pairs ≤ i → fields_of (map seen (drop i pairs)) ≡ no_fields
fields_end [] zero past = refl
fields_end [] (suc i) past = refl
fields_end (first ∷ pairs) zero past = absurd (omega (arith, past))
fields_end (first ∷ pairs) (suc i) past = fields_end pairs i (omega (arith, past))

-- what holds of an array holds of its items, and what of an object of its members

pub array_names : (names : List (List ℕ)) (j : Json) (ps qs : Parts) → j ≡ array ps → ps ≡ qs → HasNames names j → ElementsHaveNames names qs
array_names names j ps qs is same h = subst (ElementsHaveNames names) same (subst (HasNames names) is h)

pub array_small : (bound : ℕ) (j : Json) (ps qs : Parts) → j ≡ array ps → ps ≡ qs → length (text_of j) ≤ bound → length (more_parts qs) ≤ bound
array_small bound j ps qs is same h =
    subst (λ (xs : Parts). length (more_parts xs) ≤ bound) same (elements_within ps bound (subst (λ (x : Json). length (text_of x) ≤ bound) is h))

pub object_names : (names : List (List ℕ)) (j : Json) (fs gs : Fields) → j ≡ object fs → fs ≡ gs → HasNames names j → FieldsHaveNames names gs
object_names names j fs gs is same h = subst (FieldsHaveNames names) same (subst (HasNames names) is h)

pub object_small : (bound : ℕ) (j : Json) (fs gs : Fields) → j ≡ object fs → fs ≡ gs → length (text_of j) ≤ bound → length (more_fields gs) ≤ bound
object_small bound j fs gs is same h =
    subst (λ (xs : Fields). length (more_fields xs) ≤ bound) same (fields_within fs bound (subst (λ (x : Json). length (text_of x) ≤ bound) is h))
