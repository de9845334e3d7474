-- Elements one after the other.
use Rattle.std.proofs.Common.{◌≡◌, refl, ℕ, zero, suc, ◌+◌, ◌-◌, ◌<◌, ◌≤◌, ◌==◌, List, [], ◌∷◌, false, drop, get_or, length, drop-cons, arith}
use Rattle.std.proofs.lemmas.Bool.Decides.{nat_tests}
use Rattle.std.proofs.lemmas.List.{drop_all}
use Rattle.schema_elements.specs.SchemaTrees.{child_count, own_leaf, are_trees, leaf_count}
use Rattle.schema_elements.specs.declared.elements.SchemaElement.{SchemaElement}

trees_turn : (n : ℕ) (e : SchemaElement) (es : List SchemaElement) → 0 < n → are_trees (child_count e + (n - 1)) es ≡ are_trees n (e ∷ es)
unfolding are_trees
trees_turn zero e es h = absurd (omega (arith, h))
trees_turn (suc n) e es h = (let k : suc n - 1 ≡ n = omega arith in rw k refl)

pub one_more : (n i : ℕ) (es : List SchemaElement) (d : SchemaElement) → i < length es → 0 < n → are_trees (child_count (get_or es i d) + (n - 1)) (drop (i + 1) es) ≡ are_trees n (drop i es)
one_more n i es d h p =
    let k : suc i ≡ i + 1 = omega arith in
    rw (drop-cons es i d h, k) (trees_turn n (get_or es i d) (drop (i + 1) es) p)

pub too_many : (i : ℕ) (es : List SchemaElement) (d : SchemaElement) → i < length es → false ≡ are_trees 0 (drop i es)
unfolding are_trees
too_many i es d h = rw (drop-cons es i d h) refl

none_left : (n : ℕ) → (n == 0) ≡ are_trees n []
unfolding are_trees
none_left zero = refl
none_left (suc n) = (let none : (suc n == 0) ≡ false = grind (arith, nat_tests) in rw none refl)

pub at_end : (n i : ℕ) (es : List SchemaElement) → length es ≤ i → (n == 0) ≡ are_trees n (drop i es)
at_end n i es h = rw (drop_all i es h) (none_left n)

leaf_turn : (e : SchemaElement) (es : List SchemaElement) → own_leaf e + leaf_count es ≡ leaf_count (e ∷ es)
unfolding leaf_count
leaf_turn e es = refl

pub leaf_more : (i : ℕ) (es : List SchemaElement) (d : SchemaElement) → i < length es → own_leaf (get_or es i d) + leaf_count (drop (i + 1) es) ≡ leaf_count (drop i es)
leaf_more i es d h =
    let k : suc i ≡ i + 1 = omega arith in
    rw (drop-cons es i d h, k) (leaf_turn (get_or es i d) (drop (i + 1) es))

pub no_leaves : (i : ℕ) (es : List SchemaElement) → length es ≤ i → leaf_count (drop i es) ≡ 0
unfolding leaf_count
no_leaves i es h = rw (drop_all i es h) refl
