-- A list of elements and its trees.
use Rattle.std.proofs.Common.{◌≡◌, ◌∙◌, sym, ap, ap₂, refl, ℕ, zero, suc, List, [], ◌∷◌, ◌++◌, append_assoc, true, ◌≤◌, ◌+◌, arith}
use Rattle.std.proofs.lemmas.List.{append-nil}
use Rattle.schema_elements.specs.declared.elements.SchemaElement.{SchemaElement}
use Rattle.schema_elements.specs.SchemaTrees.{child_count, are_trees}
use Rattle.file_columns.specs.Forests.{Forest, no_trees, tree, flat, front, back, forest, tree_count, Tells}

flat_front : (n : ℕ) (f : Forest) → flat (front n f) ++ flat (back n f) ≡ flat f
flat_front zero f = refl
flat_front (suc n) no_trees = refl
flat_front (suc n) (tree e inside next) = ap (λ (es : List SchemaElement). e ∷ es) (append_assoc (flat inside) (flat (front n next)) (flat (back n next)) ∙ ap (λ (es : List SchemaElement). flat inside ++ es) (flat_front n next))

-- the trees of a list have its elements
pub flat_forest : (es : List SchemaElement) → flat (forest es) ≡ es
flat_forest [] = refl
flat_forest (e ∷ es) = ap (λ (xs : List SchemaElement). e ∷ xs) (flat_front (child_count e) (forest es) ∙ flat_forest es)

-- trees with others after them
abbrev pub behind : Forest → Forest → Forest
behind no_trees g = g
behind (tree e inside next) g = tree e inside (behind next g)

front_all : (f g : Forest) → front (tree_count f) (behind f g) ≡ f
front_all no_trees g = refl
front_all (tree e inside next) g = ap (tree e inside) (front_all next g)

back_all : (f g : Forest) → back (tree_count f) (behind f g) ≡ g
back_all no_trees g = refl
back_all (tree e inside next) g = back_all next g

forest_more : (f : Forest) (es : List SchemaElement) → Tells f → forest (flat f ++ es) ≡ behind f (forest es)
forest_more no_trees es h = refl
forest_more (tree e inside next) es h =
    let more : forest ((flat inside ++ flat next) ++ es) ≡ behind inside (behind next (forest es)) =
    ap forest (append_assoc (flat inside) (flat next) es) ∙ forest_more inside (flat next ++ es) h.1 ∙ ap (behind inside) (forest_more next es h.2) in
    ap (λ f. tree e (front (child_count e) f) (back (child_count e) f)) more
    ∙ ap₂ (tree e) (ap (λ n. front n (behind inside (behind next (forest es)))) (sym h.0) ∙ front_all inside (behind next (forest es)))
    (ap (λ n. back n (behind inside (behind next (forest es)))) (sym h.0) ∙ back_all inside (behind next (forest es)))

behind_none : (f : Forest) → behind f no_trees ≡ f
behind_none no_trees = refl
behind_none (tree e inside next) = ap (tree e inside) (behind_none next)

-- and the elements of trees are read as these trees
pub forest_flat : (f : Forest) → Tells f → forest (flat f) ≡ f
forest_flat f h = ap forest (sym (append-nil (flat f))) ∙ forest_more f [] h ∙ behind_none f

-- Lists that are one tree.

front_count : (k : ℕ) (f : Forest) → k ≤ tree_count f → tree_count (front k f) ≡ k
front_count zero f h = refl
front_count (suc k) no_trees h = absurd (omega arith)
front_count (suc k) (tree e inside next) h = ap suc (front_count k next (omega arith))

back_count : (k : ℕ) (f : Forest) → k ≤ tree_count f → tree_count (back k f) + k ≡ tree_count f
back_count zero f h = omega arith
back_count (suc k) no_trees h = absurd (omega arith)
back_count (suc k) (tree e inside next) h = omega (arith, back_count k next (omega arith))

front_tells : (k : ℕ) (f : Forest) → Tells f → Tells (front k f)
front_tells zero f h = tt
front_tells (suc k) no_trees h = tt
front_tells (suc k) (tree e inside next) h = (h.0, h.1, front_tells k next h.2)

back_tells : (k : ℕ) (f : Forest) → Tells f → Tells (back k f)
back_tells zero f h = h
back_tells (suc k) no_trees h = tt
back_tells (suc k) (tree e inside next) h = back_tells k next h.2

pub record AreTrees (n : ℕ) (f : Forest) : Type 0 where
  pub tell : Tells f
  pub count : tree_count f ≡ n

trees_are : (es : List SchemaElement) (n : ℕ) → are_trees n es ≡ true → AreTrees n (forest es)
unfolding are_trees
trees_are [] zero h = record { tell = tt; count = refl }
trees_are [] (suc n) h = absurd (cc)
trees_are (e ∷ es) zero h = absurd (cc)
trees_are (e ∷ es) (suc n) h =
    let all : AreTrees (child_count e + n) (forest es) = trees_are es (child_count e + n) h in
    let enough : child_count e ≤ tree_count (forest es) = omega (arith, all.count) in
    record {
      tell = (front_count (child_count e) (forest es) enough, front_tells (child_count e) (forest es) all.tell, back_tells (child_count e) (forest es) all.tell);
      count = omega (arith, all.count, back_count (child_count e) (forest es) enough);
    }

pub tree_tells : (es : List SchemaElement) → are_trees 1 es ≡ true → Tells (forest es)
tree_tells es h = (trees_are es 1 h).tell

pub tree_is_one : (es : List SchemaElement) → are_trees 1 es ≡ true → tree_count (forest es) ≡ 1
tree_is_one es h = (trees_are es 1 h).count

are_more : (f : Forest) (k : ℕ) (es : List SchemaElement) → Tells f → are_trees (tree_count f + k) (flat f ++ es) ≡ are_trees k es
unfolding are_trees
are_more no_trees k es h = let e : 0 + k ≡ k = omega arith in ap (λ n. are_trees n es) e
are_more (tree e inside next) k es h =
    let one : suc (tree_count next) + k ≡ suc (tree_count next + k) = omega arith in
    let count : child_count e + (tree_count next + k) ≡ tree_count inside + (tree_count next + k) = omega (arith, h.0) in
    ap (λ n. are_trees n (e ∷ ((flat inside ++ flat next) ++ es))) one
    ∙ ap (are_trees (child_count e + (tree_count next + k))) (append_assoc (flat inside) (flat next) es)
    ∙ ap (λ n. are_trees n (flat inside ++ (flat next ++ es))) count
    ∙ are_more inside (tree_count next + k) (flat next ++ es) h.1
    ∙ are_more next k es h.2

-- trees that tell are told by the test on their elements
pub one_is_told : (f : Forest) → Tells f → tree_count f ≡ 1 → are_trees 1 (flat f) ≡ true
unfolding are_trees
one_is_told f h one =
    let e : tree_count f + 0 ≡ 1 = omega arith in
    ap (λ n. are_trees n (flat f)) (sym e) ∙ ap (are_trees (tree_count f + 0)) (sym (append-nil (flat f))) ∙ are_more f 0 [] h
