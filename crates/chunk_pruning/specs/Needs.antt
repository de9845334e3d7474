-- Which leaf columns the answer of a query rests on. Where a row violates no rule, each path of the query has the same
-- matches in it whether all leaves are read or these alone.
use Rattle.std.specs.Prelude.{◌≡◌, ℕ, zero, suc, ◌+◌, ◌==◌, Bool, true, ◌||◌, if◌then◌else◌, List, [], ◌∷◌, ◌++◌, Option, None, Some, bytes_eq}
use Rattle.std.specs.List.{list_any}
use Rattle.query_tree.specs.Asked.{Asked}
use Rattle.query_tree.specs.Formula.{Formula, term, conjunction, disjunction, negation}
use Rattle.query_tree.specs.declared.step.Step.{Step}
use Rattle.query_tree.specs.declared.step.Step.TheVariants.{Field, Index, Star}
use Rattle.shred_schema.specs.declared.nodes.Slot.{Slot}
use Rattle.shred_schema.specs.Groups.{Group, group, Kind, object_of, list_of, Groups, no_groups, field, slot_width, width}
use Rattle.shred_schema.specs.Ranges.{is_among}

-- One path. A node's leaves begin at leaf k.

-- leaf j is that of the node's value
abbrev pub is_value : Slot → ℕ → ℕ → Bool
is_value s k j = is_among j k (slot_width s)

-- what `node` says of the field of a name, whose leaves are told with it; or `other`, where there is no such field
abbrev pub in_field : (Group → ℕ → Bool) → List ℕ → Bool → Groups → ℕ → Bool
in_field node name other no_groups k = other
in_field node name other (field m n gs) k = if bytes_eq m name then node n k else in_field node name other gs (k + width n)

-- A step needs what its further steps need inside, where the schema has the part that it keeps. A field of the schema
-- stands in the typed part alone; the elements of a list may stand in the value as well, and anything else does.
abbrev pub step_need : Step → Slot → Kind → (Group → ℕ → Bool) → ℕ → ℕ → Bool
step_need (Field name) s (object_of gs) inside k j = in_field inside name (is_value s k j) gs (k + slot_width s)
step_need (Index i) s (list_of n) inside k j = is_value s k j || inside n (k + slot_width s)
step_need Star s (list_of n) inside k j = is_value s k j || inside n (k + slot_width s)
step_need step s t inside k j = is_value s k j

-- whether a path needs leaf j; without a step it needs all leaves of the node
abbrev pub need : List Step → Group → ℕ → ℕ → Bool
need [] n k j = is_among j k (width n)
need (step ∷ steps) (group s t) k j = step_need step s t (λ n m. need steps n m j) k j

-- A query.

-- the paths of a filter
abbrev pub formula_paths : Formula → List (List Step)
formula_paths (term steps claim) = steps ∷ []
formula_paths (conjunction f g) = formula_paths f ++ formula_paths g
formula_paths (disjunction f g) = formula_paths f ++ formula_paths g
formula_paths (negation f) = formula_paths f

abbrev pub filter_paths : Option Formula → List (List Step)
filter_paths None = []
filter_paths (Some formula) = formula_paths formula

-- all paths of a query
abbrev pub paths_of : Asked → List (List Step)
paths_of asked = asked.paths ++ filter_paths asked.filter

-- whether one of the paths needs leaf j of a column with this node at its top
abbrev pub is_any_needed : List (List Step) → Group → ℕ → Bool
is_any_needed paths n j = list_any (λ steps. need steps n 1 j) paths

-- whether a query needs it. Leaf 0 is the metadata, by whose names a value is read: it is always needed
abbrev pub is_needed : Asked → Group → ℕ → Bool
is_needed asked n j = (j == 0) || is_any_needed (paths_of asked) n j

-- `count` leaves from leaf j on, each whether it passes
abbrev pub listed : (ℕ → Bool) → ℕ → ℕ → List Bool
listed p j zero = []
listed p j (suc count) = p j ∷ listed p (j + 1) count

-- the mask of the leaves that a query needs
unfoldable pub needs : Asked → Group → List Bool
needs asked n = listed (is_needed asked n) 0 (1 + width n)

-- a mask that reads each of these leaves
abbrev pub ReadsNeeded : Asked → Group → (ℕ → Bool) → Type 0
ReadsNeeded asked n mask = (j : ℕ) → is_needed asked n j ≡ true → mask j ≡ true
