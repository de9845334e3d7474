-- What a path finds step by step, and in lists that it can't tell apart.
use Rattle.std.proofs.Common.{◌≡◌, ◌∙◌, refl, sym, ap, ap₂, ℕ, zero, suc, List, [], ◌∷◌, ◌++◌, Option, None, Some}
use Rattle.std.specs.Prelude.{slice_get}
use Rattle.std.specs.List.{AllByRecursion, flat_map}
use Rattle.std.proofs.lemmas.List.{append-nil}
use Rattle.json_tree.specs.Json.{Json, null, array, parts_of}
use Rattle.query_tree.specs.declared.step.Step.{Step}
use Rattle.query_tree.specs.declared.step.Step.TheVariants.{Field, Index, Star}
use Rattle.path_query.specs.Matches.{member, list_of, parts_at, matches, at}
use Rattle.unshredder.proofs.Members.{items_back}

-- the parts that a step keeps of a value that may be missing
abbrev pub parts_in : Step → Option Json → List Json
parts_in step None = []
parts_in step (Some j) = parts_at step j

-- the member of that name of a value that may be missing
abbrev pub member_in : List ℕ → Option Json → Option Json
member_in name None = None
member_in name (Some j) = member name j

-- a path finds in the parts of its first step what its further steps find in them
pub at_parts : (step : Step) (steps : List Step) (o : Option Json) → at (step ∷ steps) o ≡ flat_map (matches steps) (parts_in step o)
at_parts step steps None = refl
at_parts step steps (Some j) = refl

pub at_same : (step : Step) (steps : List Step) (o p : Option Json) → parts_in step o ≡ parts_in step p → at (step ∷ steps) o ≡ at (step ∷ steps) p
at_same step steps o p e = at_parts step steps o ∙ ap (flat_map (matches steps)) e ∙ sym (at_parts step steps p)

-- of one part, or none
one_part : (steps : List Step) (o : Option Json) → flat_map (matches steps) (list_of o) ≡ at steps o
one_part steps None = refl
one_part steps (Some j) = append-nil (matches steps j)

pub at_member : (name : List ℕ) (steps : List Step) (o : Option Json) → at (Field name ∷ steps) o ≡ at steps (member_in name o)
at_member name steps None = refl
at_member name steps (Some j) = one_part steps (member name j)

-- where a path finds nothing, it finds nothing in null, which has no parts
pub null_matches : (steps : List Step) (j : Json) → [] ≡ matches steps j → matches steps null ≡ matches steps j
null_matches [] j h = absurd cc
null_matches (Field name ∷ steps) j h = h
null_matches (Index i ∷ steps) j h = h
null_matches (Star ∷ steps) j h = h

-- The elements of lists.

-- the path finds the same in each two elements of one place
abbrev pub AreAlike : List Step → List Json → List Json → Type 0
AreAlike steps [] [] = Unit {0}
AreAlike steps (i ∷ is) (j ∷ js) = (matches steps i ≡ matches steps j) × AreAlike steps is js
AreAlike steps is js = ⊥

all_alike : (steps : List Step) (is js : List Json) → AreAlike steps is js → flat_map (matches steps) is ≡ flat_map (matches steps) js
all_alike steps [] [] h = refl
all_alike steps [] (j ∷ js) h = absurd h
all_alike steps (i ∷ is) [] h = absurd h
all_alike steps (i ∷ is) (j ∷ js) h = ap₂ (λ xs ys. xs ++ ys) h.0 (all_alike steps is js h.1)

one_alike : (steps : List Step) (is js : List Json) (n : ℕ) → AreAlike steps is js → at steps (slice_get is n) ≡ at steps (slice_get js n)
one_alike steps [] [] n h = refl
one_alike steps [] (j ∷ js) n h = absurd h
one_alike steps (i ∷ is) [] n h = absurd h
one_alike steps (i ∷ is) (j ∷ js) zero h = h.0
one_alike steps (i ∷ is) (j ∷ js) (suc n) h = one_alike steps is js n h.1

-- the path finds nothing in any element
abbrev pub AreBare : List Step → List Json → Type 0
AreBare steps = AllByRecursion (λ j. [] ≡ matches steps j)

all_bare : (steps : List Step) (js : List Json) → AreBare steps js → [] ≡ flat_map (matches steps) js
all_bare steps [] h = refl
all_bare steps (j ∷ js) h = ap₂ (λ xs ys. xs ++ ys) h.0 (all_bare steps js h.1)

one_bare : (steps : List Step) (js : List Json) (n : ℕ) → AreBare steps js → [] ≡ at steps (slice_get js n)
one_bare steps [] n h = refl
one_bare steps (j ∷ js) zero h = h.0
one_bare steps (j ∷ js) (suc n) h = one_bare steps js n h.1

-- Steps into the elements of a list.
abbrev pub IsInto : Step → Type 0
IsInto (Field name) = ⊥
IsInto (Index n) = Unit {0}
IsInto Star = Unit {0}

pub arrays_alike : (step : Step) (steps : List Step) (is js : List Json) → IsInto step → AreAlike steps is js
    → matches (step ∷ steps) (array (parts_of is)) ≡ matches (step ∷ steps) (array (parts_of js))
arrays_alike (Field name) steps is js into h = absurd into
arrays_alike (Index n) steps is js into h =
    rw (items_back is, items_back js) (one_part steps (slice_get is n) ∙ one_alike steps is js n h ∙ sym (one_part steps (slice_get js n)))
arrays_alike Star steps is js into h = rw (items_back is, items_back js) (all_alike steps is js h)

pub array_bare : (step : Step) (steps : List Step) (js : List Json) → IsInto step → AreBare steps js → [] ≡ matches (step ∷ steps) (array (parts_of js))
array_bare (Field name) steps js into h = absurd into
array_bare (Index n) steps js into h = rw (items_back js) (one_bare steps js n h ∙ sym (one_part steps (slice_get js n)))
array_bare Star steps js into h = rw (items_back js) (all_bare steps js h)
