-- The matches of a path in a row.
use Rattle.std.specs.Prelude.{ℕ, List, [], ◌∷◌, Option, None, Some, slice_get}
use Rattle.std.specs.List.{flat_map}
use Rattle.json_tree.specs.Json.{Json, array, object, items_of}
use Rattle.json_tree.specs.Order.{member_of}
use Rattle.query_tree.specs.declared.step.Step.{Step}
use Rattle.query_tree.specs.declared.step.Step.TheVariants.{Field, Index, Star}

-- the named member of an object; any other value has none
abbrev pub member : List ℕ → Json → Option Json
member name (object fs) = member_of name fs
member name _ = None

-- the elements of an array; any other value has none
abbrev pub elements : Json → List Json
elements (array ps) = items_of ps
elements _ = []

-- the element at a place, counted from 0
abbrev pub element_at : ℕ → Json → Option Json
element_at n json = slice_get (elements json) n

abbrev pub list_of : Option Json → List Json
list_of None = []
list_of (Some json) = json ∷ []

-- the parts of a value that a step keeps: its member of that name, its element at that place, or all its
-- elements
abbrev pub parts_at : Step → Json → List Json
parts_at (Field name) json = list_of (member name json)
parts_at (Index n) json = list_of (element_at n json)
parts_at Star json = elements json

-- a path keeps the value itself, or the matches of its further steps in the parts that its first step keeps
abbrev pub matches : List Step → Json → List Json
matches [] json = json ∷ []
matches (step ∷ steps) json = flat_map (matches steps) (parts_at step json)

-- an absent row has no match
abbrev pub at : List Step → Option Json → List Json
at steps None = []
at steps (Some json) = matches steps json
