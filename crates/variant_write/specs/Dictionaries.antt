-- The dictionary of a JSON value.
use Rattle.std.specs.Prelude.{ℕ, if◌then◌else◌, List, [], ◌∷◌, ◌++◌}
use Rattle.json_tree.specs.Json.{Json, null, boolean, number, text, array, object, Parts, no_parts, part, Fields, no_fields, field}
use Rattle.variant_meta.specs.Names.{is_before}

-- the names of all objects in a value
abbrev mutual
  pub object_names : Json → List (List ℕ)
  object_names null = []
  object_names (boolean b) = []
  object_names (number d) = []
  object_names (text s) = []
  object_names (array elements) = elements_names elements
  object_names (object fields) = fields_names fields

  pub elements_names : Parts → List (List ℕ)
  elements_names no_parts = []
  elements_names (part j elements) = object_names j ++ elements_names elements

  pub fields_names : Fields → List (List ℕ)
  fields_names no_fields = []
  fields_names (field name j fields) = name ∷ (object_names j ++ fields_names fields)

-- a name among names in the order of their bytes, at its place if it isn't there yet
abbrev pub added : List ℕ → List (List ℕ) → List (List ℕ)
added name [] = name ∷ []
added name (other ∷ names) =
    if is_before name other then name ∷ (other ∷ names) else if is_before other name then other ∷ added name names else other ∷ names

-- names in the order of their bytes, each once
abbrev pub each_once : List (List ℕ) → List (List ℕ)
each_once [] = []
each_once (name ∷ names) = added name (each_once names)

-- the names of all objects in a value, in the order of their bytes, each once
unfoldable pub dictionary : Json → List (List ℕ)
dictionary json = each_once (object_names json)
