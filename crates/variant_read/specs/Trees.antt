-- Arrays and objects of JSON values, as lists of them.
use Rattle.std.specs.Prelude.{ℕ, List, [], ◌∷◌, if◌then◌else◌, Option, Some, None}
use Rattle.std.specs.Str.{bytes_eq}
use Rattle.json_tree.specs.Json.{Json, array, object, parts_of, fields_of}

abbrev pub array_of : List Json → Json
array_of elements = array (parts_of elements)

-- members: a name and a value each
abbrev pub object_of : List (List ℕ × Json) → Json
object_of members = object (fields_of members)

-- the value of the first member of that name
abbrev pub member_named : List ℕ → List (List ℕ × Json) → Option Json
member_named name [] = None
member_named name (member ∷ members) = if bytes_eq member.0 name then Some member.1 else member_named name members
