-- Some members of an object.
use Rattle.std.specs.Prelude.{Bool, true, false, List, [], ◌∷◌}
use Rattle.json_tree.specs.Json.{Fields, no_fields, field}

-- the members at the places where `kept` says so, in their order
abbrev pub chosen : List Bool → Fields → Fields
chosen [] rest = no_fields
chosen (keep ∷ kept) no_fields = no_fields
chosen (true ∷ kept) (field name j fields) = field name j (chosen kept fields)
chosen (false ∷ kept) (field name j fields) = chosen kept fields
