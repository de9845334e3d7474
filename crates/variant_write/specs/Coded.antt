-- The bytes of a JSON value, by the names of a dictionary, with numbers of at least the asked widths.
use Rattle.std.specs.Prelude.{ℕ, max, true, false, if◌then◌else◌, List, [], ◌∷◌, map}
use Rattle.json_tree.specs.Json.{Json, null, boolean, number, text, array, object, Parts, no_parts, part, Fields, no_fields, field, names_of}
use Rattle.vs_bytes.specs.Numbers.{width_of}
use Rattle.variant_meta.specs.Names.{place_of}
use Rattle.variant_meta.specs.TypeIds.{null_id, true_id, false_id}
use Rattle.variant_write.specs.Layout.{composed}
use Rattle.variant_write.specs.Primitives.{primitive_head, decimal_coded, text_coded}
use Rattle.variant_write.specs.declared.widths.Widths.{Widths}

-- the ids of an object's fields: the places of their names in the dictionary
abbrev pub ids_of : List (List ℕ) → Fields → List ℕ
ids_of names fields = map (place_of names) (names_of fields)

abbrev pub greatest : List ℕ → ℕ
greatest [] = 0
greatest (n ∷ ns) = max n (greatest ns)

-- the size of an object's ids: at least `least`, and as many bytes as its greatest id needs
unfoldable pub id_size : ℕ → List ℕ → ℕ
id_size least ids = max least (width_of (greatest ids))

-- the bytes of a value
unfoldable mutual
  pub coded : List (List ℕ) → Json → Widths → List ℕ
  coded names null widths = primitive_head null_id ∷ []
  coded names (boolean b) widths = (if b then primitive_head true_id else primitive_head false_id) ∷ []
  coded names (number d) widths = decimal_coded d
  coded names (text s) widths = text_coded s
  coded names (array elements) widths = composed false widths.offset 0 [] (elements_coded names elements widths)
  coded names (object fields) widths =
      composed true widths.offset (id_size widths.id (ids_of names fields)) (ids_of names fields) (values_coded names fields widths)

  -- the bytes of each element
  pub elements_coded : List (List ℕ) → Parts → Widths → List (List ℕ)
  elements_coded names no_parts widths = []
  elements_coded names (part j elements) widths = coded names j widths ∷ elements_coded names elements widths

  -- the bytes of each field's value
  pub values_coded : List (List ℕ) → Fields → Widths → List (List ℕ)
  values_coded names no_fields widths = []
  values_coded names (field name j fields) widths = coded names j widths ∷ values_coded names fields widths
