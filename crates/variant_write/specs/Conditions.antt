-- What the writers ask of a JSON value, a dictionary and the widths.
use Rattle.std.specs.Prelude.{◌≡◌, ℕ, ◌^◌, ◌≤◌, ◌<◌, List, [], ◌∷◌, length}
use Rattle.json_tree.specs.Json.{Json, null, boolean, number, text, array, object, Parts, no_parts, part, Fields, no_fields, field}
use Rattle.variant_meta.specs.Names.{place_of}
use Rattle.variant_write.specs.declared.widths.Widths.{Widths}

-- the longest canonical text of a value that is written: 16 MiB
abbrev pub max_text_len : ℕ
max_text_len = 2 ^ 24

-- the greatest width of a number
abbrev pub max_width : ℕ
max_width = 4

-- widths of 1 to 4 bytes
pub record IsWidths (widths : Widths) : Type 0 where
  pub offset_least : 1 ≤ widths.offset
  pub offset_most : widths.offset ≤ max_width
  pub id_least : 1 ≤ widths.id
  pub id_most : widths.id ≤ max_width

-- ends that rise weakly, from `low` on, up to `high`
abbrev pub RiseTo : ℕ → List ℕ → ℕ → Type 0
RiseTo low [] high = low ≡ high
RiseTo low (end ∷ ends) high = (low ≤ end) × RiseTo end ends high

-- the dictionary has the name
abbrev pub HasName : List (List ℕ) → List ℕ → Type 0
HasName names name = place_of names name < length names

-- the dictionary has each name of each object in a value
abbrev mutual
  pub HasNames : List (List ℕ) → Json → Type 0
  HasNames names null = Unit {0}
  HasNames names (boolean b) = Unit {0}
  HasNames names (number d) = Unit {0}
  HasNames names (text s) = Unit {0}
  HasNames names (array elements) = ElementsHaveNames names elements
  HasNames names (object fields) = FieldsHaveNames names fields

  pub ElementsHaveNames : List (List ℕ) → Parts → Type 0
  ElementsHaveNames names no_parts = Unit {0}
  ElementsHaveNames names (part j elements) = HasNames names j × ElementsHaveNames names elements

  pub FieldsHaveNames : List (List ℕ) → Fields → Type 0
  FieldsHaveNames names no_fields = Unit {0}
  FieldsHaveNames names (field name j fields) = HasName names name × HasNames names j × FieldsHaveNames names fields
