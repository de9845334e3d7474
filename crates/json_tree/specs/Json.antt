-- A JSON value (RFC 8259, section 3), apart from its spelling.
use Rattle.std.specs.Prelude.{ℕ, ◌+◌, max, List, [], ◌∷◌, Bool}
use Rattle.exact_num.specs.Decimal.{Decimal}

mutual
  pub data Json : Type 0 where
    null : Json
    boolean : Bool → Json
    -- an exact decimal in least scale
    number : Decimal → Json
    -- UTF-8 bytes
    text : List ℕ → Json
    array : Parts → Json
    object : Fields → Json

  -- the items of an array, in order
  pub data Parts : Type 0 where
    no_parts : Parts
    part : Json → Parts → Parts

  -- the members of an object, each a name and a value
  pub data Fields : Type 0 where
    no_fields : Fields
    field : List ℕ → Json → Fields → Fields

abbrev pub parts_of : List Json → Parts
parts_of [] = no_parts
parts_of (j ∷ js) = part j (parts_of js)

abbrev pub fields_of : List (List ℕ × Json) → Fields
fields_of [] = no_fields
fields_of (m ∷ ms) = field m.0 m.1 (fields_of ms)

-- the items of an array, as a list
abbrev pub items_of : Parts → List Json
items_of no_parts = []
items_of (part j ps) = j ∷ items_of ps

-- the names of an object, in the order of its members
abbrev pub names_of : Fields → List (List ℕ)
names_of no_fields = []
names_of (field name j fs) = name ∷ names_of fs

-- the values of an object, in the order of its members
abbrev pub values_of : Fields → List Json
values_of no_fields = []
values_of (field name j fs) = j ∷ values_of fs

-- how deep arrays and objects nest
abbrev mutual
  pub depth_of : Json → ℕ
  depth_of null = 0
  depth_of (boolean b) = 0
  depth_of (number d) = 0
  depth_of (text s) = 0
  depth_of (array ps) = parts_depth ps + 1
  depth_of (object fs) = fields_depth fs + 1

  pub parts_depth : Parts → ℕ
  parts_depth no_parts = 0
  parts_depth (part j ps) = max (depth_of j) (parts_depth ps)

  pub fields_depth : Fields → ℕ
  fields_depth no_fields = 0
  fields_depth (field name j fs) = max (depth_of j) (fields_depth fs)
