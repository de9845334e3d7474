-- The record of a value (VariantShredding.md, "Value Shredding"). What fits a node's typed part stands there, and what
-- doesn't stands in its value, written by `code`.
use Rattle.std.specs.Prelude.{ℕ, Bool, not, List, [], ◌∷◌, Option, Some, None}
use Rattle.std.specs.List.{list_any}
use Rattle.std.specs.Str.{bytes_eq}
use Rattle.json_tree.specs.Json.{Json, Parts, no_parts, part, Fields, no_fields}
use Rattle.json_tree.specs.Json as json
use Rattle.json_tree.specs.Order.{member_of}
use Rattle.vs_bytes.specs.declared.leaf_columns.Cell.{Cell}
use Rattle.variant_meta.specs.Written.{coded_names}
use Rattle.variant_write.specs.Chosen.{chosen}
use Rattle.variant_write.specs.Coded.{coded}
use Rattle.variant_write.specs.Dictionaries.{dictionary}
use Rattle.variant_write.specs.declared.widths.Widths.{Widths}
use Rattle.shred_schema.specs.Fits.{fit}
use Rattle.shred_schema.specs.Groups.{Group, group, Kind, scalar, object_of, list_of, Groups, no_groups, field, field_names}
use Rattle.shred_schema.specs.Recs.{Rec, rec, empty, cell, fields, items, Recs, no_recs, recs, RowRec, absent, present}

-- a value as Variant bytes, by the names of a dictionary
abbrev pub by_names : List (List ℕ) → Widths → Json → List ℕ
by_names names widths j = coded names j widths

-- a value that stands in `value`, whole
abbrev pub whole_left : (Json → List ℕ) → Json → Rec
whole_left code j = rec (Some (code j)) empty

abbrev pub cell_or_left : (Json → List ℕ) → Json → Option Cell → Rec
cell_or_left code j (Some c) = rec None (cell c)
cell_or_left code j None = whole_left code j

-- the record of a field, where `node` gives that of a value. A field that isn't there has neither part
abbrev pub field_record : (Json → Rec) → Option Json → Rec
field_record node (Some j) = node j
field_record node None = rec None empty

-- some field has the name
abbrev pub is_named : Groups → List ℕ → Bool
is_named gs name = list_any (λ other. bytes_eq other name) (field_names gs)

-- of each member, whether no field has its name
abbrev pub unnamed : Groups → Fields → List Bool
unnamed gs no_fields = []
unnamed gs (json.field name j members) = not (is_named gs name) ∷ unnamed gs members

-- the members that no field names
abbrev pub others : Groups → Fields → Fields
others gs members = chosen (unnamed gs members) members

-- they stand in `value` as an object, if there are any
abbrev pub members_left : (Json → List ℕ) → Fields → Option (List ℕ)
members_left code no_fields = None
members_left code members = Some (code (json.object members))

abbrev pub items_shredded : (Json → Rec) → Parts → Recs
items_shredded node no_parts = no_recs
items_shredded node (part j js) = recs (node j) (items_shredded node js)

abbrev mutual
  pub shredded : (Json → List ℕ) → Group → Json → Rec
  shredded code (group s t) j = kind_shredded code t j

  pub kind_shredded : (Json → List ℕ) → Kind → Json → Rec
  kind_shredded code (scalar q) j = cell_or_left code j (fit q j)
  kind_shredded code (list_of n) (json.array js) = rec None (items (items_shredded (shredded code n) js))
  kind_shredded code (object_of gs) (json.object members) =
      rec (members_left code (others gs members)) (fields (fields_shredded code gs members))
  kind_shredded code t j = whole_left code j

  -- a record for each field
  pub fields_shredded : (Json → List ℕ) → Groups → Fields → Recs
  fields_shredded code no_groups members = no_recs
  fields_shredded code (field name n gs) members =
      recs (field_record (shredded code n) (member_of name members)) (fields_shredded code gs members)

-- the row record of a row. Its metadata has the names of the value
abbrev pub shred_row : Group → Option Json → Widths → RowRec
shred_row n None widths = absent
shred_row n (Some j) widths =
    present (coded_names widths.offset (dictionary j)) (shredded (by_names (dictionary j) widths) n j)
