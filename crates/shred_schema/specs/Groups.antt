-- The nodes of a column as plain data, with their sizes.
use Rattle.std.specs.Prelude.{ℕ, ◌+◌, max, List, [], ◌∷◌}
use Rattle.vs_bytes.specs.declared.leaf_columns.PrimKind.{PrimKind}
use Rattle.shred_schema.specs.declared.nodes.Slot.{Slot}
use Rattle.shred_schema.specs.declared.nodes.Slot.TheVariants.{Absent, Required, Optional}

mutual
  -- a node: its value and what its typed part is
  pub data Group : Type 0 where
    group : Slot → Kind → Group

  pub data Kind : Type 0 where
    -- there is no typed part
    free : Kind
    scalar : PrimKind → Kind
    object_of : Groups → Kind
    list_of : Group → Kind

  -- the fields of an object, each a name and a node
  pub data Groups : Type 0 where
    no_groups : Groups
    field : List ℕ → Group → Groups → Groups

abbrev pub groups_from : List (List ℕ × Group) → Groups
groups_from [] = no_groups
groups_from (f ∷ fs) = field f.0 f.1 (groups_from fs)

abbrev pub field_names : Groups → List (List ℕ)
field_names no_groups = []
field_names (field name n gs) = name ∷ field_names gs

-- how many leaf columns there are

abbrev pub slot_width : Slot → ℕ
slot_width Absent = 0
slot_width Required = 1
slot_width Optional = 1

abbrev mutual
  pub width : Group → ℕ
  width (group s t) = slot_width s + kind_width t

  pub kind_width : Kind → ℕ
  kind_width free = 0
  kind_width (scalar q) = 1
  kind_width (object_of gs) = groups_width gs
  kind_width (list_of n) = width n

  pub groups_width : Groups → ℕ
  groups_width no_groups = 0
  groups_width (field name n gs) = width n + groups_width gs

-- how many objects and lists stand in one another at most
abbrev mutual
  pub nesting : Group → ℕ
  nesting (group s t) = kind_nesting t

  pub kind_nesting : Kind → ℕ
  kind_nesting free = 0
  kind_nesting (scalar q) = 0
  kind_nesting (object_of gs) = groups_nesting gs + 1
  kind_nesting (list_of n) = nesting n + 1

  pub groups_nesting : Groups → ℕ
  groups_nesting no_groups = 0
  groups_nesting (field name n gs) = max (nesting n) (groups_nesting gs)

-- how many nodes stand in one another at most, the first included. A node adds 2 to a definition level at most
abbrev mutual
  pub height : Group → ℕ
  height (group s t) = kind_height t + 1

  pub kind_height : Kind → ℕ
  kind_height free = 0
  kind_height (scalar q) = 0
  kind_height (object_of gs) = groups_height gs
  kind_height (list_of n) = height n

  pub groups_height : Groups → ℕ
  groups_height no_groups = 0
  groups_height (field name n gs) = max (height n) (groups_height gs)
