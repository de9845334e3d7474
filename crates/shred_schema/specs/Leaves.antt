-- The leaf columns of a column, in the order of the file: the metadata, then depth first each node's value and the
-- leaves of its typed part.
use Rattle.std.specs.Prelude.{ℕ, ◌+◌, List, [], ◌∷◌, ◌++◌, Bool, cond}
use Rattle.vs_bytes.specs.declared.leaf_columns.Leaf.{Leaf}
use Rattle.vs_bytes.specs.declared.leaf_columns.PrimKind.{PrimKind}
use Rattle.vs_bytes.specs.declared.leaf_columns.PrimKind.TheVariants as prim
use Rattle.shred_schema.specs.Groups.{Group, group, Kind, free, scalar, object_of, list_of, Groups, no_groups, field}
use Rattle.shred_schema.specs.Kinds.{type_written}
use Rattle.shred_schema.specs.declared.nodes.Slot.{Slot}
use Rattle.shred_schema.specs.declared.nodes.Slot.TheVariants.{Absent, Required, Optional}

-- A maximum definition level counts the optional and repeated elements from the root to the leaf, the leaf included; a
-- maximum repetition level counts the repeated ones.

abbrev pub leaf : PrimKind → ℕ → ℕ → Leaf
leaf q r d = record { rep = r; def = d; phys = type_written q; prim = q }

abbrev pub value_leaves : Slot → ℕ → ℕ → List Leaf
value_leaves Absent r d = []
value_leaves Required r d = leaf prim.Raw r d ∷ []
value_leaves Optional r d = leaf prim.Raw r (d + 1) ∷ []

-- the leaves of a node inside `r` repeated elements and `d` optional or repeated ones. A typed part is optional. A
-- list repeats its elements inside it
abbrev mutual
  pub leaves_of : Group → ℕ → ℕ → List Leaf
  leaves_of (group s t) r d = value_leaves s r d ++ kind_leaves t r d

  pub kind_leaves : Kind → ℕ → ℕ → List Leaf
  kind_leaves free r d = []
  kind_leaves (scalar q) r d = leaf q r (d + 1) ∷ []
  kind_leaves (object_of gs) r d = groups_leaves gs r (d + 1)
  kind_leaves (list_of n) r d = leaves_of n (r + 1) (d + 2)

  pub groups_leaves : Groups → ℕ → ℕ → List Leaf
  groups_leaves no_groups r d = []
  groups_leaves (field name n gs) r d = leaves_of n r d ++ groups_leaves gs r d

-- an optional column adds a definition level
abbrev pub top_level : Bool → ℕ
top_level optional = cond optional 1 0

abbrev pub column_leaves : Bool → Group → List Leaf
column_leaves optional n = leaf prim.Raw 0 (top_level optional) ∷ leaves_of n 0 (top_level optional)
