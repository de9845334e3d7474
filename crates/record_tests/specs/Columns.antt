-- The column of the schema `{a:int64,l:[int8]}`.
use Rattle.std.specs.Prelude.{[], ◌∷◌}
use Rattle.vs_bytes.specs.declared.leaf_columns.PrimKind.TheVariants as prim
use Rattle.shred_schema.specs.declared.nodes.Slot.TheVariants.{Optional}
use Rattle.shred_schema.specs.Groups.{Group, group, scalar, object_of, list_of, no_groups, field}

abbrev pub number : Group
number = group Optional (scalar prim.Int64)

abbrev pub element : Group
element = group Optional (scalar prim.Int8)

abbrev pub numbers : Group
numbers = group Optional (list_of element)

abbrev pub top : Group
top = group Optional (object_of (field (97 ∷ []) number (field (108 ∷ []) numbers no_groups)))
