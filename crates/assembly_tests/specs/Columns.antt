-- The nodes of the columns whose rows are put together.
use Rattle.std.specs.Prelude.{ℕ, List, [], ◌∷◌}
use Rattle.vs_bytes.specs.declared.leaf_columns.PrimKind.TheVariants as prim
use Rattle.shred_schema.specs.declared.nodes.Slot.TheVariants.{Optional, Required}
use Rattle.shred_schema.specs.Groups.{Group, group, free, scalar, object_of, list_of, no_groups, field}

-- an object of one field
abbrev pub one_field : List ℕ → Group → Group
one_field name n = group Optional (object_of (field name n no_groups))

-- of the schema `{t:[string]}`
abbrev pub texts : Group
texts = one_field (116 ∷ []) (group Optional (list_of (group Optional (scalar prim.Text))))

-- of the schema `{a:int64}`
abbrev pub numbers : Group
numbers = one_field (97 ∷ []) (group Optional (scalar prim.Int64))

-- without a typed part
abbrev pub plain : Group
plain = group Required free
