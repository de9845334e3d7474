-- The node of the schema `{t:[string]}`.
use Rattle.std.specs.Prelude.{[], ◌∷◌}
use Rattle.vs_bytes.specs.declared.leaf_columns.PrimKind.TheVariants as prim
use Rattle.shred_schema.specs.declared.nodes.Slot.TheVariants.{Optional}
use Rattle.shred_schema.specs.Groups.{Group, group, scalar, object_of, list_of, no_groups, field}

abbrev pub texts : Group
texts = group Optional (object_of (field (116 ∷ []) (group Optional (list_of (group Optional (scalar prim.Text)))) no_groups))
