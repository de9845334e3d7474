-- The node of the schema `variant`, and two rows: an absent one, and null.
use Rattle.std.specs.Prelude.{[], ◌∷◌, List, Some}
use Rattle.shred_schema.specs.declared.nodes.Slot.TheVariants.{Required}
use Rattle.shred_schema.specs.Groups.{Group, group, free}
use Rattle.shred_schema.specs.Recs.{rec, empty, RowRec, absent, present}

abbrev pub variant : Group
variant = group Required free

abbrev pub two_rows : List RowRec
two_rows = absent ∷ present (17 ∷ 0 ∷ 0 ∷ []) (rec (Some (0 ∷ [])) empty) ∷ []
