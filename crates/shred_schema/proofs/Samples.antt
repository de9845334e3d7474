-- Definitions, computed on small values.
use Rattle.std.proofs.Common.{◌≡◌, refl, [], ◌∷◌, true, ◌==◌, pos, Some, None}
use Rattle.exact_num.specs.Decimal.{Decimal, shortened}
use Rattle.json_tree.specs.Json as json
use Rattle.vs_bytes.specs.declared.leaf_columns.Cell.TheVariants as cell
use Rattle.vs_bytes.specs.declared.leaf_columns.PrimKind.TheVariants as prim
use Rattle.shred_schema.specs.Fits.{fit, tree_of}
use Rattle.shred_schema.specs.Groups.{Group, group, scalar, object_of, list_of, no_groups, field}
use Rattle.shred_schema.specs.Leaves.{leaf, column_leaves}
use Rattle.shred_schema.specs.Projection.{projected}
use Rattle.shred_schema.specs.declared.nodes.Slot.TheVariants.{Absent, Optional}

-- an object of one field `t`, a list of texts
texts : Group
texts = group Optional (object_of (field (116 ∷ []) (group Optional (list_of (group Optional (scalar prim.Text)))) no_groups))

-- the metadata, the value, the value of t, and the value and the text of an element
texts_leaves : column_leaves true texts ≡ leaf prim.Raw 0 1 ∷ leaf prim.Raw 0 2 ∷ leaf prim.Raw 0 3 ∷ leaf prim.Raw 1 5 ∷ leaf prim.Text 1 5 ∷ []
unfolding texts
texts_leaves = refl

-- the texts alone are read: leaf 4
texts_projected : projected texts 1 (λ j. j == 4) ≡ group Absent (object_of (field (116 ∷ []) (group Absent (list_of (group Absent (scalar prim.Text)))) no_groups))
unfolding texts
texts_projected = refl

too_great : fit prim.Int8 (json.number (record { unscaled = pos 128; scale = 0 })) ≡ None
too_great = refl

-- 1.5 with two places is 150, and 150 with two places is 1.5
one_and_a_half : Decimal
one_and_a_half = record { unscaled = pos 15; scale = 1 }

fits_decimal : fit (prim.Decimal 9 2) (json.number one_and_a_half) ≡ Some (cell.Num (pos 150))
unfolding one_and_a_half
fits_decimal = refl

decimal_back : tree_of (prim.Decimal 9 2) (cell.Num (pos 150)) ≡ json.number one_and_a_half
unfolding one_and_a_half shortened
decimal_back = refl

-- a third place would have to be rounded away
not_rounded : fit (prim.Decimal 9 2) (json.number (record { unscaled = pos 1505; scale = 3 })) ≡ None
not_rounded = refl

fits_text : fit prim.Text (json.text (120 ∷ [])) ≡ Some (cell.Bytes (120 ∷ []))
fits_text = refl
