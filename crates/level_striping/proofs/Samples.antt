-- The entries of some documents.
use Rattle.std.proofs.Common.{◌≡◌, refl, ℕ, pos, true, List, [], ◌∷◌, Some, None}
use Rattle.vs_bytes.specs.declared.leaf_columns.Cell.TheVariants as leaf_cell
use Rattle.vs_bytes.specs.declared.leaf_columns.Entry.{Entry}
use Rattle.vs_bytes.specs.declared.leaf_columns.PrimKind.TheVariants as prim
use Rattle.shred_schema.specs.declared.nodes.Slot.TheVariants.{Optional}
use Rattle.shred_schema.specs.Groups.{Group, group, scalar, object_of, list_of, no_groups, field}
use Rattle.shred_schema.specs.Recs.{Rec, rec, empty, cell, fields, items, no_recs, recs, RowRec, present}
use Rattle.level_striping.specs.Entries.{stripes}

-- `{"t":[]}`, `{"t":null}`, `{}` and `{"t":["x",1,null]}` in the column of the schema `{t:[string]}`

abbrev node : Group
node = group Optional (object_of (field (116 ∷ []) (group Optional (list_of (group Optional (scalar prim.Text)))) no_groups))

abbrev with_t : Rec → RowRec
with_t x = present (17 ∷ 1 ∷ 0 ∷ 1 ∷ 116 ∷ []) (rec None (fields (recs x no_recs)))

abbrev rows : List RowRec
rows =
    with_t (rec None (items no_recs))
    ∷ with_t (rec (Some (0 ∷ [])) empty)
    ∷ present (17 ∷ 0 ∷ 0 ∷ []) (rec None (fields (recs (rec None empty) no_recs)))
    ∷ with_t (rec None (items (recs (rec None (cell (leaf_cell.Bytes (120 ∷ [])))) (recs (rec (Some (12 ∷ 1 ∷ [])) empty) (recs (rec (Some (0 ∷ [])) empty) no_recs)))))
    ∷ []

abbrev null : ℕ → ℕ → Entry
null r d = record { rep = r; def = d; value = None }

abbrev bytes : ℕ → ℕ → List ℕ → Entry
bytes r d b = record { rep = r; def = d; value = Some (leaf_cell.Bytes b) }

metadata_leaf : stripes true node rows 0 ≡ bytes 0 1 (17 ∷ 1 ∷ 0 ∷ 1 ∷ 116 ∷ []) ∷ bytes 0 1 (17 ∷ 1 ∷ 0 ∷ 1 ∷ 116 ∷ []) ∷ bytes 0 1 (17 ∷ 0 ∷ 0 ∷ []) ∷ bytes 0 1 (17 ∷ 1 ∷ 0 ∷ 1 ∷ 116 ∷ []) ∷ []
metadata_leaf = refl

value_leaf : stripes true node rows 1 ≡ null 0 1 ∷ null 0 1 ∷ null 0 1 ∷ null 0 1 ∷ []
value_leaf = refl

t_value_leaf : stripes true node rows 2 ≡ null 0 2 ∷ bytes 0 3 (0 ∷ []) ∷ null 0 2 ∷ null 0 2 ∷ []
t_value_leaf = refl

element_value_leaf : stripes true node rows 3 ≡ null 0 3 ∷ null 0 2 ∷ null 0 2 ∷ null 0 4 ∷ bytes 1 5 (12 ∷ 1 ∷ []) ∷ bytes 1 5 (0 ∷ []) ∷ []
element_value_leaf = refl

element_typed_leaf : stripes true node rows 4 ≡ null 0 3 ∷ null 0 2 ∷ null 0 2 ∷ bytes 0 5 (120 ∷ []) ∷ null 1 4 ∷ null 1 4 ∷ []
element_typed_leaf = refl

-- `{"a":1,"z":2}` in the column of the schema `{a:int64}`

abbrev whole_number : Group
whole_number = group Optional (object_of (field (97 ∷ []) (group Optional (scalar prim.Int64)) no_groups))

abbrev partial : List RowRec
partial = present (17 ∷ 2 ∷ 0 ∷ 1 ∷ 2 ∷ 97 ∷ 122 ∷ []) (rec (Some (2 ∷ 1 ∷ 1 ∷ 0 ∷ 2 ∷ 12 ∷ 2 ∷ [])) (fields (recs (rec None (cell (leaf_cell.Num (pos 1)))) no_recs))) ∷ []

residual_leaf : stripes true whole_number partial 1 ≡ bytes 0 2 (2 ∷ 1 ∷ 1 ∷ 0 ∷ 2 ∷ 12 ∷ 2 ∷ []) ∷ []
residual_leaf = refl

a_value_leaf : stripes true whole_number partial 2 ≡ null 0 2 ∷ []
a_value_leaf = refl

a_typed_leaf : stripes true whole_number partial 3 ≡ record { rep = 0; def = 3; value = Some (leaf_cell.Num (pos 1)) } ∷ []
a_typed_leaf = refl
