-- What the calls ask of the values here.
use Rattle.std.proofs.Common.{◌≡◌, ◌≤◌, pos, List, [], ◌∷◌, Some, arith, lit<}
use Rattle.std.specs.List.{All}
use Rattle.std.proofs.lemmas.List.Elements.{All-from_recursion}
use Rattle.exact_num.specs.Unscaled.{half}
use Rattle.vs_bytes.specs.declared.leaf_columns.Cell.TheVariants as cell
use Rattle.vs_bytes.specs.declared.leaf_columns.Entry.{Entry}
use Rattle.vs_bytes.specs.declared.leaf_columns.Leaf.{Leaf}
use Rattle.vs_bytes.specs.declared.leaf_columns.Phys.TheVariants as phys
use Rattle.vs_bytes.specs.declared.leaf_columns.PrimKind.TheVariants as prim
use Rattle.pages.specs.Entries.{IsEntry}
use Rattle.pages.specs.Written.{weights}

abbrev integers : Leaf
integers = record { rep = 0; def = 3; phys = phys.Int64; prim = prim.Int64 }

abbrev nine : Entry
nine = record { rep = 0; def = 3; value = Some (cell.Num (pos 9)) }

nine_is : IsEntry integers nine
unfolding half
nine_is = record { rep = omega arith; def = omega arith; value = lit< tt }

pub one_is : All (IsEntry integers) (nine ∷ [])
one_is = All-from_recursion (IsEntry integers) (nine ∷ []) (nine_is, tt)

pub one_light : (es : List Entry) → es ≡ nine ∷ [] → weights phys.Int64 es ≤ 1000000000
one_light es is = rw is (omega arith)
