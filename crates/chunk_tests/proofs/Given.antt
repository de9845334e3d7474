-- What the calls ask of the entries here.
use Rattle.std.proofs.Common.{◌≡◌, ◌≤◌, pos, List, [], ◌∷◌, Some, All, lit<, lit≤}
use Rattle.std.proofs.lemmas.List.Elements.{All-from_recursion}
use Rattle.exact_num.specs.Unscaled.{half, unsigned_number}
use Rattle.vs_bytes.specs.declared.leaf_columns.Cell.TheVariants as cell
use Rattle.vs_bytes.specs.declared.leaf_columns.Entry.{Entry}
use Rattle.vs_bytes.specs.declared.leaf_columns.Leaf.{Leaf}
use Rattle.vs_bytes.specs.declared.leaf_columns.Phys.TheVariants as phys
use Rattle.vs_bytes.specs.declared.leaf_columns.PrimKind.TheVariants as prim
use Rattle.pages.specs.Bodies.{entry}
use Rattle.pages.specs.Entries.{IsEntry}
use Rattle.pages.specs.Written.{weights}

abbrev integers : Leaf
integers = record { rep = 0; def = 3; phys = phys.Int64; prim = prim.Int64 }

abbrev nine : Entry
nine = entry 0 3 (Some (cell.Num (pos 9)))

nine_is : IsEntry integers nine
unfolding half
nine_is = record { rep = lit≤ tt; def = lit≤ tt; value = lit< tt }

pub one_is : (es : List Entry) → es ≡ nine ∷ [] → All (IsEntry integers) es
one_is es is = rw is (All-from_recursion (IsEntry integers) (nine ∷ []) (nine_is, tt))

pub one_light : (es : List Entry) → es ≡ nine ∷ [] → weights phys.Int64 es ≤ 1000000000
unfolding unsigned_number
one_light es is = rw is (lit≤ tt)

pub three_are : (es : List Entry) → es ≡ nine ∷ nine ∷ nine ∷ [] → All (IsEntry integers) es
three_are es is = rw is (All-from_recursion (IsEntry integers) (nine ∷ nine ∷ nine ∷ []) (nine_is, (nine_is, (nine_is, tt))))

pub three_light : (es : List Entry) → es ≡ nine ∷ nine ∷ nine ∷ [] → weights phys.Int64 es ≤ 1000000000
unfolding unsigned_number
three_light es is = rw is (lit≤ tt)
