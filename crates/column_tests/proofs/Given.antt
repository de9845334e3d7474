-- What the calls ask of the values here.
use Rattle.std.proofs.Common.{◌≡◌, ℕ, zero, suc, ◌<◌, ◌^◌, pos, List, [], ◌∷◌, slice_index, replicate, All, arith, lit<}
use Rattle.std.proofs.lemmas.List.Elements.{All-from_recursion}
use Rattle.exact_num.specs.Unscaled.{half}
use Rattle.vs_bytes.specs.declared.leaf_columns.Cell.{Cell}
use Rattle.vs_bytes.specs.declared.leaf_columns.Cell.TheVariants as cell
use Rattle.vs_bytes.specs.declared.leaf_columns.Phys.TheVariants as phys
use Rattle.vs_bytes.specs.declared.leaf_columns.PrimKind.TheVariants as prim
use Rattle.plain_values.specs.Written.{IsCell}

-- no number of a list of ones has more than one bit
pub ones_fit : (n k : ℕ) → slice_index (replicate n 1) k < 2 ^ 1
ones_fit zero k = omega arith
ones_fit (suc n) zero = omega arith
ones_fit (suc n) (suc k) = ones_fit n k

pub two_fit : (cs : List Cell) → cs ≡ cell.Num (pos 5) ∷ (cell.Num (pos 258) ∷ []) → All (λ c. IsCell phys.Int32 prim.Int32 c) cs
unfolding half
two_fit cs is = rw is (All-from_recursion (λ c. IsCell phys.Int32 prim.Int32 c) (cell.Num (pos 5) ∷ (cell.Num (pos 258) ∷ [])) (lit< tt, (lit< tt, tt)))
