-- What entries of a leaf weigh, beside the texts of their rows; and levels.
use Rattle.std.proofs.Common.{◌≡◌, refl, sym, subst, ℕ, zero, suc, ◌+◌, ◌*◌, ◌^◌, ◌<◌, ◌≤◌, ◌==◌, nat_le, cond, Bool, true, false, IsUtf8, List, [], ◌∷◌, ◌++◌, length, get_or, Option, Some, None, arith}
use Rattle.std.specs.List.{All, AllByRecursion}
use Rattle.std.proofs.lemmas.List.Elements.{recursion_from_All}
use Rattle.std.proofs.lemmas.List.Sums.{sum_by-cons}
use Rattle.vs_bytes.specs.declared.leaf_columns.Cell.{Cell}
use Rattle.vs_bytes.specs.declared.leaf_columns.Cell.TheVariants as cell
use Rattle.vs_bytes.specs.declared.leaf_columns.Entry.{Entry}
use Rattle.vs_bytes.specs.declared.leaf_columns.Leaf.{Leaf}
use Rattle.vs_bytes.specs.declared.leaf_columns.Phys.TheVariants as phys
use Rattle.vs_bytes.specs.declared.leaf_columns.PrimKind.{PrimKind}
use Rattle.vs_bytes.specs.declared.leaf_columns.PrimKind.TheVariants as prim
use Rattle.exact_num.specs.Unscaled.{FitsBytes, little_integer_bytes}
use Rattle.plain_values.specs.Written.{HoldsTruth, HoldsNumber, HoldsBytes, IsShort, IsFixed, IsCell, number_written, decimal_written, array_written}
use Rattle.pages.specs.Entries.{HasDue, IsEntry}
use Rattle.pages.specs.Written as pages
use Rattle.pages.specs.Written.{weight, weights}
use Rattle.chunks.proofs.Weights.{integer_len, fixed_len, bytes_len}
use Rattle.shred_schema.specs.declared.nodes.Slot.{Slot}
use Rattle.shred_schema.specs.declared.nodes.Slot.TheVariants.{Absent, Required, Optional}
use Rattle.shred_schema.specs.Groups.{Group, group, Kind, free, scalar, object_of, list_of, Groups, no_groups, field, height, kind_height, groups_height}
use Rattle.shred_schema.specs.Kinds.{type_written, decimal_type}
use Rattle.shred_schema.specs.Lawful.{IsWellFormed}
use Rattle.shred_schema.specs.Leaves.{leaf, value_leaves, leaves_of, kind_leaves, groups_leaves, top_level, column_leaves}
use Rattle.shred_schema.proofs.NodeFacts.{height_most}
use Rattle.level_striping.specs.Sizes.{cell_weight, value_weight, weight_sum}

-- ---- what holds of each leaf of a column

all_both : {A : Type 0} (P : A → Type 0) (xs ys : List A) → AllByRecursion P xs → AllByRecursion P ys → AllByRecursion P (xs ++ ys)
all_both P [] ys h g = g
all_both P (x ∷ xs) ys h g = (h.0, all_both P xs ys h.1 g)

all_at : {A : Type 0} (P : A → Type 0) (xs : List A) (i : ℕ) (other : A) → AllByRecursion P xs → i < length xs → P (get_or xs i other)
all_at P [] i other h inside = absurd (omega (arith, inside))
all_at P (x ∷ xs) zero other h inside = h.0
all_at P (x ∷ xs) (suc i) other h inside = all_at P xs i other h.1 (omega (arith, inside))

-- the physical type is that in which the kind is written, and no level is above a bound
pub record IsWrittenLeaf (max_rep max_def : ℕ) (l : Leaf) : Type 0 where
  pub type : l.phys ≡ type_written l.prim
  pub rep : l.rep ≤ max_rep
  pub def : l.def ≤ max_def

leaf_is : (q : PrimKind) (r d rep def : ℕ) → r ≤ rep → d ≤ def → IsWrittenLeaf rep def (leaf q r d)
leaf_is q r d rep def h g = record { type = refl; rep = h; def = g }

value_leaves_are : (s : Slot) (r d rep def : ℕ) → r ≤ rep → d + 1 ≤ def → AllByRecursion (IsWrittenLeaf rep def) (value_leaves s r d)
value_leaves_are Absent r d rep def h g = tt
value_leaves_are Required r d rep def h g = (leaf_is prim.Raw r d rep def h (omega (arith, g)), tt)
value_leaves_are Optional r d rep def h g = (leaf_is prim.Raw r (d + 1) rep def h g, tt)

mutual
  leaves_are : (n : Group) (r d rep def : ℕ) → r + height n ≤ rep + 1 → d + 2 * height n ≤ def + 1 → AllByRecursion (IsWrittenLeaf rep def) (leaves_of n r d)
  leaves_are (group s t) r d rep def h g =
      all_both (IsWrittenLeaf rep def) (value_leaves s r d) (kind_leaves t r d) (value_leaves_are s r d rep def (omega (arith, h)) (omega (arith, g))) (kind_leaves_are t r d rep def (omega (arith, h)) (omega (arith, g)))

  kind_leaves_are : (t : Kind) (r d rep def : ℕ) → r + kind_height t ≤ rep → (d + 1) + 2 * kind_height t ≤ def → AllByRecursion (IsWrittenLeaf rep def) (kind_leaves t r d)
  kind_leaves_are free r d rep def h g = tt
  kind_leaves_are (scalar q) r d rep def h g = (leaf_is q r (d + 1) rep def (omega (arith, h)) (omega (arith, g)), tt)
  kind_leaves_are (object_of gs) r d rep def h g = groups_leaves_are gs r (d + 1) rep def (omega (arith, h)) (omega (arith, g))
  kind_leaves_are (list_of n) r d rep def h g = leaves_are n (r + 1) (d + 2) rep def (omega (arith, h)) (omega (arith, g))

  groups_leaves_are : (gs : Groups) (r d rep def : ℕ) → r + groups_height gs ≤ rep + 1 → d + 2 * groups_height gs ≤ def + 1 → AllByRecursion (IsWrittenLeaf rep def) (groups_leaves gs r d)
  groups_leaves_are no_groups r d rep def h g = tt
  groups_leaves_are (field name n gs) r d rep def h g =
      all_both (IsWrittenLeaf rep def) (leaves_of n r d) (groups_leaves gs r d) (leaves_are n r d rep def (omega (arith, h)) (omega (arith, g))) (groups_leaves_are gs r d rep def (omega (arith, h)) (omega (arith, g)))

top_low : (optional : Bool) → top_level optional ≤ 1
top_low true = omega arith
top_low false = omega arith

column_leaves_are : (optional : Bool) (n : Group) → AllByRecursion (IsWrittenLeaf (height n) (2 * height n + 1)) (column_leaves optional n)
column_leaves_are optional n =
    (leaf_is prim.Raw 0 (top_level optional) (height n) (2 * height n + 1) (omega arith) (omega (arith, top_low optional)), leaves_are n 0 (top_level optional) (height n) (2 * height n + 1) (omega arith) (omega (arith, top_low optional)))

pub low_levels : (optional : Bool) (n : Group) (j : ℕ) (other : Leaf) → IsWellFormed n → j < length (column_leaves optional n) → ((get_or (column_leaves optional n) j other).rep < 2 ^ 16) × ((get_or (column_leaves optional n) j other).def < 2 ^ 16)
low_levels optional n j other well inside =
    let is = all_at (IsWrittenLeaf (height n) (2 * height n + 1)) (column_leaves optional n) j other (column_leaves_are optional n) inside in
    (omega (arith, is.rep, height_most n, well.deep), omega (arith, is.def, height_most n, well.deep))

-- ---- cells weigh as much as is allowed for their kind

number_weight : (size : ℕ) (c : Cell) → size ≤ 16 → HoldsNumber (FitsBytes size) c → length (number_written (little_integer_bytes size) c) ≤ cell_weight c
number_weight size (cell.Bool b) few h = absurd h
number_weight size (cell.Num z) few h = omega (arith, few, integer_len size (cell.Num z) h)
number_weight size (cell.Bytes bs) few h = absurd h

fixed_weight : (size : ℕ) (c : Cell) → IsFixed size c → length (number_written (decimal_written size) c) ≤ cell_weight c
fixed_weight size (cell.Bool b) h = absurd h.decimal
fixed_weight size (cell.Num z) h = omega (arith, h.most, fixed_len size (cell.Num z) h)
fixed_weight size (cell.Bytes bs) h = absurd h.decimal

bytes_weight : (P : List ℕ → Type 0) (c : Cell) → HoldsBytes P c → length (array_written c) ≤ cell_weight c
bytes_weight P (cell.Bool b) h = absurd h
bytes_weight P (cell.Num z) h = absurd h
bytes_weight P (cell.Bytes bs) h = omega (arith, bytes_len bs)

truth_weight : (c : Cell) → HoldsTruth c → 1 ≤ cell_weight c
truth_weight (cell.Bool b) h = omega arith
truth_weight (cell.Num z) h = absurd h
truth_weight (cell.Bytes bs) h = absurd h

decimal_weight : (p s : ℕ) (c : Cell) → IsCell (decimal_type p) (prim.Decimal p s) c → pages.cell_weight (decimal_type p) c ≤ cell_weight c
decimal_weight p s c h = by (nat_le p 9) (nat_le p 18) h
  where
    by : (a b : Bool) → IsCell (cond a phys.Int32 (cond b phys.Int64 (phys.Fixed 16))) (prim.Decimal p s) c → pages.cell_weight (cond a phys.Int32 (cond b phys.Int64 (phys.Fixed 16))) c ≤ cell_weight c
    by true b g = number_weight 4 c (omega arith) g
    by false true g = number_weight 8 c (omega arith) g
    by false false g = fixed_weight 16 c g

type_weight : (q : PrimKind) (c : Cell) → IsCell (type_written q) q c → pages.cell_weight (type_written q) c ≤ cell_weight c
type_weight prim.Raw c h = bytes_weight IsShort c h
type_weight prim.Boolean c h = truth_weight c h
type_weight prim.Int8 c h = number_weight 4 c (omega arith) h
type_weight prim.Int16 c h = number_weight 4 c (omega arith) h
type_weight prim.Int32 c h = number_weight 4 c (omega arith) h
type_weight prim.Int64 c h = number_weight 8 c (omega arith) h
type_weight (prim.Decimal p s) c h = decimal_weight p s c h
type_weight prim.Text c h = bytes_weight (λ bs. IsShort bs × IsUtf8 bs) c h
type_weight (prim.Refused why) c h = bytes_weight IsShort c h

due_weight : (l : Leaf) (b : Bool) (v : Option Cell) → l.phys ≡ type_written l.prim → HasDue (IsCell l.phys l.prim) b v → pages.value_weight l.phys v ≤ value_weight v
due_weight l b None type h = omega arith
due_weight l false (Some c) type h = absurd h
due_weight l true (Some c) type h = subst (λ p. pages.cell_weight p c ≤ cell_weight c) (sym type) (type_weight l.prim c (subst (λ p. IsCell p l.prim c) type h))

weights_most : (l : Leaf) (es : List Entry) → l.phys ≡ type_written l.prim → AllByRecursion (IsEntry l) es → weights l.phys es ≤ weight_sum es
weights_most l [] type h = omega arith
weights_most l (e ∷ es) type h = omega (arith, sum_by-cons (weight l.phys) e es, due_weight l (e.def == l.def) e.value type h.0.value, weights_most l es type h.1)

pub leaf_weights : (optional : Bool) (n : Group) (j : ℕ) (other : Leaf) (es : List Entry) → j < length (column_leaves optional n) → All (IsEntry (get_or (column_leaves optional n) j other)) es → weights (get_or (column_leaves optional n) j other).phys es ≤ weight_sum es
leaf_weights optional n j other es inside are =
    let l = get_or (column_leaves optional n) j other in
    let is = all_at (IsWrittenLeaf (height n) (2 * height n + 1)) (column_leaves optional n) j other (column_leaves_are optional n) inside in
    weights_most l es is.type (recursion_from_All (IsEntry l) es are)
