-- The cell of a value that fits is one of the physical type in which its kind is written.
use Rattle.std.proofs.Common.{◌≡◌, sym, subst, refl, ℕ, ◌^◌, ◌<◌, ◌≤◌, nat_le, nat_lt, cond, Bool, true, false, ◌&&◌, ℤ, pos, negsuc, int_lt, unsigned_abs, length, Some, None, arith}
use Rattle.std.proofs.lemmas.Bool.{and_parts, leb-true}
use Rattle.std.proofs.lemmas.Bool.Decides.{nat_tests}
use Rattle.exact_num.specs.Decimal.{Decimal, signed, max_digits}
use Rattle.exact_num.specs.Unscaled.{FitsBytes, reach, half}
use Rattle.exact_num.proofs.Powers.{ten_rises}
use Rattle.exact_num.proofs.Signs.{signed_abs}
use Rattle.json_tree.specs.Json as json
use Rattle.json_tree.specs.Json.{Json}
use Rattle.json_tree.specs.Text.{text_of}
use Rattle.json_tree.specs.Valid.{IsValid}
use Rattle.vs_bytes.specs.declared.leaf_columns.Cell.{Cell}
use Rattle.vs_bytes.specs.declared.leaf_columns.Cell.TheVariants as cell
use Rattle.vs_bytes.specs.declared.leaf_columns.Phys.TheVariants as phys
use Rattle.vs_bytes.specs.declared.leaf_columns.PrimKind.{PrimKind}
use Rattle.vs_bytes.specs.declared.leaf_columns.PrimKind.TheVariants as prim
use Rattle.plain_values.specs.Written.{HoldsTruth, HoldsNumber, IsDecimal, IsArray, IsCell}
use Rattle.plain_values.proofs.Sizes.{decimal_fits}
use Rattle.variant_write.specs.Conditions.{max_text_len}
use Rattle.variant_write.proofs.Limits.{text_within}
use Rattle.shred_schema.specs.Cells as kinds
use Rattle.shred_schema.specs.Fits.{raised, over_in, number_cell, fit}
use Rattle.shred_schema.specs.Kinds.{decimal_type, type_written}
use Rattle.shred_schema.specs.Lawful.{IsWritten}
use Rattle.shred_schema.proofs.CellFacts.{cell_is}
use Rattle.shred_schema.proofs.FitFacts.{number_told, fit_is_cell}

-- ---- kinds whose cells are those of their type

truth_held : (c : Cell) → kinds.IsCell prim.Boolean c → HoldsTruth c
truth_held (cell.Bool b) h = tt
truth_held (cell.Num z) h = h
truth_held (cell.Bytes bs) h = h

int8_held : (c : Cell) → kinds.IsCell prim.Int8 c → HoldsNumber (FitsBytes 4) c
int8_held (cell.Bool b) h = h
int8_held (cell.Num z) h = h
int8_held (cell.Bytes bs) h = h

int16_held : (c : Cell) → kinds.IsCell prim.Int16 c → HoldsNumber (FitsBytes 4) c
int16_held (cell.Bool b) h = h
int16_held (cell.Num z) h = h
int16_held (cell.Bytes bs) h = h

int32_held : (c : Cell) → kinds.IsCell prim.Int32 c → HoldsNumber (FitsBytes 4) c
int32_held (cell.Bool b) h = h
int32_held (cell.Num z) h = h
int32_held (cell.Bytes bs) h = h

int64_held : (c : Cell) → kinds.IsCell prim.Int64 c → HoldsNumber (FitsBytes 8) c
int64_held (cell.Bool b) h = h
int64_held (cell.Num z) h = h
int64_held (cell.Bytes bs) h = h

-- ---- texts

text_held : (j : Json) (c : Cell) → length (text_of j) ≤ max_text_len → fit prim.Text j ≡ Some c → kinds.IsCell prim.Text c → IsArray prim.Text c
text_held (json.text s) c short h is = let same : cell.Bytes s ≡ c = cc in subst (IsArray prim.Text) same (omega (arith, text_within s max_text_len short), subst (kinds.IsCell prim.Text) (sym same) is)
text_held json.null c short h is = cc
text_held (json.boolean b) c short h is = cc
text_held (json.number d) c short h is = cc
text_held (json.array ps) c short h is = cc
text_held (json.object fs) c short h is = cc

-- ---- decimals

chosen : {A : Type 0} (b : Bool) (x y : A) → cond b (Some x) None ≡ Some y → (b ≡ true) × (x ≡ y)
chosen true x y e = (refl, cc)
chosen false x y e = cc

test_lt : (m n : ℕ) → nat_lt m n ≡ true → m < n
test_lt m n h = grind (arith, nat_tests)

over_size : (p s : ℕ) (d : Decimal) (u : ℤ) → over_in p s d ≡ Some u → unsigned_abs u < 10 ^ p
over_size p s d u e =
    let v = signed (int_lt d.unscaled (pos 0)) (raised s d) in
    let found = chosen (nat_le d.scale s && nat_lt (raised s d) (10 ^ p)) v u e in
    let small = test_lt (raised s d) (10 ^ p) (and_parts (nat_le d.scale s) (nat_lt (raised s d) (10 ^ p)) found.0).1 in
    subst (λ z. unsigned_abs z < 10 ^ p) found.1 (omega (arith, small, signed_abs (int_lt d.unscaled (pos 0)) (raised s d)))

reach_abs : (z : ℤ) → reach z ≤ unsigned_abs z
reach_abs (pos n) = omega arith
reach_abs (negsuc n) = omega arith

fits_4 : (u : ℤ) → unsigned_abs u < 10 ^ 9 → FitsBytes 4 u
unfolding half
fits_4 u h = omega (arith, h, reach_abs u)

fits_8 : (u : ℤ) → unsigned_abs u < 10 ^ 18 → FitsBytes 8 u
unfolding half
fits_8 u h = omega (arith, h, reach_abs u)

decimal_typed : (p s : ℕ) (u : ℤ) → p ≤ max_digits → unsigned_abs u < 10 ^ p → IsCell (decimal_type p) (prim.Decimal p s) (cell.Num u)
decimal_typed p s u most h = by (nat_le p 9) (nat_le p 18) refl refl
  where
    by : (a b : Bool) → nat_le p 9 ≡ a → nat_le p 18 ≡ b → IsCell (cond a phys.Int32 (cond b phys.Int64 (phys.Fixed 16))) (prim.Decimal p s) (cell.Num u)
    by true b e f = fits_4 u (omega (arith, h, ten_rises p 9 (leb-true p 9 e)))
    by false true e f = fits_8 u (omega (arith, h, ten_rises p 18 (leb-true p 18 f)))
    by false false e f =
        let small : IsDecimal u = omega (arith, h, ten_rises p max_digits most) in
        record { least = omega arith; most = omega arith; decimal = (decimal_fits u small, small) }

decimal_held : (p s : ℕ) (j : Json) (c : Cell) → p ≤ max_digits → number_cell (over_in p s) j ≡ Some c → IsCell (decimal_type p) (prim.Decimal p s) c
decimal_held p s j c most h =
    let told = number_told (over_in p s) j c h in
    subst (IsCell (decimal_type p) (prim.Decimal p s)) told.cell_is (decimal_typed p s told.integer most (over_size p s told.number told.integer told.fits))

-- ---- all kinds

pub cell_fits : (q : PrimKind) (j : Json) (c : Cell) → IsWritten q → IsValid j → length (text_of j) ≤ max_text_len → fit q j ≡ Some c → IsCell (type_written q) q c
cell_fits prim.Raw j c written valid short h = absurd written
cell_fits prim.Boolean j c written valid short h = truth_held c (cell_is prim.Boolean c (fit_is_cell prim.Boolean j c written valid h))
cell_fits prim.Int8 j c written valid short h = int8_held c (cell_is prim.Int8 c (fit_is_cell prim.Int8 j c written valid h))
cell_fits prim.Int16 j c written valid short h = int16_held c (cell_is prim.Int16 c (fit_is_cell prim.Int16 j c written valid h))
cell_fits prim.Int32 j c written valid short h = int32_held c (cell_is prim.Int32 c (fit_is_cell prim.Int32 j c written valid h))
cell_fits prim.Int64 j c written valid short h = int64_held c (cell_is prim.Int64 c (fit_is_cell prim.Int64 j c written valid h))
cell_fits (prim.Decimal p s) j c written valid short h = decimal_held p s j c written.most h
cell_fits prim.Text j c written valid short h = text_held j c short h (cell_is prim.Text c (fit_is_cell prim.Text j c written valid h))
cell_fits (prim.Refused why) j c written valid short h = absurd written
