-- Cells of a kind: the test and the relation, and what holds of a cell that is read.
use Rattle.std.proofs.Common.{◌≡◌, sym, subst, refl, ℕ, ◌+◌, ◌≤◌, ◌<◌, ◌^◌, nat_lt, true, true≢false, ℤ, pos, negsuc, unsigned_abs, List, IsUtf8, arith}
use Rattle.std.proofs.lemmas.Bool.Decides.{nat_tests}
use Rattle.std.proofs.lemmas.Str.{is_utf8-from_IsUtf8, IsUtf8-from_is_utf8}
use Rattle.exact_num.specs.Decimal.{max_digits}
use Rattle.exact_num.specs.Unscaled.{reach, half}
use Rattle.vs_bytes.specs.declared.leaf_columns.Cell.{Cell}
use Rattle.vs_bytes.specs.declared.leaf_columns.Cell.TheVariants as cell
use Rattle.vs_bytes.specs.declared.leaf_columns.PrimKind.{PrimKind}
use Rattle.vs_bytes.specs.declared.leaf_columns.PrimKind.TheVariants as prim
use Rattle.shred_schema.specs.Cells.{IsCell, is_of_prim}
use Rattle.shred_schema.specs.Lawful.{MayHold}

test_lt : (a b : ℕ) → nat_lt a b ≡ true → a < b
test_lt a b h = grind (arith, nat_tests)

lt_test : (a b : ℕ) → a < b → nat_lt a b ≡ true
lt_test a b h = grind (arith, nat_tests)

-- what is of a kind passes the test
pub cell_passes : (q : PrimKind) (c : Cell) → IsCell q c → is_of_prim q c ≡ true
cell_passes prim.Raw (cell.Bool b) h = absurd h
cell_passes prim.Raw (cell.Num z) h = absurd h
cell_passes prim.Raw (cell.Bytes bs) h = refl
cell_passes prim.Boolean (cell.Bool b) h = refl
cell_passes prim.Boolean (cell.Num z) h = absurd h
cell_passes prim.Boolean (cell.Bytes bs) h = absurd h
cell_passes prim.Int8 (cell.Bool b) h = absurd h
cell_passes prim.Int8 (cell.Num z) h = lt_test (reach z) (half 4) h
cell_passes prim.Int8 (cell.Bytes bs) h = absurd h
cell_passes prim.Int16 (cell.Bool b) h = absurd h
cell_passes prim.Int16 (cell.Num z) h = lt_test (reach z) (half 4) h
cell_passes prim.Int16 (cell.Bytes bs) h = absurd h
cell_passes prim.Int32 (cell.Bool b) h = absurd h
cell_passes prim.Int32 (cell.Num z) h = lt_test (reach z) (half 4) h
cell_passes prim.Int32 (cell.Bytes bs) h = absurd h
cell_passes prim.Int64 (cell.Bool b) h = absurd h
cell_passes prim.Int64 (cell.Num z) h = lt_test (reach z) (half 8) h
cell_passes prim.Int64 (cell.Bytes bs) h = absurd h
cell_passes (prim.Decimal p s) (cell.Bool b) h = absurd h
cell_passes (prim.Decimal p s) (cell.Num z) h = lt_test (unsigned_abs z) (10 ^ max_digits) h
cell_passes (prim.Decimal p s) (cell.Bytes bs) h = absurd h
cell_passes prim.Text (cell.Bool b) h = absurd h
cell_passes prim.Text (cell.Num z) h = absurd h
cell_passes prim.Text (cell.Bytes bs) h = is_utf8-from_IsUtf8 bs h
cell_passes (prim.Refused why) (cell.Bool b) h = absurd h
cell_passes (prim.Refused why) (cell.Num z) h = absurd h
cell_passes (prim.Refused why) (cell.Bytes bs) h = absurd h

-- and what passes is of the kind
pub cell_is : (q : PrimKind) (c : Cell) → is_of_prim q c ≡ true → IsCell q c
cell_is prim.Raw (cell.Bool b) h = absurd (true≢false (sym h))
cell_is prim.Raw (cell.Num z) h = absurd (true≢false (sym h))
cell_is prim.Raw (cell.Bytes bs) h = tt
cell_is prim.Boolean (cell.Bool b) h = tt
cell_is prim.Boolean (cell.Num z) h = absurd (true≢false (sym h))
cell_is prim.Boolean (cell.Bytes bs) h = absurd (true≢false (sym h))
cell_is prim.Int8 (cell.Bool b) h = absurd (true≢false (sym h))
cell_is prim.Int8 (cell.Num z) h = test_lt (reach z) (half 4) h
cell_is prim.Int8 (cell.Bytes bs) h = absurd (true≢false (sym h))
cell_is prim.Int16 (cell.Bool b) h = absurd (true≢false (sym h))
cell_is prim.Int16 (cell.Num z) h = test_lt (reach z) (half 4) h
cell_is prim.Int16 (cell.Bytes bs) h = absurd (true≢false (sym h))
cell_is prim.Int32 (cell.Bool b) h = absurd (true≢false (sym h))
cell_is prim.Int32 (cell.Num z) h = test_lt (reach z) (half 4) h
cell_is prim.Int32 (cell.Bytes bs) h = absurd (true≢false (sym h))
cell_is prim.Int64 (cell.Bool b) h = absurd (true≢false (sym h))
cell_is prim.Int64 (cell.Num z) h = test_lt (reach z) (half 8) h
cell_is prim.Int64 (cell.Bytes bs) h = absurd (true≢false (sym h))
cell_is (prim.Decimal p s) (cell.Bool b) h = absurd (true≢false (sym h))
cell_is (prim.Decimal p s) (cell.Num z) h = test_lt (unsigned_abs z) (10 ^ max_digits) h
cell_is (prim.Decimal p s) (cell.Bytes bs) h = absurd (true≢false (sym h))
cell_is prim.Text (cell.Bool b) h = absurd (true≢false (sym h))
cell_is prim.Text (cell.Num z) h = absurd (true≢false (sym h))
cell_is prim.Text (cell.Bytes bs) h = IsUtf8-from_is_utf8 bs h
cell_is (prim.Refused why) (cell.Bool b) h = absurd (true≢false (sym h))
cell_is (prim.Refused why) (cell.Num z) h = absurd (true≢false (sym h))
cell_is (prim.Refused why) (cell.Bytes bs) h = absurd (true≢false (sym h))

abs_reach : (z : ℤ) → unsigned_abs z ≤ reach z + 1
abs_reach (pos n) = omega arith
abs_reach (negsuc n) = omega arith

half_4 : half 4 ≡ 2147483648
unfolding half
half_4 = refl

half_8 : half 8 ≡ 9223372036854775808
unfolding half
half_8 = refl

-- an integer of 8 bytes at most has less than 38 digits
narrow_size : (z : ℤ) → reach z < 9223372036854775808 → unsigned_abs z < 10 ^ max_digits
narrow_size z h = omega (arith, abs_reach z)

-- the integer of a cell that is read has 38 digits at most
pub cell_size : (q : PrimKind) (z : ℤ) → is_of_prim q (cell.Num z) ≡ true → unsigned_abs z < 10 ^ max_digits
cell_size prim.Raw z h = absurd (true≢false (sym h))
cell_size prim.Boolean z h = absurd (true≢false (sym h))
cell_size prim.Int8 z h = narrow_size z (omega (arith, subst (λ n. reach z < n) half_4 (test_lt (reach z) (half 4) h)))
cell_size prim.Int16 z h = narrow_size z (omega (arith, subst (λ n. reach z < n) half_4 (test_lt (reach z) (half 4) h)))
cell_size prim.Int32 z h = narrow_size z (omega (arith, subst (λ n. reach z < n) half_4 (test_lt (reach z) (half 4) h)))
cell_size prim.Int64 z h = narrow_size z (subst (λ n. reach z < n) half_8 (test_lt (reach z) (half 8) h))
cell_size (prim.Decimal p s) z h = test_lt (unsigned_abs z) (10 ^ max_digits) h
cell_size prim.Text z h = absurd (true≢false (sym h))
cell_size (prim.Refused why) z h = absurd (true≢false (sym h))

-- the bytes of a cell that is read are UTF-8
pub cell_text : (q : PrimKind) (bs : List ℕ) → MayHold q → is_of_prim q (cell.Bytes bs) ≡ true → IsUtf8 bs
cell_text prim.Raw bs m h = absurd m
cell_text prim.Text bs m h = IsUtf8-from_is_utf8 bs h
cell_text prim.Boolean bs m h = absurd (true≢false (sym h))
cell_text prim.Int8 bs m h = absurd (true≢false (sym h))
cell_text prim.Int16 bs m h = absurd (true≢false (sym h))
cell_text prim.Int32 bs m h = absurd (true≢false (sym h))
cell_text prim.Int64 bs m h = absurd (true≢false (sym h))
cell_text (prim.Decimal p s) bs m h = absurd (true≢false (sym h))
cell_text (prim.Refused why) bs m h = absurd (true≢false (sym h))
