-- Bounds and statistics worked out by hand.
use Rattle.std.proofs.Common.{◌≡◌, refl, ℕ, pos, negsuc, true, false, List, [], ◌∷◌, replicate, Some, None}
use Rattle.exact_num.specs.Unscaled.{half, signed_number}
use Rattle.vs_bytes.specs.declared.leaf_columns.Cell.TheVariants as cell
use Rattle.vs_bytes.specs.declared.leaf_columns.Entry.{Entry}
use Rattle.vs_bytes.specs.declared.leaf_columns.Leaf.{Leaf}
use Rattle.vs_bytes.specs.declared.leaf_columns.Phys.{Phys}
use Rattle.vs_bytes.specs.declared.leaf_columns.Phys.TheVariants as phys
use Rattle.vs_bytes.specs.declared.leaf_columns.PrimKind.{PrimKind}
use Rattle.vs_bytes.specs.declared.leaf_columns.PrimKind.TheVariants as prim
use Rattle.plain_values.specs.Plain.{decimal}
use Rattle.group_stats.specs.Accurate.{integer_bound, bound_cell, at_most, AreAccurate}

abbrev leaf : Phys → PrimKind → Leaf
leaf type kind = record { rep = 0; def = 1; phys = type; prim = kind }

-- Truth values.
no_is_a_bound : bound_cell (leaf phys.Boolean prim.Boolean) (0x00 ∷ []) ≡ Some (cell.Bool false)
no_is_a_bound = refl

yes_is_a_bound : bound_cell (leaf phys.Boolean prim.Boolean) (0x01 ∷ []) ≡ Some (cell.Bool true)
yes_is_a_bound = refl

two_is_no_truth : bound_cell (leaf phys.Boolean prim.Boolean) (0x02 ∷ []) ≡ None
two_is_no_truth = refl

nothing_is_no_truth : bound_cell (leaf phys.Boolean prim.Boolean) [] ≡ None
nothing_is_no_truth = refl

truth_of_two_bytes : bound_cell (leaf phys.Boolean prim.Boolean) (0x01 ∷ 0x00 ∷ []) ≡ None
truth_of_two_bytes = refl

-- Integers: the lowest byte first.
five : bound_cell (leaf phys.Int32 prim.Int8) (0x05 ∷ 0x00 ∷ 0x00 ∷ 0x00 ∷ []) ≡ Some (cell.Num (pos 5))
unfolding integer_bound half signed_number
five = refl

minus_two : bound_cell (leaf phys.Int32 prim.Int32) (0xfe ∷ 0xff ∷ 0xff ∷ 0xff ∷ []) ≡ Some (cell.Num (negsuc 1))
unfolding integer_bound half signed_number
minus_two = refl

int32_of_eight_bytes : bound_cell (leaf phys.Int32 prim.Int32) (0x05 ∷ replicate 7 0x00) ≡ None
unfolding integer_bound
int32_of_eight_bytes = refl

int64_of_eight_bytes : bound_cell (leaf phys.Int64 prim.Int64) (0x05 ∷ replicate 7 0x00) ≡ Some (cell.Num (pos 5))
unfolding integer_bound half signed_number
int64_of_eight_bytes = refl

int64_of_four_bytes : bound_cell (leaf phys.Int64 prim.Int64) (0x05 ∷ replicate 3 0x00) ≡ None
unfolding integer_bound
int64_of_four_bytes = refl

-- Decimals: the highest byte first.
minus_two_hundredths : bound_cell (leaf phys.ByteArray (prim.Decimal 9 2)) (0xfe ∷ []) ≡ Some (cell.Num (negsuc 1))
unfolding decimal half signed_number
minus_two_hundredths = refl

a_byte_above : bound_cell (leaf phys.ByteArray (prim.Decimal 9 2)) (0x01 ∷ 0x02 ∷ []) ≡ Some (cell.Num (pos 258))
unfolding decimal half signed_number
a_byte_above = refl

decimal_without_bytes : bound_cell (leaf phys.ByteArray (prim.Decimal 9 2)) [] ≡ None
unfolding decimal
decimal_without_bytes = refl

decimal_of_seventeen_bytes : bound_cell (leaf phys.ByteArray (prim.Decimal 38 0)) (replicate 17 0x00) ≡ None
unfolding decimal
decimal_of_seventeen_bytes = refl

-- 2^127 - 1, which has 39 digits
decimal_of_39_digits : bound_cell (leaf phys.ByteArray (prim.Decimal 38 0)) (0x7f ∷ replicate 15 0xff) ≡ None
unfolding decimal half signed_number
decimal_of_39_digits = refl

-- 10^38 - 1
greatest_decimal : bound_cell (leaf (phys.Fixed 16) (prim.Decimal 38 0)) (0x4b ∷ 0x3b ∷ 0x4c ∷ 0xa8 ∷ 0x5a ∷ 0x86 ∷ 0xc4 ∷ 0x7a ∷ 0x09 ∷ 0x8a ∷ 0x22 ∷ 0x3f ∷ 0xff ∷ 0xff ∷ 0xff ∷ 0xff ∷ []) ≡ Some (cell.Num (pos 99999999999999999999999999999999999999))
unfolding decimal half signed_number
greatest_decimal = refl

-- 10^38
decimal_above : bound_cell (leaf (phys.Fixed 16) (prim.Decimal 38 0)) (0x4b ∷ 0x3b ∷ 0x4c ∷ 0xa8 ∷ 0x5a ∷ 0x86 ∷ 0xc4 ∷ 0x7a ∷ 0x09 ∷ 0x8a ∷ 0x22 ∷ 0x40 ∷ 0x00 ∷ 0x00 ∷ 0x00 ∷ 0x00 ∷ []) ≡ None
unfolding decimal half signed_number
decimal_above = refl

fixed_of_another_width : bound_cell (leaf (phys.Fixed 4) (prim.Decimal 9 2)) (0x01 ∷ 0x02 ∷ []) ≡ None
unfolding decimal
fixed_of_another_width = refl

-- Texts: a bound may be cut within a letter, and have no bytes.
half_a_letter : bound_cell (leaf phys.ByteArray prim.Text) (0xc3 ∷ []) ≡ Some (cell.Bytes (0xc3 ∷ []))
half_a_letter = refl

no_letters : bound_cell (leaf phys.ByteArray prim.Text) [] ≡ Some (cell.Bytes [])
no_letters = refl

-- Order.
no_before_yes : at_most (cell.Bool false) (cell.Bool true) ≡ true
no_before_yes = refl

yes_after_no : at_most (cell.Bool true) (cell.Bool false) ≡ false
yes_after_no = refl

signed : at_most (cell.Num (negsuc 1)) (cell.Num (pos 1)) ≡ true
signed = refl

not_by_size : at_most (cell.Num (negsuc 0)) (cell.Num (negsuc 1)) ≡ false
not_by_size = refl

unsigned_bytes : at_most (cell.Bytes (0x7f ∷ [])) (cell.Bytes (0x80 ∷ [])) ≡ true
unsigned_bytes = refl

shorter_first : at_most (cell.Bytes (0x61 ∷ 0x62 ∷ [])) (cell.Bytes (0x61 ∷ [])) ≡ false
shorter_first = refl

not_true : false ≡ true → ⊥
not_true e = cc

-- Statistics of the values 1 and -2, and of an entry without a value.
abbrev entries : List Entry
entries = record { rep = 0; def = 1; value = Some (cell.Num (pos 1)) } ∷ record { rep = 0; def = 0; value = None } ∷ record { rep = 0; def = 1; value = Some (cell.Num (negsuc 1)) } ∷ []

abbrev one : List ℕ
one = 0x01 ∷ replicate 3 0x00

abbrev below : List ℕ
below = 0xfe ∷ 0xff ∷ 0xff ∷ 0xff ∷ []

exact : AreAccurate (leaf phys.Int32 prim.Int32) true entries (record { nulls = Some 1; least = Some below; greatest = Some one })
unfolding integer_bound half signed_number
exact = record { nulls = refl; least = refl; greatest = refl; enclosed = λ ordered. ((refl, refl), (tt, ((refl, refl), tt))) }

-- bounds the wrong way round are inaccurate only where the order is that of the type
turned : AreAccurate (leaf phys.Int32 prim.Int32) false entries (record { nulls = None; least = Some one; greatest = Some below })
unfolding integer_bound half signed_number
turned = record { nulls = tt; least = refl; greatest = refl; enclosed = λ ordered. absurd (not_true ordered) }

turned_in_order : AreAccurate (leaf phys.Int32 prim.Int32) true entries (record { nulls = None; least = Some one; greatest = Some below }) → ⊥
unfolding integer_bound half signed_number
turned_in_order a = not_true (a.enclosed refl).1.1.0.0

-- one bound alone encloses nothing
one_bound : AreAccurate (leaf phys.Int32 prim.Int32) true entries (record { nulls = Some 1; least = Some one; greatest = None })
unfolding integer_bound half signed_number
one_bound = record { nulls = refl; least = refl; greatest = tt; enclosed = λ ordered. tt }

-- a bound that spells no cell
short_bound : AreAccurate (leaf phys.Int32 prim.Int32) false entries (record { nulls = None; least = Some (0x01 ∷ []); greatest = None }) → ⊥
unfolding integer_bound
short_bound a = not_true a.least
