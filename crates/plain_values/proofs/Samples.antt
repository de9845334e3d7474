-- Cells as the standard codes them, worked out by hand.
use Rattle.std.proofs.Common.{◌≡◌, refl, pos, negsuc, true, false, [], ◌∷◌, replicate, Ok, Err}
use Rattle.exact_num.specs.Unscaled.{half, signed_number, unsigned_number}
use Rattle.vs_bytes.specs.declared.leaf_columns.Cell.TheVariants as cell
use Rattle.vs_bytes.specs.declared.leaf_columns.Phys.TheVariants as phys
use Rattle.vs_bytes.specs.declared.leaf_columns.PrimKind.TheVariants as prim
use Rattle.vs_bytes.specs.declared.rule.Rule.TheVariants.{PlainShort, DecimalDigits}
use Rattle.plain_values.specs.Plain.{decimal, integer, fixed, array_len, array, booleans, plain_cells}
use Rattle.plain_values.specs.Written.{decimal_written, array_written, booleans_written, plain_written}

-- true, false, true
three_truths : plain_cells phys.Boolean prim.Boolean 3 (0x05 ∷ []) ≡ Ok (cell.Bool true ∷ cell.Bool false ∷ cell.Bool true ∷ [])
unfolding booleans
three_truths = refl

three_truths_written : plain_written phys.Boolean (cell.Bool true ∷ cell.Bool false ∷ cell.Bool true ∷ []) ≡ 0x05 ∷ []
unfolding booleans_written
three_truths_written = refl

nine_truths_short : plain_cells phys.Boolean prim.Boolean 9 (0x05 ∷ []) ≡ Err PlainShort
unfolding booleans
nine_truths_short = refl

five : plain_cells phys.Int32 prim.Int32 1 (0x05 ∷ 0x00 ∷ 0x00 ∷ 0x00 ∷ []) ≡ Ok (cell.Num (pos 5) ∷ [])
unfolding integer half signed_number
five = refl

five_written : plain_written phys.Int32 (cell.Num (pos 5) ∷ []) ≡ 0x05 ∷ 0x00 ∷ 0x00 ∷ 0x00 ∷ []
unfolding unsigned_number
five_written = refl

minus_two : plain_cells phys.Int32 prim.Int32 1 (0xfe ∷ 0xff ∷ 0xff ∷ 0xff ∷ []) ≡ Ok (cell.Num (negsuc 1) ∷ [])
unfolding integer half signed_number
minus_two = refl

-- hi, as bytes
two_bytes : plain_cells phys.ByteArray prim.Raw 1 (0x02 ∷ 0x00 ∷ 0x00 ∷ 0x00 ∷ 0x68 ∷ 0x69 ∷ []) ≡ Ok (cell.Bytes (0x68 ∷ 0x69 ∷ []) ∷ [])
unfolding array_len array
two_bytes = refl

two_bytes_written : plain_written phys.ByteArray (cell.Bytes (0x68 ∷ 0x69 ∷ []) ∷ []) ≡ 0x02 ∷ 0x00 ∷ 0x00 ∷ 0x00 ∷ 0x68 ∷ 0x69 ∷ []
unfolding array_written
two_bytes_written = refl

bytes_short : plain_cells phys.ByteArray prim.Raw 1 (0x03 ∷ 0x00 ∷ 0x00 ∷ 0x00 ∷ 0x68 ∷ 0x69 ∷ []) ≡ Err PlainShort
unfolding array_len array
bytes_short = refl

-- the highest byte of a decimal stands first
decimal_258 : plain_cells (phys.Fixed 2) (prim.Decimal 4 0) 1 (0x01 ∷ 0x02 ∷ []) ≡ Ok (cell.Num (pos 258) ∷ [])
unfolding fixed decimal half signed_number
decimal_258 = refl

minus_one_written : plain_written (phys.Fixed 16) (cell.Num (negsuc 0) ∷ []) ≡ replicate 16 0xff
unfolding decimal_written unsigned_number
minus_one_written = refl

minus_one : plain_cells (phys.Fixed 16) (prim.Decimal 38 0) 1 (replicate 16 0xff) ≡ Ok (cell.Num (negsuc 0) ∷ [])
unfolding fixed decimal half signed_number
minus_one = refl

-- a decimal of no bytes, and a short cell after a bad one
no_digits : plain_cells phys.ByteArray (prim.Decimal 4 0) 2 (0x00 ∷ 0x00 ∷ 0x00 ∷ 0x00 ∷ []) ≡ Err DecimalDigits
unfolding array_len array decimal
no_digits = refl
