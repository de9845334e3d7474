-- How many bytes a cell has in PLAIN.
use Rattle.std.proofs.Common.{◌≡◌, ◌∙◌, ℕ, ◌+◌, ◌≤◌, Bool, ℤ, List, ◌∷◌, length, arith}
use Rattle.std.specs.List.{All}
use Rattle.std.proofs.lemmas.List.{length-append, length-reverse}
use Rattle.std.proofs.lemmas.List.Elements.{All-tail}
use Rattle.std.proofs.lemmas.List.Sums.{sum_by-cons}
use Rattle.byteorder.specs.Numbers.{length-bytes_low_first}
use Rattle.exact_num.specs.Unscaled.{FitsBytes, unsigned_number, little_integer_bytes}
use Rattle.vs_bytes.specs.Numbers.{number_bytes}
use Rattle.vs_bytes.specs.declared.leaf_columns.Cell.{Cell}
use Rattle.vs_bytes.specs.declared.leaf_columns.Cell.TheVariants as cell
use Rattle.vs_bytes.specs.declared.leaf_columns.Entry.{Entry}
use Rattle.vs_bytes.specs.declared.leaf_columns.Leaf.{Leaf}
use Rattle.vs_bytes.specs.declared.leaf_columns.Phys.{Phys}
use Rattle.plain_values.specs.Written.{HoldsNumber, IsFixed, number_written, decimal_written, decimal_bytes, array_written}
use Rattle.pages.specs.Entries.{IsEntry}
use Rattle.pages.specs.Written.{weight, weights}

pub integer_len : (size : ℕ) (c : Cell) → HoldsNumber (FitsBytes size) c → length (number_written (little_integer_bytes size) c) ≡ size
integer_len size (cell.Bool b) h = elim h [ ]
integer_len size (cell.Num z) h = length-bytes_low_first 0 size (unsigned_number size z)
integer_len size (cell.Bytes bs) h = elim h [ ]

decimal_len : (size : ℕ) (z : ℤ) → length (decimal_written size z) ≡ size
unfolding decimal_written
decimal_len size z = length-reverse (number_bytes size (unsigned_number size z)) ∙ length-bytes_low_first 0 size (unsigned_number size z)

pub fixed_len : (size : ℕ) (c : Cell) → IsFixed size c → length (number_written (decimal_written size) c) ≡ size
fixed_len size (cell.Bool b) h = elim h.decimal [ ]
fixed_len size (cell.Num z) h = decimal_len size z
fixed_len size (cell.Bytes bs) h = elim h.decimal [ ]

-- in a BYTE_ARRAY

pub truth_len : (b : Bool) → length (array_written (cell.Bool b)) ≡ 0
unfolding array_written
truth_len b = omega arith

pub number_len : (z : ℤ) → length (array_written (cell.Num z)) ≡ 20
unfolding array_written
number_len z =
    let parts = length-append (number_bytes 4 decimal_bytes) (decimal_written decimal_bytes z) in
    let front = length-bytes_low_first 0 4 decimal_bytes in
    let own = decimal_len decimal_bytes z in
    omega (arith, parts, front, own)

pub bytes_len : (bs : List ℕ) → length (array_written (cell.Bytes bs)) ≡ 4 + length bs
unfolding array_written
bytes_len bs =
    let parts = length-append (number_bytes 4 (length bs)) bs in
    let front = length-bytes_low_first 0 4 (length bs) in
    omega (arith, parts, front)

-- the first entry and the others

pub light_parts : (type : Phys) (e : Entry) (es : List Entry) → weights type (e ∷ es) ≤ 1000000000 → weight type e + weights type es ≤ 1000000000
light_parts type e es light = let sum = sum_by-cons (weight type) e es in omega (arith, sum, light)

pub rest_are : (leaf : Leaf) (e : Entry) (es : List Entry) → All (IsEntry leaf) (e ∷ es) → All (IsEntry leaf) es
rest_are leaf = All-tail (IsEntry leaf)
