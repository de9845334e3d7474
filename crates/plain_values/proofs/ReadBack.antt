-- What is written decodes to its cells.
use Rattle.std.proofs.Common.{◌≡◌, ◌∙◌, refl, sym, ap, ℕ, ◌+◌, ◌*◌, ◌/◌, ◌%◌, ◌^◌, ◌<◌, ◌≤◌, ℤ, unsigned_abs, true, false, List, [], ◌∷◌, ◌++◌, length, take, drop, map, reverse, Result, Ok, append_assoc, append-nil, arith, lit≤}
use Rattle.std.specs.List.{flat_map, AllByRecursion}
use Rattle.std.specs.Str.{IsUtf8}
use Rattle.std.proofs.Math.Nat.{add-mul-mod_self_left}
use Rattle.std.proofs.Math.Seq.{take-append_seam, drop-append_seam}
use Rattle.std.proofs.lemmas.Bool.{lt-ltb, le-ltb, ne_eqb}
use Rattle.std.proofs.lemmas.Str.{is_utf8-from_IsUtf8}
use Rattle.std.proofs.lemmas.List.{length-append, length-map, length-reverse, reverse-reverse, take_all, take_at, drop_at}
use Rattle.byteorder.specs.Numbers.{little_number-reads_back, length-bytes_low_first}
use Rattle.exact_num.specs.Unscaled.{FitsBytes, signed_number, unsigned_number, big_integer, little_integer_bytes}
use Rattle.exact_num.proofs.TwosComplement.{integer_back, number_back, number_small}
use Rattle.vs_bytes.specs.Numbers.{number, number_bytes}
use Rattle.vs_bytes.specs.PackedNumbers.{unpacked, packed, little}
use Rattle.vs_bytes.specs.declared.leaf_columns.Cell.{Cell}
use Rattle.vs_bytes.specs.declared.leaf_columns.Cell.TheVariants as cell
use Rattle.vs_bytes.specs.declared.leaf_columns.Phys.{Phys}
use Rattle.vs_bytes.specs.declared.leaf_columns.Phys.TheVariants as phys
use Rattle.vs_bytes.specs.declared.leaf_columns.PrimKind.{PrimKind}
use Rattle.vs_bytes.specs.declared.leaf_columns.PrimKind.TheVariants as prim
use Rattle.vs_bytes.specs.declared.rule.Rule.{Rule}
use Rattle.vs_bytes.proofs.PackedNumbers.{unpacked_len, unpacked_low, unpacked_packed, packed_unpacked, packed_append, fewer_bits}
use Rattle.plain_values.specs.Plain.{decimal, text, array_held, integer, fixed, array_len, array, front_cell, cells, truth, booleans, plain_cells}
use Rattle.plain_values.specs.Written.{HoldsTruth, HoldsNumber, HoldsBytes, IsDecimal, IsShort, IsArray, IsCell, number_written, decimal_written, array_written, cell_written, bit, booleans_written, plain_written}
use Rattle.plain_values.proofs.Bits.{bits_fit}
use Rattle.plain_values.proofs.Sizes.{decimal_fits}

-- a part in front of more
front_there : (bytes more : List ℕ) (size : ℕ) → length bytes ≡ size → size ≤ length (bytes ++ more)
front_there bytes more size is = let e = length-append bytes more in omega (arith, e, is)

-- Integers.

int_back : (size : ℕ) (z : ℤ) (more : List ℕ) → 1 ≤ size → FitsBytes size z → integer size (little_integer_bytes size z ++ more) ≡ Ok (cell.Num z, size)
unfolding integer
int_back size z more least fits =
    let bytes = little_integer_bytes size z in
    let there = front_there bytes more size (length-bytes_low_first 0 size (unsigned_number size z)) in
    let test = le-ltb (length (bytes ++ more)) size there in
    rw (test, integer_back size z more least fits) refl

int_len : (size : ℕ) (z : ℤ) → length (little_integer_bytes size z) ≡ size
int_len size z = length-bytes_low_first 0 size (unsigned_number size z)

-- Decimals.

decimal_len : (size : ℕ) (z : ℤ) → length (decimal_written size z) ≡ size
unfolding decimal_written
decimal_len size z = length-reverse (number_bytes size (unsigned_number size z)) ∙ length-bytes_low_first 0 size (unsigned_number size z)

big_back : (size : ℕ) (z : ℤ) → 1 ≤ size → FitsBytes size z → big_integer (decimal_written size z) 0 size ≡ z
unfolding decimal_written
big_back size z least fits =
    let u = unsigned_number size z in
    let bytes = number_bytes size u in
    let all : take size (reverse bytes) ≡ reverse bytes = take_all size (reverse bytes) (let e = decimal_len size z in omega (arith, e)) in
    ap (λ (xs : List ℕ). signed_number size (number (reverse xs) 0 size)) all
    ∙ ap (λ (xs : List ℕ). signed_number size (number xs 0 size)) (reverse-reverse bytes ∙ sym (append-nil bytes))
    ∙ ap (signed_number size) (little_number-reads_back size u [] (number_small size z least fits))
    ∙ number_back size z least fits

decimal_back : (size : ℕ) (z : ℤ) → 1 ≤ size → size ≤ 16 → FitsBytes size z → IsDecimal z → decimal (decimal_written size z) ≡ Ok (cell.Num z)
unfolding decimal
decimal_back size z least most fits small =
    let len = decimal_len size z in
    let some = ne_eqb size 0 (λ e. absurd (omega (arith, e, least))) in
    let few = le-ltb 16 size most in
    let test = lt-ltb (unsigned_abs z) (10 ^ 38) small in
    rw (len, some, few, big_back size z least fits, test) refl

fixed_back : (size : ℕ) (z : ℤ) (more : List ℕ) → 1 ≤ size → size ≤ 16 → FitsBytes size z → IsDecimal z → fixed size (decimal_written size z ++ more) ≡ Ok (cell.Num z, size)
unfolding fixed
fixed_back size z more least most fits small =
    let bytes = decimal_written size z in
    let len = decimal_len size z in
    let test = le-ltb (length (bytes ++ more)) size (front_there bytes more size len) in
    rw (test, take_at bytes more size len, decimal_back size z least most fits small) refl

-- Arrays.

array_back : (kind : PrimKind) (c : Cell) (held more : List ℕ) → length held < 2 ^ 32 → array_held kind held ≡ Ok c →
    array kind ((number_bytes 4 (length held) ++ held) ++ more) ≡ Ok (c, 4 + length held)
unfolding array array_len
array_back kind c held more short is =
    let prefix = number_bytes 4 (length held) in
    let four : length prefix ≡ 4 = length-bytes_low_first 0 4 (length held) in
    let all = (prefix ++ held) ++ more in
    let turned : all ≡ prefix ++ (held ++ more) = append_assoc prefix held more in
    let total : length all ≡ 4 + (length held + length more) = ap length turned ∙ length-append prefix (held ++ more) ∙ ap (λ (k : ℕ). length prefix + k) (length-append held more) ∙ ap (λ (k : ℕ). k + (length held + length more)) four in
    let size : number all 0 4 ≡ length held = ap (λ (xs : List ℕ). number xs 0 4) turned ∙ little_number-reads_back 4 (length held) (held ++ more) short in
    let first = le-ltb (length all) 4 (omega (arith, total)) in
    let second = le-ltb (length all) (4 + length held) (omega (arith, total)) in
    let behind : drop 4 all ≡ held ++ more = ap (drop 4) turned ∙ drop_at prefix (held ++ more) 4 four in
    let front : take (length held) (drop 4 all) ≡ held = ap (take (length held)) behind ∙ take-append_seam held more in
    rw (first, size, second, front, is) refl

decimal_array_back : (kind : PrimKind) (z : ℤ) (more : List ℕ) → IsDecimal z → array_held kind (decimal_written 16 z) ≡ decimal (decimal_written 16 z) → array kind (array_written (cell.Num z) ++ more) ≡ Ok (cell.Num z, length (array_written (cell.Num z)))
unfolding array_written
decimal_array_back kind z more small held =
    let bytes = decimal_written 16 z in
    let len : length bytes ≡ 16 = decimal_len 16 z in
    let is : array_held kind bytes ≡ Ok (cell.Num z) = held ∙ decimal_back 16 z (lit≤ tt) (lit≤ tt) (decimal_fits z small) small in
    let back = array_back kind (cell.Num z) bytes more (omega (arith, len)) is in
    let prefix : number_bytes 4 (length bytes) ≡ number_bytes 4 16 = ap (number_bytes 4) len in
    let total : 4 + length bytes ≡ length (number_bytes 4 16 ++ bytes) = omega arith in
    ap (λ (xs : List ℕ). array kind ((xs ++ bytes) ++ more)) (sym prefix) ∙ back ∙ ap (λ (k : ℕ). Ok (cell.Num z, k)) total

bytes_array_back : (kind : PrimKind) (bs more : List ℕ) → IsShort bs → array_held kind bs ≡ Ok (cell.Bytes bs) → array kind (array_written (cell.Bytes bs) ++ more) ≡ Ok (cell.Bytes bs, length (array_written (cell.Bytes bs)))
unfolding array_written
bytes_array_back kind bs more short is =
    let total : 4 + length bs ≡ length (number_bytes 4 (length bs) ++ bs) = omega arith in
    array_back kind (cell.Bytes bs) bs more short is ∙ ap (λ (k : ℕ). Ok (cell.Bytes bs, k)) total

text_back : (bs more : List ℕ) → IsShort bs → IsUtf8 bs → array prim.Text (array_written (cell.Bytes bs) ++ more) ≡ Ok (cell.Bytes bs, length (array_written (cell.Bytes bs)))
unfolding text
text_back bs more short utf8 =
    bytes_array_back prim.Text bs more short (let e = is_utf8-from_IsUtf8 bs utf8 in rw e refl)

-- a cell of a BYTE_ARRAY
raw_back : (kind : PrimKind) (c : Cell) (more : List ℕ) → ((bs : List ℕ) → array_held kind bs ≡ Ok (cell.Bytes bs)) → HoldsBytes IsShort c → array kind (array_written c ++ more) ≡ Ok (c, length (array_written c))
raw_back kind (cell.Bool b) more is h = elim h [ ]
raw_back kind (cell.Num z) more is h = elim h [ ]
raw_back kind (cell.Bytes bs) more is h = bytes_array_back kind bs more h (is bs)

array_cell_back : (kind : PrimKind) (c : Cell) (more : List ℕ) → IsArray kind c → array kind (array_written c ++ more) ≡ Ok (c, length (array_written c))
array_cell_back prim.Raw c more h = raw_back prim.Raw c more (λ bs. refl) h
array_cell_back prim.Boolean c more h = raw_back prim.Boolean c more (λ bs. refl) h
array_cell_back prim.Int8 c more h = raw_back prim.Int8 c more (λ bs. refl) h
array_cell_back prim.Int16 c more h = raw_back prim.Int16 c more (λ bs. refl) h
array_cell_back prim.Int32 c more h = raw_back prim.Int32 c more (λ bs. refl) h
array_cell_back prim.Int64 c more h = raw_back prim.Int64 c more (λ bs. refl) h
array_cell_back (prim.Decimal p s) (cell.Bool b) more h = elim h [ ]
array_cell_back (prim.Decimal p s) (cell.Num z) more h = decimal_array_back (prim.Decimal p s) z more h refl
array_cell_back (prim.Decimal p s) (cell.Bytes bs) more h = elim h [ ]
array_cell_back prim.Text (cell.Bool b) more h = elim h [ ]
array_cell_back prim.Text (cell.Num z) more h = elim h [ ]
array_cell_back prim.Text (cell.Bytes bs) more h = text_back bs more h.0 h.1
array_cell_back (prim.Refused rule) c more h = raw_back (prim.Refused rule) c more (λ bs. refl) h

-- Cells that are read one by one.

int_cell_back : (size : ℕ) (c : Cell) (more : List ℕ) → 1 ≤ size → HoldsNumber (FitsBytes size) c → integer size (number_written (little_integer_bytes size) c ++ more) ≡ Ok (c, length (number_written (little_integer_bytes size) c))
int_cell_back size (cell.Bool b) more least h = elim h [ ]
int_cell_back size (cell.Num z) more least h = int_back size z more least h ∙ ap (λ (k : ℕ). Ok (cell.Num z, k)) (sym (int_len size z))
int_cell_back size (cell.Bytes bs) more least h = elim h [ ]

fixed_holds : (size : ℕ) (c : Cell) (more : List ℕ) → 1 ≤ size → size ≤ 16 → HoldsNumber (λ z. FitsBytes size z × IsDecimal z) c → fixed size (number_written (decimal_written size) c ++ more) ≡ Ok (c, length (number_written (decimal_written size) c))
fixed_holds size (cell.Bool b) more least most h = elim h [ ]
fixed_holds size (cell.Num z) more least most h = fixed_back size z more least most h.0 h.1 ∙ ap (λ (k : ℕ). Ok (cell.Num z, k)) (sym (decimal_len size z))
fixed_holds size (cell.Bytes bs) more least most h = elim h [ ]

cells_back : (front : List ℕ → Result (Cell × ℕ) Rule) (written : Cell → List ℕ) (P : Cell → Type 0) →
    ((c : Cell) (more : List ℕ) → P c → front (written c ++ more) ≡ Ok (c, length (written c))) →
    (cs : List Cell) (more : List ℕ) → AllByRecursion P cs → cells front (length cs) (flat_map written cs ++ more) ≡ Ok cs
cells_back front written P back [] more h = refl
cells_back front written P back (c ∷ cs) more h =
    let turned = append_assoc (written c) (flat_map written cs) more in
    let here = back c (flat_map written cs ++ more) h.0 in
    let behind = drop-append_seam (written c) (flat_map written cs ++ more) in
    let rest = cells_back front written P back cs more h.1 in
    rw (turned, here, behind, rest) refl

-- Truth values.

truths_back : (cs : List Cell) → AllByRecursion HoldsTruth cs → map truth (map bit cs) ≡ cs
truths_back [] h = refl
truths_back (cell.Bool true ∷ cs) h = ap (λ (xs : List Cell). cell.Bool true ∷ xs) (truths_back cs h.1)
truths_back (cell.Bool false ∷ cs) h = ap (λ (xs : List Cell). cell.Bool false ∷ xs) (truths_back cs h.1)
truths_back (cell.Num z ∷ cs) h = elim h.0 [ ]
truths_back (cell.Bytes bs ∷ cs) h = elim h.0 [ ]

booleans_back : (cs : List Cell) (more : List ℕ) → AllByRecursion HoldsTruth cs → booleans (length cs) (booleans_written cs ++ more) ≡ Ok cs
unfolding booleans booleans_written
booleans_back cs more h =
    let count = length cs in
    let size = (count + 7) / 8 in
    let n = packed 1 (map bit cs) in
    let bytes = unpacked 8 size n in
    let len : length bytes ≡ size = unpacked_len 8 size n in
    let total = length-append bytes more in
    let test = le-ltb (8 * length (bytes ++ more)) count (omega (arith, total, len)) in
    let bits_len : length (map bit cs) ≡ count = length-map cs bit in
    let low : little (bytes ++ more) % 2 ^ (8 * size) ≡ n % 2 ^ (8 * size) =
    ap (λ (x : ℕ). x % 2 ^ (8 * size)) (packed_append 8 bytes more ∙ ap (λ (k : ℕ). little bytes + 2 ^ (8 * k) * little more) len)
    ∙ add-mul-mod_self_left (little bytes) (2 ^ (8 * size)) (little more)
    ∙ ap (λ (x : ℕ). x % 2 ^ (8 * size)) (packed_unpacked 8 size n)
    ∙ fewer_bits n (8 * size) (8 * size) (omega arith) in
    let numbers : unpacked 1 count (little (bytes ++ more)) ≡ map bit cs =
    sym (unpacked_low 1 count (8 * size) (little (bytes ++ more)) (omega arith))
    ∙ ap (unpacked 1 count) low
    ∙ unpacked_low 1 count (8 * size) n (omega arith)
    ∙ ap (λ (k : ℕ). unpacked 1 k n) (sym bits_len)
    ∙ unpacked_packed 1 (map bit cs) (bits_fit cs) in
    rw (test, numbers) (ap Ok (truths_back cs h))

-- Any column.

pub plain_back : (type : Phys) (kind : PrimKind) (cs : List Cell) (more : List ℕ) → AllByRecursion (IsCell type kind) cs → plain_cells type kind (length cs) (plain_written type cs ++ more) ≡ Ok cs
plain_back phys.Boolean kind cs more h = booleans_back cs more h
plain_back phys.Int32 kind cs more h = cells_back (front_cell phys.Int32 kind) (cell_written phys.Int32) (IsCell phys.Int32 kind) (λ c m g. int_cell_back 4 c m (lit≤ tt) g) cs more h
plain_back phys.Int64 kind cs more h = cells_back (front_cell phys.Int64 kind) (cell_written phys.Int64) (IsCell phys.Int64 kind) (λ c m g. int_cell_back 8 c m (lit≤ tt) g) cs more h
plain_back phys.Float kind cs more h = cells_back (front_cell phys.Float kind) (cell_written phys.Float) (IsCell phys.Float kind) (array_cell_back kind) cs more h
plain_back phys.Double kind cs more h = cells_back (front_cell phys.Double kind) (cell_written phys.Double) (IsCell phys.Double kind) (array_cell_back kind) cs more h
plain_back phys.ByteArray kind cs more h = cells_back (front_cell phys.ByteArray kind) (cell_written phys.ByteArray) (IsCell phys.ByteArray kind) (array_cell_back kind) cs more h
plain_back (phys.Fixed size) kind cs more h = cells_back (front_cell (phys.Fixed size) kind) (cell_written (phys.Fixed size)) (IsCell (phys.Fixed size) kind) (λ c m g. fixed_holds size c m g.least g.most g.decimal) cs more h
plain_back phys.Other kind cs more h = cells_back (front_cell phys.Other kind) (cell_written phys.Other) (IsCell phys.Other kind) (array_cell_back kind) cs more h
