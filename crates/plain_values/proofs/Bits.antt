-- Truth values, which are bits.
use Rattle.std.proofs.Common.{◌≡◌, ◌∙◌, sym, ap, ℕ, zero, suc, ◌+◌, ◌-◌, ◌*◌, ◌/◌, ◌%◌, ◌^◌, ◌<◌, ◌≤◌, true, false, min, List, [], ◌∷◌, ◌++◌, length, take, drop, map, slice_index, append_assoc, append-nil, arith, lit<}
use Rattle.std.proofs.Math.Nat.{add-mul-mod_self_left, pow-suc, pow-le-pow_right}
use Rattle.std.proofs.lemmas.Nat.{shr-shr}
use Rattle.std.proofs.lemmas.List.{drop_more, drop-drop, length-drop, take_min, take-map, drop-map}
use Rattle.vs_bytes.specs.PackedNumbers.{unpacked, packed, little}
use Rattle.vs_bytes.specs.declared.leaf_columns.Cell.{Cell}
use Rattle.vs_bytes.specs.declared.leaf_columns.Cell.TheVariants as cell
use Rattle.vs_bytes.proofs.PackedNumbers.{same_field, place_is, packed_low, packed_high}
use Rattle.plain_values.specs.Plain.{truth}
use Rattle.plain_values.specs.Written.{bit}

pub bit_is : (bytes : List ℕ) (place : ℕ) → place < 8 * length bytes → ((i : ℕ) → slice_index bytes i < 256) → slice_index bytes (place / 8) / 2 ^ (place % 8) % 2 ≡ little bytes / 2 ^ place % 2
bit_is bytes place inside small =
    let byte = slice_index bytes (place / 8) in
    let behind = drop (place / 8 + 1) bytes in
    let front : little (drop (place / 8) bytes) % 256 ≡ byte % 256 =
    ap (λ (bs : List ℕ). little bs % 256) (drop_more bytes (place / 8) 0 (omega (arith, inside))) ∙ add-mul-mod_self_left byte 256 (little behind) in
    same_field byte (little (drop (place / 8) bytes)) 8 (place % 8) 1 (sym front) (omega arith)
    ∙ place_is bytes place 1 small

-- one more truth value, in a loop
pub bit_on : (count place n : ℕ) (found : List Cell) (c : Cell) → place < count → c ≡ truth (n / 2 ^ place % 2) →
    (found ++ c ∷ []) ++ map truth (unpacked 1 (count - (place + 1)) (n / 2 ^ (place + 1))) ≡ found ++ map truth (unpacked 1 (count - place) (n / 2 ^ place))
bit_on count place n found c less is =
    let left : count - place ≡ suc (count - (place + 1)) = omega (arith, less) in
    append_assoc found (c ∷ []) (map truth (unpacked 1 (count - (place + 1)) (n / 2 ^ (place + 1))))
    ∙ ap (λ (x : Cell). found ++ x ∷ map truth (unpacked 1 (count - (place + 1)) (n / 2 ^ (place + 1)))) is
    ∙ sym (ap (λ (x : ℕ). found ++ truth (n / 2 ^ place % 2) ∷ map truth (unpacked 1 (count - (place + 1)) x)) (shr-shr n place 1))
    ∙ sym (ap (λ (k : ℕ). found ++ map truth (unpacked 1 k (n / 2 ^ place))) left)

pub bits_done : (count place n : ℕ) (found : List Cell) → count ≤ place → found ++ map truth (unpacked 1 (count - place) n) ≡ found
bits_done count place n found done =
    let none : count - place ≡ 0 = omega (arith, done) in
    ap (λ (k : ℕ). found ++ map truth (unpacked 1 k n)) none ∙ append-nil found

-- Bytes of truth values.

bit_small : (c : Cell) → bit c < 2
bit_small (cell.Bool true) = omega arith
bit_small (cell.Bool false) = omega arith
bit_small (cell.Num z) = omega arith
bit_small (cell.Bytes bs) = omega arith

pub bits_fit : (cs : List Cell) (k : ℕ) → slice_index (map bit cs) k < 2 ^ 1
bits_fit [] k = omega arith
bits_fit (c ∷ cs) zero = bit_small c
bits_fit (c ∷ cs) (suc k) = bits_fit cs k

pub bits_small : (cs : List Cell) → packed 1 (map bit cs) < 2 ^ length cs
bits_small [] = omega arith
bits_small (c ∷ cs) =
    let rest = bits_small cs in
    let one = bit_small c in
    let power = pow-suc 2 (length cs) in
    rw power (omega (arith, rest, one))

-- seven bits or fewer
pub byte_room : (i : ℕ) (cs : List Cell) → 0 < i → i ≤ length cs → length cs ≤ 8 → packed 1 (map bit (drop i cs)) < 128
byte_room i cs some within few =
    let bits = bits_small (drop i cs) in
    let size = length-drop i cs in
    let less : length (drop i cs) ≤ 7 = omega (arith, size, some, few) in
    let top : 2 ^ length (drop i cs) ≤ 2 ^ 7 = pow-le-pow_right {n = 2} (lit< tt) less in
    omega (arith, bits, top)

-- the cells of byte i
pub of_byte : (i end : ℕ) (cs : List Cell) → end ≡ min (8 * i + 8) (length cs) → take (end - 8 * i) (drop (8 * i) cs) ≡ take 8 (drop (8 * i) cs)
of_byte i end cs is =
    let size = length-drop (8 * i) cs in
    let count : end - 8 * i ≡ min 8 (length (drop (8 * i) cs)) = omega (arith, is, size) in
    ap (λ (k : ℕ). take k (drop (8 * i) cs)) count ∙ take_min 8 (drop (8 * i) cs)

-- one more byte, in a loop
pub byte_on : (groups i byte : ℕ) (cs : List Cell) (now : List ℕ) → i < groups → byte ≡ packed 1 (map bit (take 8 (drop (8 * i) cs))) →
    (now ++ byte ∷ []) ++ unpacked 8 (groups - (i + 1)) (packed 1 (map bit (drop (8 * (i + 1)) cs))) ≡ now ++ unpacked 8 (groups - i) (packed 1 (map bit (drop (8 * i) cs)))
byte_on groups i byte cs now less is =
    let left : groups - i ≡ suc (groups - (i + 1)) = omega (arith, less) in
    let here = drop (8 * i) cs in
    let n = packed 1 (map bit here) in
    let low : n % 256 ≡ byte =
    packed_low 1 8 (map bit here) (bits_fit here) ∙ ap (packed 1) (take-map bit 8 here) ∙ sym is in
    let next : 8 * i + 8 ≡ 8 * (i + 1) = omega arith in
    let high : n / 256 ≡ packed 1 (map bit (drop (8 * (i + 1)) cs)) =
    packed_high 1 8 (map bit here) (bits_fit here) ∙ ap (packed 1) (drop-map bit 8 here ∙ ap (map bit) (drop-drop 8 (8 * i) cs ∙ ap (λ (k : ℕ). drop k cs) next)) in
    append_assoc now (byte ∷ []) (unpacked 8 (groups - (i + 1)) (packed 1 (map bit (drop (8 * (i + 1)) cs))))
    ∙ ap (λ (xs : List ℕ). now ++ xs) (ap (λ (b : ℕ). b ∷ unpacked 8 (groups - (i + 1)) (packed 1 (map bit (drop (8 * (i + 1)) cs)))) (sym low) ∙ ap (λ (x : ℕ). n % 256 ∷ unpacked 8 (groups - (i + 1)) x) (sym high))
    ∙ sym (ap (λ (k : ℕ). now ++ unpacked 8 k n) left)
