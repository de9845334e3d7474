-- Numbers packed into bytes.
use Rattle.std.proofs.Common.{◌≡◌, ◌∙◌, refl, sym, ap, ℕ, zero, suc, ◌+◌, ◌-◌, ◌*◌, ◌/◌, ◌%◌, ◌^◌, ◌<◌, ◌≤◌, ◌⊎◌, inl, inr, List, ◌∷◌, ◌++◌, length, take, drop, slice_index, set, arith, lit<}
use Rattle.std.proofs.Math.Nat.{mul_assoc, mul-add, mul_comm, mul-zero, add-mul-mod_self_left, add-mul-div_left, div-eq_of_lt, pow-le-pow_right, pow-suc, mul-suc}
use Rattle.std.proofs.lemmas.Bool.{cases_lt, le-ltb}
use Rattle.std.proofs.lemmas.Nat.{pow_pos, pow-add, mul-add-lt, div_below}
use Rattle.std.proofs.lemmas.List.{drop_more}
use Rattle.vs_bytes.specs.PackedNumbers.{unpacked, packed}
use Rattle.hybrid_levels.specs.Written.{varint_bytes}
use Rattle.hybrid_levels.proofs.Unpacked.{taken_on}

-- the next number is taken up
pub taken_up : (width bits have next n : ℕ) (ns : List ℕ) → next < length ns → n ≡ slice_index ns next → bits + n * 2 ^ have + 2 ^ (have + width) * packed width (drop (next + 1) ns) ≡ bits + 2 ^ have * packed width (drop next ns)
taken_up width bits have next n ns less is =
    let rest = packed width (drop (next + 1) ns) in
    let power = pow-add 2 have width in
    let product = mul_assoc (2 ^ have) (2 ^ width) rest in
    let sum = mul-add (2 ^ have) n (2 ^ width * rest) in
    let turned = mul_comm n (2 ^ have) in
    let all : packed width (drop next ns) ≡ n + 2 ^ width * rest = ap (packed width) (drop_more ns next 0 less) ∙ ap (λ (x : ℕ). x + 2 ^ width * rest) (sym is) in
    rw (all, power, product, sum, turned) (omega arith)

pub still_small : (width bits have n : ℕ) → bits < 2 ^ have → n < 2 ^ width → bits + n * 2 ^ have < 2 ^ (have + width)
still_small width bits have n small fits =
    let h = mul-add-lt n (2 ^ have) bits (2 ^ width) fits small in
    let power = pow-add 2 have width in
    rw power (omega (arith, h))

-- 8 bits of more
eight_off : (have : ℕ) → 8 ≤ have → 2 ^ have ≡ 256 * 2 ^ (have - 8)
eight_off have enough =
    let sum : have ≡ 8 + (have - 8) = omega (arith, enough) in
    ap (λ (x : ℕ). 2 ^ x) sum ∙ pow-add 2 8 (have - 8)

pub fewer_left : (bits have : ℕ) → bits < 2 ^ have → bits / 256 < 2 ^ (have - 8)
fewer_left bits have small = by (cases_lt have 8)
  where
    by : (have < 8) ⊎ (8 ≤ have) → bits / 256 < 2 ^ (have - 8)
    by (inl less) =
        let most : have ≤ 8 = omega (arith, less) in
        let top : 2 ^ have ≤ 2 ^ 8 = pow-le-pow_right {n = 2} (lit< tt) most in
        let gone : bits / 256 ≡ 0 = div-eq_of_lt (omega (arith, small, top)) in
        let one = pow_pos (have - 8) in
        omega (arith, gone, one)
    by (inr enough) =
        let power = eight_off have enough in
        let turned = mul_comm (2 ^ (have - 8)) 256 in
        div_below bits 256 (2 ^ (have - 8)) (lit< tt) (omega (arith, small, power, turned))

-- a byte is taken off the bits, which the numbers that are left don't reach
pub byte_off : (bits have rest : ℕ) → (8 ≤ have) ⊎ (rest ≡ 0) →
    ((bits + 2 ^ have * rest) % 256 ≡ bits % 256) × ((bits + 2 ^ have * rest) / 256 ≡ bits / 256 + 2 ^ (have - 8) * rest)
byte_off bits have rest (inl enough) =
    let product : 2 ^ have * rest ≡ 256 * (2 ^ (have - 8) * rest) = ap (λ (x : ℕ). x * rest) (eight_off have enough) ∙ mul_assoc 256 (2 ^ (have - 8)) rest in (
      ap (λ (x : ℕ). (bits + x) % 256) product ∙ add-mul-mod_self_left bits 256 (2 ^ (have - 8) * rest),
      ap (λ (x : ℕ). (bits + x) / 256) product ∙ add-mul-div_left bits (2 ^ (have - 8) * rest) (lit< tt),
    )
byte_off bits have rest (inr none) =
    let low = mul-zero (2 ^ have) in
    let high = mul-zero (2 ^ (have - 8)) in
    let nothing : bits + 0 ≡ bits = omega arith in (
      rw (none, low, nothing) refl,
      rw (none, low, high, nothing) (omega arith),
    )

-- one more byte, in a loop over `xs`
pub byte_on : (len i old n rest : ℕ) (byte all : ℕ) (xs : List ℕ) → take i xs ++ unpacked 8 (len - i) old ≡ unpacked 8 len all → i < len → length xs ≡ len →
    n ≡ old → byte ≡ n % 256 → rest ≡ n / 256 → take (i + 1) (set xs i byte) ++ unpacked 8 (len - (i + 1)) rest ≡ unpacked 8 len all
byte_on len i old n rest byte all xs before less size same low high =
    ap (λ (x : ℕ). take (i + 1) (set xs i byte) ++ unpacked 8 (len - (i + 1)) x) (high ∙ ap (λ (x : ℕ). x / 256) same)
    ∙ taken_on 8 len i old all byte xs before less size (low ∙ ap (λ (x : ℕ). x % 256) same)

bytes_bits : (k : ℕ) → 256 ^ k ≡ 2 ^ (8 * k)
bytes_bits zero = refl
bytes_bits (suc k) =
    let one_more = mul-suc 8 k in
    let low = pow-suc 256 k in
    let power = pow-add 2 (8 * k) 8 in
    let same = bytes_bits k in
    rw (one_more, low, power, same) refl

-- a number of `width` bits in bytes
pub bytes_hold : (n width : ℕ) → n < 2 ^ width → n < 256 ^ ((width + 7) / 8)
bytes_hold n width fits =
    let most : width ≤ 8 * ((width + 7) / 8) = omega arith in
    let top : 2 ^ width ≤ 2 ^ (8 * ((width + 7) / 8)) = pow-le-pow_right {n = 2} (lit< tt) most in
    let same = bytes_bits ((width + 7) / 8) in
    omega (arith, fits, top, same)

-- a byte of a varint that says that more follow
pub varint_more : (most n : ℕ) → 1 ≤ most → 128 ≤ n → varint_bytes most n ≡ (128 + n % 128) ∷ varint_bytes (most - 1) (n / 128)
varint_more most n least more =
    let e : most ≡ suc (most - 1) = omega (arith, least) in
    let test = le-ltb n 128 more in
    ap (λ (k : ℕ). varint_bytes k n) e ∙ rw test refl
