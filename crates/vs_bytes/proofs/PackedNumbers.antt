-- Numbers packed into one number: parts of them, and back.
use Rattle.std.proofs.Common.{◌≡◌, ◌∙◌, refl, sym, ap, ℕ, zero, suc, ◌+◌, ◌-◌, ◌*◌, ◌/◌, ◌%◌, ◌^◌, ◌<◌, ◌≤◌, List, [], ◌∷◌, ◌++◌, length, take, drop, slice_index, arith}
use Rattle.std.proofs.Math.Nat.{div-add-mod, mul-suc, mul_comm, mul_assoc, mul-add, div-one, mod-one, zero-div, zero-mod, add-mul-mod_self_left, add-mul-div_left, div-eq_of_lt, mod-eq_of_lt}
use Rattle.std.proofs.Math.Pow.{mod-mod-pow}
use Rattle.std.proofs.lemmas.Nat.{pow_pos, pow-add, shr-shr, field_of, mod-pow-add}
use Rattle.byteorder.specs.Endian.{little_from, little_number}
use Rattle.byteorder.specs.Numbers.{little_from-cons}
use Rattle.vs_bytes.specs.PackedNumbers.{unpacked, packed, little}

-- Numbers that are taken off.

pub unpacked_len : (w k n : ℕ) → length (unpacked w k n) ≡ k
unpacked_len w zero n = refl
unpacked_len w (suc k) n = let e = unpacked_len w k (n / 2 ^ w) in omega (arith, e)

-- k numbers lie in the low w * k bits
pub unpacked_low : (w k m n : ℕ) → w * k ≤ m → unpacked w k (n % 2 ^ m) ≡ unpacked w k n
unpacked_low w zero m n h = refl
unpacked_low w (suc k) m n h =
    let product = mul-suc w k in
    let parts : m ≡ (m - w) + w = omega (arith, h, product) in
    let low : n % 2 ^ m % 2 ^ w ≡ n % 2 ^ w = ap (λ (x : ℕ). n % 2 ^ x % 2 ^ w) parts ∙ mod-mod-pow n (m - w) w in
    let high : n % 2 ^ m / 2 ^ w ≡ n / 2 ^ w % 2 ^ (m - w) = ap (λ (x : ℕ). n % 2 ^ x / 2 ^ w) parts ∙ field_of n (m - w) w in
    let rest = unpacked_low w k (m - w) (n / 2 ^ w) (omega (arith, h, product)) in
    rw (low, high, rest) refl

pub unpacked_split : (w j k n : ℕ) → unpacked w (j + k) n ≡ unpacked w j n ++ unpacked w k (n / 2 ^ (w * j))
unpacked_split w zero k n =
    let count : zero + k ≡ k = omega arith in
    let none : w * zero ≡ 0 = omega arith in
    rw (count, none, div-one n) refl
unpacked_split w (suc j) k n =
    let count : suc j + k ≡ suc (j + k) = omega arith in
    let product = mul-suc w j in
    let bits : w + w * j ≡ w * suc j = omega (arith, product) in
    rw count (ap (λ (xs : List ℕ). n % 2 ^ w ∷ xs) (unpacked_split w j k (n / 2 ^ w) ∙ ap (λ (x : ℕ). unpacked w j (n / 2 ^ w) ++ unpacked w k x) (shr-shr n w (w * j) ∙ ap (λ (x : ℕ). n / 2 ^ x) bits)))

pub take_unpacked : (w k count n : ℕ) → k ≤ count → take k (unpacked w count n) ≡ unpacked w k n
take_unpacked w zero count n h = refl
take_unpacked w (suc k) zero n h = absurd (omega (arith, h))
take_unpacked w (suc k) (suc count) n h = ap (λ (xs : List ℕ). n % 2 ^ w ∷ xs) (take_unpacked w k count (n / 2 ^ w) (omega (arith, h)))

-- Numbers that are packed. Each of them fits its bits.

module _ (w n ns : ℕ) (fits : n < 2 ^ w) where
  first_is : (n + 2 ^ w * ns) % 2 ^ w ≡ n
  first_is = add-mul-mod_self_left n (2 ^ w) ns ∙ mod-eq_of_lt fits

  rest_is : (n + 2 ^ w * ns) / 2 ^ w ≡ ns
  rest_is = add-mul-div_left n ns (pow_pos w) ∙ ap (λ (x : ℕ). x + ns) (div-eq_of_lt fits) ∙ omega arith

-- the first k numbers
pub packed_low : (w k : ℕ) (ns : List ℕ) → ((i : ℕ) → slice_index ns i < 2 ^ w) → packed w ns % 2 ^ (w * k) ≡ packed w (take k ns)
packed_low w zero ns fits =
    let none : w * zero ≡ 0 = omega arith in
    rw none (mod-one (packed w ns))
packed_low w (suc k) [] fits = zero-mod (2 ^ (w * suc k))
packed_low w (suc k) (n ∷ ns) fits =
    let product = mul-suc w k in
    let bits : w * suc k ≡ w * k + w = omega (arith, product) in
    let first = first_is w n (packed w ns) (fits 0) in
    let rest = rest_is w n (packed w ns) (fits 0) in
    let low = packed_low w k ns (λ i. fits (suc i)) in
    let turned = mul_comm (packed w (take k ns)) (2 ^ w) in
    rw (bits, mod-pow-add (n + 2 ^ w * packed w ns) (w * k) w, first, rest, low, turned) (omega arith)

-- the numbers after the first k
pub packed_high : (w k : ℕ) (ns : List ℕ) → ((i : ℕ) → slice_index ns i < 2 ^ w) → packed w ns / 2 ^ (w * k) ≡ packed w (drop k ns)
packed_high w zero ns fits =
    let none : w * zero ≡ 0 = omega arith in
    rw none (div-one (packed w ns))
packed_high w (suc k) [] fits = zero-div (2 ^ (w * suc k))
packed_high w (suc k) (n ∷ ns) fits =
    let product = mul-suc w k in
    let bits : w * suc k ≡ w + w * k = omega (arith, product) in
    let rest = rest_is w n (packed w ns) (fits 0) in
    ap (λ (x : ℕ). (n + 2 ^ w * packed w ns) / 2 ^ x) bits
    ∙ sym (shr-shr (n + 2 ^ w * packed w ns) w (w * k))
    ∙ ap (λ (x : ℕ). x / 2 ^ (w * k)) rest
    ∙ packed_high w k ns (λ i. fits (suc i))

-- what was packed
pub unpacked_packed : (w : ℕ) (ns : List ℕ) → ((i : ℕ) → slice_index ns i < 2 ^ w) → unpacked w (length ns) (packed w ns) ≡ ns
unpacked_packed w [] fits = refl
unpacked_packed w (n ∷ ns) fits =
    let first = first_is w n (packed w ns) (fits 0) in
    let rest = rest_is w n (packed w ns) (fits 0) in
    rw (first, rest) (ap (λ (xs : List ℕ). n ∷ xs) (unpacked_packed w ns (λ i. fits (suc i))))

pub packed_unpacked : (w k n : ℕ) → packed w (unpacked w k n) ≡ n % 2 ^ (w * k)
packed_unpacked w zero n =
    let none : w * zero ≡ 0 = omega arith in
    rw none (sym (mod-one n))
packed_unpacked w (suc k) n =
    let product = mul-suc w k in
    let bits : w * suc k ≡ w * k + w = omega (arith, product) in
    let rest = packed_unpacked w k (n / 2 ^ w) in
    let turned = mul_comm (n / 2 ^ w % 2 ^ (w * k)) (2 ^ w) in
    rw (rest, bits, mod-pow-add n (w * k) w, turned) (omega arith)

pub packed_append : (w : ℕ) (ms ns : List ℕ) → packed w (ms ++ ns) ≡ packed w ms + 2 ^ (w * length ms) * packed w ns
packed_append w [] ns =
    let none : w * 0 ≡ 0 = omega arith in
    let once : 2 ^ (w * 0) * packed w ns ≡ packed w ns = rw none (omega arith) in
    omega (arith, once)
packed_append w (m ∷ ms) ns =
    let product = mul-suc w (length ms) in
    let bits : w * suc (length ms) ≡ w + w * length ms = omega (arith, product) in
    let power = pow-add 2 w (w * length ms) in
    let sum = mul-add (2 ^ w) (packed w ms) (2 ^ (w * length ms) * packed w ns) in
    let turned = mul_assoc (2 ^ w) (2 ^ (w * length ms)) (packed w ns) in
    rw (packed_append w ms ns, bits, power) (omega (arith, sum, turned))

-- Bytes.

none_from : (i n : ℕ) → little_from i n [] ≡ 0
none_from i zero = refl
none_from i (suc n) = let e = none_from (suc i) n in omega (arith, e)

-- the number in the first n bytes
pub little_front : (n : ℕ) (bytes : List ℕ) → little_number n bytes ≡ little (take n bytes)
little_front zero bytes = refl
little_front (suc n) [] = none_from 0 (suc n)
little_front (suc n) (byte ∷ bytes) = ap (λ (x : ℕ). byte + 256 * x) (little_from-cons 0 n byte bytes ∙ little_front n bytes)

-- Fields of bits.

-- numbers that agree in the low m bits agree in fewer
pub fewer_bits : (a m n : ℕ) → n ≤ m → a % 2 ^ m % 2 ^ n ≡ a % 2 ^ n
fewer_bits a m n h =
    let parts : m ≡ (m - n) + n = omega (arith, h) in
    ap (λ (x : ℕ). a % 2 ^ x % 2 ^ n) parts ∙ mod-mod-pow a (m - n) n

-- a field within the low m bits
pub same_field : (a b m place width : ℕ) → a % 2 ^ m ≡ b % 2 ^ m → place + width ≤ m → a / 2 ^ place % 2 ^ width ≡ b / 2 ^ place % 2 ^ width
same_field a b m place width same h = sym (one_side a) ∙ ap (λ (x : ℕ). x / 2 ^ place % 2 ^ width) same ∙ one_side b
  where
    one_side : (n : ℕ) → n % 2 ^ m / 2 ^ place % 2 ^ width ≡ n / 2 ^ place % 2 ^ width
    one_side n =
        let parts : m ≡ (m - place) + place = omega (arith, h) in
        ap (λ (x : ℕ). n % 2 ^ x / 2 ^ place % 2 ^ width) parts
        ∙ ap (λ (x : ℕ). x % 2 ^ width) (field_of n (m - place) place)
        ∙ fewer_bits (n / 2 ^ place) (m - place) width (omega (arith, h))

-- a place in the bytes
pub place_is : (bytes : List ℕ) (place width : ℕ) → ((i : ℕ) → slice_index bytes i < 256) → little (drop (place / 8) bytes) / 2 ^ (place % 8) % 2 ^ width ≡ little bytes / 2 ^ place % 2 ^ width
place_is bytes place width small =
    ap (λ (x : ℕ). x / 2 ^ (place % 8) % 2 ^ width) (sym (packed_high 8 (place / 8) bytes small))
    ∙ ap (λ (x : ℕ). x % 2 ^ width) (shr-shr (little bytes) (8 * (place / 8)) (place % 8))
    ∙ ap (λ (x : ℕ). little bytes / 2 ^ x % 2 ^ width) (div-add-mod place 8)
