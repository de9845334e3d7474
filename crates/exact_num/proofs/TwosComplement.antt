-- Two's complement, and the two orders of bytes.
use Rattle.std.proofs.Common.{◌≡◌, ◌∙◌, refl, sym, ap, ℕ, zero, suc, ◌+◌, ◌-◌, ◌*◌, ◌%◌, ◌^◌, ◌<◌, ◌≤◌, ℤ, pos, negsuc, ◌-ℤ◌, List, [], ◌∷◌, ◌++◌, length, take, drop, reverse, slice_index, arith, pow-suc, mod-eq_of_lt, suc-mul, mul_assoc, subst, get_or-drop}
use Rattle.std.proofs.lemmas.Nat.{pow-add}
use Rattle.std.proofs.Math.Nat.{one-le-pow, mul-add-mod_self_right}
use Rattle.std.proofs.lemmas.Bool.{le-ltb, lt-ltb}
use Rattle.std.proofs.lemmas.Int.{ints}
use Rattle.std.proofs.lemmas.List.{reverse-append, length-reverse, length-take-le, length-drop}
use Rattle.std.proofs.Math.Seq.{take-append_seam}
use Rattle.std.specs.Int.{byte_at, bytes_low_first, bytes_high_first, w128}
use Rattle.byteorder.specs.Endian.{twos_complement, low_bytes, little_from, big_from, little_number, big_number, little_bytes, big_bytes}
use Rattle.byteorder.specs.Numbers.{little_from-cons, big_from-cons, big_from-take, big_from-lt, little_number-reads_back, length-bytes_low_first, length-bytes_high_first}
use Rattle.vs_bytes.specs.Numbers.{number}
use Rattle.vs_bytes.proofs.Numbers.{number_fits}
use Rattle.exact_num.specs.Unscaled.{half, signed_number, unsigned_number, FitsBytes, little_integer, big_integer, little_integer_bytes, big_integer_bytes}

-- Powers of 256.

pub bits_of_bytes : (w : ℕ) → 2 ^ (8 * w) ≡ 256 ^ w
bits_of_bytes zero = refl
bits_of_bytes (suc w) =
    let step : 8 * suc w ≡ 8 * w + 8 = omega arith in
    ap (λ (k : ℕ). 2 ^ k) step ∙ pow-add 2 (8 * w) 8 ∙ ap (λ (n : ℕ). n * 256) (bits_of_bytes w) ∙ sym (pow-suc 256 w)

-- half of all numbers of `w` bytes, twice
pub two_halves : (w : ℕ) → 1 ≤ w → 256 ^ w ≡ half w + half w
unfolding half
two_halves zero h = absurd (omega (arith, h))
two_halves (suc w) h = let e = pow-suc 256 w in omega (arith, e)

-- the bit of the sign
pub sign_bit : (w : ℕ) → 1 ≤ w → 2 ^ (8 * w - 1) ≡ half w
unfolding half
sign_bit zero h = absurd (omega (arith, h))
sign_bit (suc w) h =
    let step : 8 * suc w - 1 ≡ 8 * w + 7 = omega arith in
    let split : 2 ^ (8 * suc w - 1) ≡ 256 ^ w * 128 = ap (λ (k : ℕ). 2 ^ k) step ∙ pow-add 2 (8 * w) 7 ∙ ap (λ (n : ℕ). n * 128) (bits_of_bytes w) in
    let e = pow-suc 256 w in
    omega (arith, split, e)

-- Reading.

below_zero : (n m : ℕ) → n < m → pos n -ℤ pos m ≡ negsuc (m - 1 - n)
below_zero n m h = omega (arith, ints)

pub as_signed : (w n : ℕ) → 1 ≤ w → n < 256 ^ w → twos_complement w n ≡ signed_number w n
unfolding signed_number
as_signed w n least fits =
    rw (bits_of_bytes w, sign_bit w least, below_zero n (256 ^ w) fits) refl

pub read_little : (bytes : List ℕ) (at w : ℕ) → 1 ≤ w → ((k : ℕ) → slice_index bytes k < 256) → twos_complement w (little_number w (drop at bytes)) ≡ little_integer bytes at w
read_little bytes at w least small = as_signed w (number bytes at w) least (number_fits bytes at w small)

-- Written and read back.

pub number_back : (w : ℕ) (z : ℤ) → 1 ≤ w → FitsBytes w z → signed_number w (unsigned_number w z) ≡ z
unfolding signed_number unsigned_number
number_back w (pos n) least fits = rw (lt-ltb n (half w) fits) refl
number_back w (negsuc n) least fits =
    let twice = two_halves w least in
    let high : half w ≤ 256 ^ w - 1 - n = omega (arith, twice, fits) in
    let back : 256 ^ w - 1 - (256 ^ w - 1 - n) ≡ n = omega (arith, twice, fits) in
    rw (le-ltb (256 ^ w - 1 - n) (half w) high, back) refl

pub number_small : (w : ℕ) (z : ℤ) → 1 ≤ w → FitsBytes w z → unsigned_number w z < 256 ^ w
unfolding unsigned_number
number_small w (pos n) least fits = let twice = two_halves w least in omega (arith, twice, fits)
number_small w (negsuc n) least fits = let twice = two_halves w least in omega (arith, twice, fits)

pub integer_back : (w : ℕ) (z : ℤ) (rest : List ℕ) → 1 ≤ w → FitsBytes w z → little_integer (little_integer_bytes w z ++ rest) 0 w ≡ z
integer_back w z rest least fits =
    ap (signed_number w) (little_number-reads_back w (unsigned_number w z) rest (number_small w z least fits)) ∙ number_back w z least fits

-- Writing.

-- what is left above a multiple of p, m less than the next one
wrapped : (q p m : ℕ) → 0 < m → m ≤ p → (suc q * p - m) % p ≡ p - m
wrapped q p m low high =
    let step : suc q * p - m ≡ q * p + (p - m) = (let e = suc-mul q p in omega (arith, e, high)) in
    ap (λ (n : ℕ). n % p) step ∙ mul-add-mod_self_right q p (p - m) ∙ mod-eq_of_lt (omega (arith, low, high))

-- 2 ^ 128 is a multiple
multiple : (w : ℕ) → w ≤ 16 → 2 ^ 128 ≡ suc (2 ^ (128 - 8 * w) - 1) * 256 ^ w
multiple w most =
    let parts : 128 - 8 * w + 8 * w ≡ 128 = omega (arith, most) in
    let some = one-le-pow (128 - 8 * w) 2 (omega arith) in
    let back : suc (2 ^ (128 - 8 * w) - 1) ≡ 2 ^ (128 - 8 * w) = omega (arith, some) in
    ap (λ (k : ℕ). 2 ^ k) (sym parts) ∙ pow-add 2 (128 - 8 * w) (8 * w)
    ∙ ap (λ (n : ℕ). 2 ^ (128 - 8 * w) * n) (bits_of_bytes w) ∙ ap (λ (n : ℕ). n * 256 ^ w) (sym back)

pub low_number : (w : ℕ) (z : ℤ) → 1 ≤ w → w ≤ 16 → FitsBytes w z → low_bytes w128 w z ≡ unsigned_number w z
unfolding unsigned_number
low_number w (pos n) least most fits =
    let twice = two_halves w least in
    rw (bits_of_bytes w) (mod-eq_of_lt (omega (arith, twice, fits)))
low_number w (negsuc n) least most fits =
    let twice = two_halves w least in
    let whole : 2 ^ 128 - suc n ≡ suc (2 ^ (128 - 8 * w) - 1) * 256 ^ w - suc n = ap (λ (m : ℕ). m - suc n) (multiple w most) in
    let same : 256 ^ w - suc n ≡ 256 ^ w - 1 - n = omega arith in
    rw (bits_of_bytes w, whole) (wrapped (2 ^ (128 - 8 * w) - 1) (256 ^ w) (suc n) (omega arith) (omega (arith, twice, fits)) ∙ same)

-- The bytes in reverse order.

-- the last byte counts most
little_end : (xs : List ℕ) (x : ℕ) → little_from 0 (suc (length xs)) (xs ++ x ∷ []) ≡ little_from 0 (length xs) xs + x * 256 ^ length xs
little_end [] x = omega arith
little_end (y ∷ ys) x =
    let moved = little_from-cons 0 (suc (length ys)) y (ys ++ x ∷ []) in
    let own = little_from-cons 0 (length ys) y ys in
    let ih = little_end ys x in
    let factor : x * 256 ^ suc (length ys) ≡ x * 256 ^ length ys * 256 = ap (λ (n : ℕ). x * n) (pow-suc 256 (length ys)) ∙ sym (mul_assoc x (256 ^ length ys) 256) in
    omega (arith, moved, own, ih, factor)

pub big_reversed : (xs : List ℕ) → big_from 0 (length xs) xs ≡ little_from 0 (length xs) (reverse xs)
big_reversed [] = refl
big_reversed (x ∷ xs) =
    let moved = big_from-cons 0 (length xs) x xs in
    let ih = big_reversed xs in
    let turned : reverse (x ∷ xs) ≡ reverse xs ++ x ∷ [] = reverse-append (x ∷ []) xs in
    let len : length (reverse xs) ≡ length xs = length-reverse xs in
    let last : little_from 0 (suc (length xs)) (reverse xs ++ x ∷ []) ≡ little_from 0 (length xs) (reverse xs) + x * 256 ^ length xs = rw (sym len) (little_end (reverse xs) x) in
    rw (turned, last) (omega (arith, moved, ih))

pub read_big : (bytes : List ℕ) (at w : ℕ) → 1 ≤ w → at + w ≤ length bytes → ((k : ℕ) → slice_index bytes k < 256) → twos_complement w (big_number w (drop at bytes)) ≡ big_integer bytes at w
read_big bytes at w least inside small =
    let room : w ≤ length (drop at bytes) = (let e = length-drop at bytes in omega (arith, e, inside)) in
    let len : length (take w (drop at bytes)) ≡ w = length-take-le w (drop at bytes) room in
    let turned : big_from 0 w (take w (drop at bytes)) ≡ little_from 0 w (reverse (take w (drop at bytes))) =
    subst (λ (n : ℕ). big_from 0 n (take w (drop at bytes)) ≡ little_from 0 n (reverse (take w (drop at bytes)))) len (big_reversed (take w (drop at bytes))) in
    let fits : big_from 0 w (drop at bytes) < 256 ^ w = big_from-lt 0 w (drop at bytes) (λ k. rw (get_or-drop at bytes k 0) (small (at + k))) in
    as_signed w (big_from 0 w (drop at bytes)) least fits
    ∙ ap (signed_number w) (sym (big_from-take 0 w w (drop at bytes) (omega arith)) ∙ turned)

-- the last byte of some
low_end : (i k x : ℕ) → bytes_low_first i (suc k) x ≡ bytes_low_first i k x ++ byte_at (i + k) x ∷ []
low_end i zero x = let e : i + zero ≡ i = omega arith in rw e refl
low_end i (suc k) x =
    let e : i + suc k ≡ suc i + k = omega arith in
    rw e (ap (λ (xs : List ℕ). byte_at i x ∷ xs) (low_end (suc i) k x))

pub high_first : (n x : ℕ) → bytes_high_first n x ≡ reverse (bytes_low_first 0 n x)
high_first zero x = refl
high_first (suc n) x =
    let last : reverse (bytes_low_first 0 (suc n) x) ≡ byte_at (0 + n) x ∷ reverse (bytes_low_first 0 n x) =
    ap reverse (low_end 0 n x) ∙ reverse-append (bytes_low_first 0 n x) (byte_at (0 + n) x ∷ []) in
    let e : 0 + n ≡ n = omega arith in
    rw (last, e, high_first n x) refl

-- What is written.

pub low_taken : (w : ℕ) (y z : ℤ) (buf rest : List ℕ) → 1 ≤ w → w ≤ 16 → FitsBytes w z → y ≡ z → buf ≡ little_bytes w (low_bytes w128 w y) ++ rest → take w buf ≡ little_integer_bytes w z
low_taken w y z buf rest least most fits same e =
    let len = length-bytes_low_first 0 w (low_bytes w128 w y) in
    let front : take w (little_bytes w (low_bytes w128 w y) ++ rest) ≡ little_bytes w (low_bytes w128 w y) =
    subst (λ (n : ℕ). take n (little_bytes w (low_bytes w128 w y) ++ rest) ≡ little_bytes w (low_bytes w128 w y)) len (take-append_seam (little_bytes w (low_bytes w128 w y)) rest) in
    ap (λ (xs : List ℕ). take w xs) e ∙ front ∙ ap (λ (v : ℤ). little_bytes w (low_bytes w128 w v)) same ∙ ap (λ (n : ℕ). little_bytes w n) (low_number w z least most fits)

pub high_taken : (w : ℕ) (y z : ℤ) (buf rest : List ℕ) → 1 ≤ w → w ≤ 16 → FitsBytes w z → y ≡ z → buf ≡ big_bytes w (low_bytes w128 w y) ++ rest → take w buf ≡ big_integer_bytes w z
high_taken w y z buf rest least most fits same e =
    let len = length-bytes_high_first w (low_bytes w128 w y) in
    let front : take w (big_bytes w (low_bytes w128 w y) ++ rest) ≡ big_bytes w (low_bytes w128 w y) =
    subst (λ (n : ℕ). take n (big_bytes w (low_bytes w128 w y) ++ rest) ≡ big_bytes w (low_bytes w128 w y)) len (take-append_seam (big_bytes w (low_bytes w128 w y)) rest) in
    ap (λ (xs : List ℕ). take w xs) e ∙ front ∙ ap (λ (v : ℤ). big_bytes w (low_bytes w128 w v)) same ∙ high_first w (low_bytes w128 w z) ∙ ap (λ (n : ℕ). reverse (little_bytes w n)) (low_number w z least most fits)
