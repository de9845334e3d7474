-- Numbers of one width, one after the other, read back.
use Rattle.std.proofs.Common.{◌≡◌, refl, sym, ap, subst, ℕ, zero, suc, ◌+◌, ◌*◌, ◌^◌, ◌<◌, List, [], ◌∷◌, ◌++◌, length, drop, get_or, arith, append_assoc, zero-mul, suc-mul}
use Rattle.std.specs.List.{AllByRecursion, concat}
use Rattle.std.proofs.Math.Seq.{drop-append-add}
use Rattle.std.proofs.lemmas.List.{length-append}
use Rattle.byteorder.specs.Endian.{little_number}
use Rattle.byteorder.specs.Numbers.{little_number-reads_back, length-bytes_low_first}
use Rattle.vs_bytes.specs.Numbers.{number_bytes}
use Rattle.variant_meta.specs.Written.{ends_from, numbers}

pub number_len : (w n : ℕ) → length (number_bytes w n) ≡ w
number_len w n = length-bytes_low_first 0 w n

pub numbers_len : (w : ℕ) (ns : List ℕ) → length (numbers w ns) ≡ length ns * w
numbers_len w [] = sym (zero-mul w)
numbers_len w (n ∷ ns) =
    let parts = length-append (number_bytes w n) (numbers w ns) in
    let own = number_len w n in
    let ih = numbers_len w ns in
    let step = suc-mul (length ns) w in
    omega (arith, parts, own, ih, step)

-- past one number
pub past_number : (w n k : ℕ) (tail : List ℕ) → drop (w + k) (number_bytes w n ++ tail) ≡ drop k tail
past_number w n k tail =
    subst (λ (m : ℕ). drop (m + k) (number_bytes w n ++ tail) ≡ drop k tail) (number_len w n) (drop-append-add (number_bytes w n) tail k)

-- past all numbers
pub past_numbers : (w : ℕ) (ns : List ℕ) (k : ℕ) (tail : List ℕ) → drop (length ns * w + k) (numbers w ns ++ tail) ≡ drop k tail
past_numbers w ns k tail =
    subst (λ (m : ℕ). drop (m + k) (numbers w ns ++ tail) ≡ drop k tail) (numbers_len w ns) (drop-append-add (numbers w ns) tail k)

pub number_in : (w : ℕ) (ns : List ℕ) (k : ℕ) (tail : List ℕ) → AllByRecursion (λ n. n < 256 ^ w) ns → k < length ns → little_number w (drop (k * w) (numbers w ns ++ tail)) ≡ get_or ns k 0
number_in w [] k tail fit h = absurd (omega (arith, h))
number_in w (n ∷ ns) zero tail fit h =
    rw (zero-mul w, append_assoc (number_bytes w n) (numbers w ns) tail) (little_number-reads_back w n (numbers w ns ++ tail) fit.0)
number_in w (n ∷ ns) (suc k) tail fit h =
    let e : suc k * w ≡ w + k * w = (let m = suc-mul k w in omega (arith, m)) in
    rw (e, append_assoc (number_bytes w n) (numbers w ns) tail, past_number w n (k * w) (numbers w ns ++ tail))
    (number_in w ns k tail fit.1 (omega (arith, h)))

-- The ends of items.

pub ends_len : (s : ℕ) (items : List (List ℕ)) → length (ends_from s items) ≡ length items
ends_len s [] = refl
ends_len s (item ∷ items) = ap suc (ends_len (s + length item) items)

-- the last end
pub ends_last : (s : ℕ) (items : List (List ℕ)) → get_or (s ∷ ends_from s items) (length items) 0 ≡ s + length (concat items)
ends_last s [] = omega arith
ends_last s (item ∷ items) =
    let ih = ends_last (s + length item) items in
    let parts = length-append item (concat items) in
    omega (arith, ih, parts)

pub ends_fit : (w s : ℕ) (items : List (List ℕ)) → s + length (concat items) < 256 ^ w → AllByRecursion (λ n. n < 256 ^ w) (ends_from s items)
ends_fit w s [] h = tt
ends_fit w s (item ∷ items) h =
    let parts = length-append item (concat items) in
    (omega (arith, parts, h), ends_fit w (s + length item) items (omega (arith, parts, h)))
