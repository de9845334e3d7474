-- How many bytes the parts of objects and arrays have.
use Rattle.std.proofs.Common.{◌≡◌, refl, ap, ℕ, zero, suc, ◌+◌, ◌*◌, ◌≤◌, max, Bool, true, false, cond, nat_lt, List, [], ◌∷◌, ◌++◌, length, length-append, arith}
use Rattle.std.proofs.lemmas.Bool.Decides.{nat_tests}
use Rattle.std.specs.List.{concat}
use Rattle.std.specs.Int.{bytes_low_first}
use Rattle.vs_bytes.specs.Numbers.{number_bytes, width_of}
use Rattle.variant_meta.specs.Written.{numbers, ends_from}
use Rattle.variant_write.specs.Layout.{is_large, count_bytes, packed, composed}

bytes_len : (i width n : ℕ) → length (bytes_low_first i width n) ≡ width
bytes_len i zero n = refl
bytes_len i (suc width) n = ap suc (bytes_len (suc i) width n)

pub number_len : (width n : ℕ) → length (number_bytes width n) ≡ width
number_len width n = bytes_len 0 width n

pub numbers_len : (width : ℕ) (ns : List ℕ) → length (numbers width ns) ≡ length ns * width
numbers_len width [] = omega arith
numbers_len width (n ∷ ns) = omega (arith, length-append (number_bytes width n) (numbers width ns), number_len width n, numbers_len width ns)

pub ends_len : (start : ℕ) (items : List (List ℕ)) → length (ends_from start items) ≡ length items
ends_len start [] = refl
ends_len start (item ∷ items) = omega (arith, ends_len (start + length item) items)

pub width_most : (n : ℕ) → width_of n ≤ 4
unfolding width_of
width_most n = by (nat_lt n 256) (nat_lt n 65536) (nat_lt n 16777216)
  where
    by : (a b c : Bool) → cond a 1 (cond b 2 (cond c 3 4)) ≤ 4
    by true b c = omega arith
    by false true c = omega arith
    by false false true = omega arith
    by false false false = omega arith

-- the bytes of a count, where each item is given 6
pub count_most : (count : ℕ) → length (count_bytes count) ≤ 1 + 2 * count
unfolding is_large count_bytes
count_most count = by (nat_lt 255 count) refl
  where
    by : (b : Bool) → nat_lt 255 count ≡ b → length (cond b (number_bytes 4 count) (number_bytes 1 count)) ≤ 1 + 2 * count
    by true e = grind (arith, nat_tests, number_len 4 count)
    by false e = omega (arith, number_len 1 count)

times_four : (n width : ℕ) → width ≤ 4 → n * width ≤ n * 4
times_four zero width h = omega arith
times_four (suc n) width h = omega (arith, times_four n width h)

pub numbers_most : (width : ℕ) (ns : List ℕ) → width ≤ 4 → length (numbers width ns) ≤ 4 * length ns
numbers_most width ns h = omega (arith, numbers_len width ns, times_four (length ns) width h)

pub packed_len : (is : Bool) (offset_size id_size : ℕ) (ids ends items : List ℕ) → length (packed is offset_size id_size ids ends items) ≡ 1 + (length (count_bytes (length ends)) + (length (numbers id_size ids) + (length (numbers offset_size (0 ∷ ends)) + length items)))
unfolding packed
packed_len is offset_size id_size ids ends items =
    omega (arith, length-append (count_bytes (length ends)) (numbers id_size ids ++ (numbers offset_size (0 ∷ ends) ++ items)), length-append (numbers id_size ids) (numbers offset_size (0 ∷ ends) ++ items), length-append (numbers offset_size (0 ∷ ends)) items)

pub composed_most : (is : Bool) (least id_size : ℕ) (ids : List ℕ) (items : List (List ℕ)) → least ≤ 4 → id_size ≤ 4 → length (composed is least id_size ids items) ≤ 6 + (6 * length items + (4 * length ids + length (concat items)))
unfolding composed
composed_most is least id_size ids items low few =
    let size : ℕ = max least (width_of (length (concat items))) in
    let four : size ≤ 4 = omega (arith, width_most (length (concat items))) in
    sum (length items) (length (count_bytes (length (ends_from 0 items)))) (length (ends_from 0 items)) (length (numbers id_size ids)) (length (numbers size (0 ∷ ends_from 0 items))) (length ids) (length (concat items))
    (length (packed is size id_size ids (ends_from 0 items) (concat items)))
    (packed_len is size id_size ids (ends_from 0 items) (concat items)) (count_most (length (ends_from 0 items))) (ends_len 0 items) (numbers_most id_size ids few) (numbers_most size (0 ∷ ends_from 0 items) four)
  where
    sum : (n c e i o k v all : ℕ) → all ≡ 1 + (c + (i + (o + v))) → c ≤ 1 + 2 * e → e ≡ n → i ≤ 4 * k → o ≤ 4 * suc e → all ≤ 6 + (6 * n + (4 * k + v))
    sum n c e i o k v all a b d f g = omega arith
