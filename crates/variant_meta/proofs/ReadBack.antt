-- The metadata that is written, read back.
use Rattle.std.proofs.Common.{◌≡◌, ◌∙◌, refl, sym, ap, subst, ℕ, zero, suc, ◌+◌, ◌-◌, ◌*◌, ◌/◌, ◌%◌, ◌^◌, ◌<◌, ◌≤◌, ◌==◌, nat_lt, List, [], ◌∷◌, ◌++◌, length, take, drop, get_or, true, false, Ok, arith, append_assoc, zero-mul, suc-mul}
use Rattle.std.specs.List.{AllByRecursion, concat, list_all}
use Rattle.std.specs.Str.{is_utf8}
use Rattle.std.proofs.Math.Seq.{drop-append-add, take-append_seam}
use Rattle.std.proofs.lemmas.Bool.{le-ltb}
use Rattle.std.proofs.lemmas.Bool.Decides.{nat_tests}
use Rattle.std.proofs.lemmas.List.{length-append}
use Rattle.byteorder.specs.Endian.{little_number}
use Rattle.byteorder.specs.Numbers.{little_number-reads_back, length-bytes_low_first}
use Rattle.vs_bytes.specs.Numbers.{number_bytes}
use Rattle.variant_meta.specs.Metadata.{header, version, sorted_strings, offset_size, dictionary_size, offset, last_offset, names_start, name, names_from, all_names, falls_from, offsets_fall, names}
use Rattle.variant_meta.specs.Names.{name_at, names_rise}
use Rattle.variant_meta.specs.Written.{ends_from, numbers, written_header, metadata_of}
use Rattle.variant_meta.proofs.Places.{drop_name, drop_all}

-- Numbers one after the other.

numbers_len : (w : ℕ) (ns : List ℕ) → length (numbers w ns) ≡ length ns * w
numbers_len w [] = sym (zero-mul w)
numbers_len w (n ∷ ns) =
    let parts = length-append (number_bytes w n) (numbers w ns) in
    let own : length (number_bytes w n) ≡ w = length-bytes_low_first 0 w n in
    let ih = numbers_len w ns in
    let step = suc-mul (length ns) w in
    omega (arith, parts, own, ih, step)

-- past one number
past_number : (w n k : ℕ) (tail : List ℕ) → drop (w + k) (number_bytes w n ++ tail) ≡ drop k tail
past_number w n k tail =
    subst (λ (m : ℕ). drop (m + k) (number_bytes w n ++ tail) ≡ drop k tail) (length-bytes_low_first 0 w n) (drop-append-add (number_bytes w n) tail k)

number_in : (w : ℕ) (ns : List ℕ) (k : ℕ) (tail : List ℕ) → AllByRecursion (λ n. n < 256 ^ w) ns → k < length ns → little_number w (drop (k * w) (numbers w ns ++ tail)) ≡ get_or ns k 0
number_in w [] k tail fit h = absurd (omega (arith, h))
number_in w (n ∷ ns) zero tail fit h =
    rw (zero-mul w, append_assoc (number_bytes w n) (numbers w ns) tail) (little_number-reads_back w n (numbers w ns ++ tail) fit.0)
number_in w (n ∷ ns) (suc k) tail fit h =
    let e : suc k * w ≡ w + k * w = (let m = suc-mul k w in omega (arith, m)) in
    rw (e, append_assoc (number_bytes w n) (numbers w ns) tail, past_number w n (k * w) (numbers w ns ++ tail))
    (number_in w ns k tail fit.1 (omega (arith, h)))

-- The ends of names.

ends_len : (s : ℕ) (ns : List (List ℕ)) → length (ends_from s ns) ≡ length ns
ends_len s [] = refl
ends_len s (name ∷ ns) = ap suc (ends_len (s + length name) ns)

-- where name i begins
begins : (s : ℕ) (ns : List (List ℕ)) (i : ℕ) → i ≤ length ns → get_or (s ∷ ends_from s ns) i 0 ≡ s + length (concat (take i ns))
begins s [] zero h = omega arith
begins s [] (suc i) h = absurd (omega (arith, h))
begins s (name ∷ ns) zero h = omega arith
begins s (name ∷ ns) (suc i) h =
    let ih = begins (s + length name) ns i (omega (arith, h)) in
    let parts = length-append name (concat (take i ns)) in
    omega (arith, ih, parts)

ends_fit : (w s : ℕ) (ns : List (List ℕ)) → s + length (concat ns) < 256 ^ w → AllByRecursion (λ n. n < 256 ^ w) (ends_from s ns)
ends_fit w s [] h = tt
ends_fit w s (name ∷ ns) h =
    let parts = length-append name (concat ns) in
    (omega (arith, parts, h), ends_fit w (s + length name) ns (omega (arith, parts, h)))

-- one name more
one_more : (ns : List (List ℕ)) (i : ℕ) → i < length ns → length (concat (take (suc i) ns)) ≡ length (concat (take i ns)) + length (name_at ns i)
one_more [] i h = absurd (omega (arith, h))
one_more (name ∷ ns) zero h = let parts = length-append name [] in omega (arith, parts)
one_more (name ∷ ns) (suc i) h =
    let ih = one_more ns i (omega (arith, h)) in
    let left = length-append name (concat (take (suc i) ns)) in
    let right = length-append name (concat (take i ns)) in
    omega (arith, ih, left, right)

take_whole : (ns : List (List ℕ)) → take (length ns) ns ≡ ns
take_whole [] = refl
take_whole (name ∷ ns) = ap (λ (xs : List (List ℕ)). name ∷ xs) (take_whole ns)

-- the bytes of name i
named : (ns : List (List ℕ)) (i : ℕ) (rest : List ℕ) → i < length ns → take (length (name_at ns i)) (drop (length (concat (take i ns))) (concat ns ++ rest)) ≡ name_at ns i
named [] i rest h = absurd (omega (arith, h))
named (name ∷ ns) zero rest h = rw (append_assoc name (concat ns) rest) (take-append_seam name (concat ns ++ rest))
named (name ∷ ns) (suc i) rest h =
    rw (length-append name (concat (take i ns)), append_assoc name (concat ns) rest, drop-append-add name (concat ns ++ rest) (length (concat (take i ns))))
    (named ns i rest (omega (arith, h)))

-- The parts of what is written.

-- size, 0 and the ends: all numbers of the metadata
abbrev fields : List (List ℕ) → List ℕ
fields ns = length ns ∷ (0 ∷ ends_from 0 ns)

abbrev laid_out : ℕ → List (List ℕ) → List ℕ → List ℕ
laid_out w ns rest = written_header w ∷ (numbers w (fields ns) ++ (concat ns ++ rest))

-- what the numbers need
record Fits (w : ℕ) (ns : List (List ℕ)) : Type 0 where
  least : 1 ≤ w
  most : w ≤ 4
  count : length ns < 256 ^ w
  bytes : length (concat ns) < 256 ^ w

laid : (w : ℕ) (ns : List (List ℕ)) (rest : List ℕ) → metadata_of w ns ++ rest ≡ laid_out w ns rest
unfolding metadata_of
laid w ns rest = simp append_assoc

fields_fit : (w : ℕ) (ns : List (List ℕ)) → Fits w ns → AllByRecursion (λ n. n < 256 ^ w) (fields ns)
fields_fit w ns fits = (fits.count, (let b = fits.bytes in omega (arith, b), ends_fit w 0 ns (let b = fits.bytes in omega (arith, b))))

size_is : (w : ℕ) (ns : List (List ℕ)) (rest : List ℕ) → 1 ≤ w → offset_size (laid_out w ns rest) ≡ w
unfolding offset_size header written_header
size_is w ns rest least = omega (arith, least)

version_is : (w : ℕ) (ns : List (List ℕ)) (rest : List ℕ) → version (laid_out w ns rest) ≡ 1
unfolding version header written_header
version_is w ns rest = omega arith

sorted_is : (w : ℕ) (ns : List (List ℕ)) (rest : List ℕ) → sorted_strings (laid_out w ns rest) ≡ true
unfolding sorted_strings header written_header
sorted_is w ns rest =
    let bit : (1 + 16 + 64 * (w - 1)) / 16 % 2 ≡ 1 = omega arith in
    rw bit refl

count_is : (w : ℕ) (ns : List (List ℕ)) (rest : List ℕ) → Fits w ns → dictionary_size (laid_out w ns rest) ≡ length ns
unfolding dictionary_size
count_is w ns rest fits =
    let zero_places : 0 * w ≡ 0 = zero-mul w in
    let at = number_in w (fields ns) 0 (concat ns ++ rest) (fields_fit w ns fits) (omega arith) in
    rw (size_is w ns rest fits.least) (subst (λ (k : ℕ). little_number w (drop k (numbers w (fields ns) ++ (concat ns ++ rest))) ≡ length ns) zero_places at)

offset_is : (w : ℕ) (ns : List (List ℕ)) (rest : List ℕ) (i : ℕ) → Fits w ns → i ≤ length ns → offset (laid_out w ns rest) i ≡ length (concat (take i ns))
unfolding offset
offset_is w ns rest i fits h =
    let place : 1 + (i + 1) * w ≡ suc (suc i * w) = (let one : i + 1 ≡ suc i = omega arith in ap (λ (k : ℕ). 1 + k * w) one ∙ omega arith) in
    let inside : suc i < length (fields ns) = (let e = ends_len 0 ns in omega (arith, e, h)) in
    rw (size_is w ns rest fits.least, place)
    (number_in w (fields ns) (suc i) (concat ns ++ rest) (fields_fit w ns fits) inside ∙ begins 0 ns i h ∙ omega arith)

start_is : (w : ℕ) (ns : List (List ℕ)) (rest : List ℕ) → Fits w ns → names_start (laid_out w ns rest) ≡ suc (length (numbers w (fields ns)))
unfolding names_start
start_is w ns rest fits =
    let all = numbers_len w (fields ns) in
    let ends = ends_len 0 ns in
    let two : length (fields ns) ≡ length ns + 2 = omega (arith, ends) in
    rw (size_is w ns rest fits.least, count_is w ns rest fits, all, two) (omega arith)

last_is : (w : ℕ) (ns : List (List ℕ)) (rest : List ℕ) → Fits w ns → last_offset (laid_out w ns rest) ≡ length (concat ns)
unfolding last_offset
last_is w ns rest fits =
    rw (count_is w ns rest fits) (offset_is w ns rest (length ns) fits (omega arith) ∙ ap (λ (xs : List (List ℕ)). length (concat xs)) (take_whole ns))

name_is : (w : ℕ) (ns : List (List ℕ)) (rest : List ℕ) (i : ℕ) → Fits w ns → i < length ns → name (laid_out w ns rest) i ≡ name_at ns i
unfolding name
name_is w ns rest i fits h =
    let next : i + 1 ≡ suc i = omega arith in
    let len : length (concat (take (suc i) ns)) - length (concat (take i ns)) ≡ length (name_at ns i) = (let e = one_more ns i h in omega (arith, e)) in
    let place : suc (length (numbers w (fields ns))) + length (concat (take i ns)) ≡ suc (length (numbers w (fields ns)) + length (concat (take i ns))) = omega arith in
    rw (
      next,
      start_is w ns rest fits,
      offset_is w ns rest i fits (omega (arith, h)),
      offset_is w ns rest (suc i) fits (omega (arith, h)),
      len,
      place,
      drop-append-add (numbers w (fields ns)) (concat ns ++ rest) (length (concat (take i ns))),
    )
    (named ns i rest h)

-- the names from name i on
names_are : (w : ℕ) (ns : List (List ℕ)) (rest : List ℕ) (i n : ℕ) → Fits w ns → i + n ≡ length ns → names_from (laid_out w ns rest) i n ≡ drop i ns
unfolding names_from
names_are w ns rest i zero fits e = let all : i ≡ length ns = omega (arith, e) in rw all (sym (drop_all ns))
names_are w ns rest i (suc n) fits e =
    rw (name_is w ns rest i fits (omega (arith, e)), names_are w ns rest (i + 1) n fits (omega (arith, e))) (sym (drop_name ns i (omega (arith, e))))

all_are : (w : ℕ) (ns : List (List ℕ)) (rest : List ℕ) → Fits w ns → all_names (laid_out w ns rest) ≡ ns
unfolding all_names
all_are w ns rest fits = rw (count_is w ns rest fits) (names_are w ns rest 0 (length ns) fits (omega arith))

-- offsets that rise step by step don't fall
no_fall : (bytes : List ℕ) (i n : ℕ) → ((j : ℕ) → i ≤ j → j < i + n → offset bytes j ≤ offset bytes (j + 1)) → falls_from bytes i n ≡ false
unfolding falls_from
no_fall bytes i zero h = refl
no_fall bytes i (suc n) h =
    rw (le-ltb (offset bytes (i + 1)) (offset bytes i) (h i (omega arith) (omega arith))) (no_fall bytes (i + 1) n (λ j low high. h j (omega (arith, low)) (omega (arith, high))))

falls_not : (w : ℕ) (ns : List (List ℕ)) (rest : List ℕ) → Fits w ns → offsets_fall (laid_out w ns rest) ≡ false
unfolding offsets_fall
falls_not w ns rest fits =
    let first : offset (laid_out w ns rest) 0 ≡ 0 = offset_is w ns rest 0 fits (omega arith) in
    rw (first, count_is w ns rest fits) (no_fall (laid_out w ns rest) 0 (length ns) rises)
  where
    rises : (j : ℕ) → 0 ≤ j → j < 0 + length ns → offset (laid_out w ns rest) j ≤ offset (laid_out w ns rest) (j + 1)
    rises j low high =
        let at = offset_is w ns rest j fits (omega (arith, high)) in
        let next : offset (laid_out w ns rest) (j + 1) ≡ length (concat (take (suc j) ns)) = (let one : j + 1 ≡ suc j = omega arith in rw one (offset_is w ns rest (suc j) fits (omega (arith, high)))) in
        let more = one_more ns j (omega (arith, high)) in
        omega (arith, at, next, more)

-- The whole.

positive : (n : ℕ) → 0 < n → (n == 0) ≡ false
positive n h = grind (arith, nat_tests)

pub read_back : (w : ℕ) (ns : List (List ℕ)) (rest : List ℕ) → 1 ≤ w → w ≤ 4 → length ns < 256 ^ w → length (concat ns) < 256 ^ w → names_rise ns ≡ true → list_all is_utf8 ns ≡ true → names (metadata_of w ns ++ rest) ≡ Ok ns
unfolding names
read_back w ns rest least most count bytes rise utf8 =
    let fits : Fits w ns = record { least = least; most = most; count = count; bytes = bytes } in
    let there : length (laid_out w ns rest) ≡ suc (length (numbers w (fields ns)) + (length (concat ns) + length rest)) =
    (let a = length-append (numbers w (fields ns)) (concat ns ++ rest) in let b = length-append (concat ns) rest in omega (arith, a, b)) in
    let some : (length (laid_out w ns rest) == 0) ≡ false = positive (length (laid_out w ns rest)) (omega (arith, there)) in
    let size : nat_lt (length (laid_out w ns rest)) (names_start (laid_out w ns rest)) ≡ false =
    le-ltb _ _ (let s = start_is w ns rest fits in omega (arith, s, there)) in
    let end : nat_lt (length (laid_out w ns rest)) (names_start (laid_out w ns rest) + last_offset (laid_out w ns rest)) ≡ false =
    le-ltb _ _ (let s = start_is w ns rest fits in let l = last_is w ns rest fits in omega (arith, s, l, there)) in
    rw (laid w ns rest, some, version_is w ns rest, size, falls_not w ns rest fits, end, all_are w ns rest fits, utf8, sorted_is w ns rest, rise) refl
