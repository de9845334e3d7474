-- The parts of an object or array, as they are written.
use Rattle.std.proofs.Common.{◌≡◌, ◌∙◌, refl, sym, ap, ℕ, suc, ◌+◌, ◌*◌, ◌/◌, ◌%◌, ◌^◌, ◌<◌, ◌≤◌, ◌==◌, nat_lt, Bool, true, false, cond, List, ◌∷◌, ◌++◌, length, drop, get_or, arith, append_assoc}
use Rattle.std.specs.List.{AllByRecursion}
use Rattle.std.proofs.Math.Nat.{one-le-pow}
use Rattle.std.proofs.Math.Seq.{take-append_seam}
use Rattle.std.proofs.lemmas.Bool.Decides.{nat_tests}
use Rattle.std.proofs.lemmas.List.{length-append}
use Rattle.byteorder.specs.Numbers.{little_number-reads_back}
use Rattle.vs_bytes.specs.Numbers.{number_bytes}
use Rattle.variant_meta.specs.Written.{numbers}
use Rattle.variant_read.specs.Layout.{basic_type, type_header, is_object, offset_size, id_size, count_size, count, id_place, field_id, offset_place, offset, fixed_size, last_offset, region, container_size}
use Rattle.variant_read.specs.Layout as read
use Rattle.variant_write.specs.Layout.{count_bytes, large_bit, head, packed, max_small_count}
use Rattle.variant_write.specs.Layout as written
use Rattle.variant_laws.proofs.NumberLists.{number_len, numbers_len, past_number, past_numbers, number_in}

-- an array has no ids
abbrev pub IdSize : Bool → ℕ → Type 0
IdSize true i = (1 ≤ i) × (i ≤ 4)
IdSize false i = i ≡ 0

-- what sizes, ids and ends are written as they are
pub record Fits (is : Bool) (w i : ℕ) (ids es : List ℕ) : Type 0 where
  pub least : 1 ≤ w
  pub most : w ≤ 4
  pub id_width : IdSize is i
  pub id_bytes : length ids * i ≡ length es * i
  pub few : length es < 2 ^ 32
  pub ids_fit : AllByRecursion (λ n. n < 256 ^ i) ids
  pub ends_fit : AllByRecursion (λ n. n < 256 ^ w) es

-- the size of a count
abbrev pub count_width : ℕ → ℕ
count_width n = cond (written.is_large n) 4 1

-- Byte 0.

pub basic_head : (is : Bool) (w i n : ℕ) → head is w i n % 4 ≡ cond is 2 3
unfolding head
basic_head true w i n = omega arith
basic_head false w i n = omega arith

pub offset_head : (is : Bool) (w i n : ℕ) → 1 ≤ w → w ≤ 4 → head is w i n / 4 % 4 + 1 ≡ w
unfolding head
offset_head true w i n least most = omega (arith, least, most)
offset_head false w i n least most = omega (arith, least, most)

pub id_head : (w i n : ℕ) → w ≤ 4 → 1 ≤ i → i ≤ 4 → head true w i n / 4 / 4 % 4 + 1 ≡ i
unfolding head
id_head w i n most low high = omega (arith, most, low, high)

bit : (b : Bool) → (cond b 1 0 == 1) ≡ b
bit true = refl
bit false = refl

bit_most : (n : ℕ) → large_bit n ≤ 1
unfolding large_bit
bit_most n = by (written.is_large n)
  where
    by : (b : Bool) → cond b 1 0 ≤ 1
    by true = omega arith
    by false = omega arith

large_head_object : (w i n : ℕ) → w ≤ 4 → i ≤ 4 → head true w i n / 4 / 16 % 2 ≡ large_bit n
unfolding head
large_head_object w i n most high = let small = bit_most n in omega (arith, most, high, small)

-- the bit tells of the count
bit_is : (n : ℕ) → (large_bit n == 1) ≡ written.is_large n
unfolding large_bit
bit_is n = bit (written.is_large n)

large_head_array : (w i n : ℕ) → w ≤ 4 → head false w i n / 4 / 4 % 2 ≡ large_bit n
unfolding head
large_head_array w i n most = let small = bit_most n in omega (arith, most, small)

-- The count.

count_spelled : (n : ℕ) → count_bytes n ≡ number_bytes (count_width n) n
unfolding count_bytes
count_spelled n = by (written.is_large n)
  where
    by : (b : Bool) → cond b (number_bytes 4 n) (number_bytes 1 n) ≡ number_bytes (cond b 4 1) n
    by true = refl
    by false = refl

count_fits : (n : ℕ) → n < 2 ^ 32 → n < 256 ^ count_width n
unfolding written.is_large
count_fits n few = by (nat_lt 255 n) refl
  where
    by : (b : Bool) → nat_lt 255 n ≡ b → n < 256 ^ cond b 4 1
    by true e = omega (arith, few)
    by false e = grind (arith, nat_tests)

first_fits : (w : ℕ) → 0 < 256 ^ w
first_fits w = one-le-pow w 256 (omega arith)

opened : (is : Bool) (w i : ℕ) (ids es tail : List ℕ) → packed is w i ids es tail ≡ head is w i (length es) ∷ (number_bytes (count_width (length es)) (length es) ++ (numbers i ids ++ (numbers w (0 ∷ es) ++ tail)))
unfolding packed
opened is w i ids es tail =
    ap (λ (xs : List ℕ). head is w i (length es) ∷ (xs ++ (numbers i ids ++ (numbers w (0 ∷ es) ++ tail)))) (count_spelled (length es))

joined : (a b c d e : List ℕ) → (a ++ (b ++ (c ++ d))) ++ e ≡ a ++ (b ++ (c ++ (d ++ e)))
joined a b c d e = simp append_assoc

-- The words of the layout, one by one.

pub basic_is : (is : Bool) (w i : ℕ) (ids es tail : List ℕ) → basic_type (packed is w i ids es tail) ≡ cond is 2 3
unfolding packed basic_type
basic_is is w i ids es tail = basic_head is w i (length es)

pub object_is : (is : Bool) (w i : ℕ) (ids es tail : List ℕ) → is_object (packed is w i ids es tail) ≡ is
unfolding is_object
object_is is w i ids es tail = ap (λ (basic : ℕ). basic == 2) (basic_is is w i ids es tail) ∙ by is
  where
    by : (b : Bool) → (cond b 2 3 == 2) ≡ b
    by true = refl
    by false = refl

type_is : (is : Bool) (w i : ℕ) (ids es tail : List ℕ) → type_header (packed is w i ids es tail) ≡ head is w i (length es) / 4
unfolding packed type_header
type_is is w i ids es tail = refl

pub size_is : (is : Bool) (w i : ℕ) (ids es tail : List ℕ) → Fits is w i ids es → offset_size (packed is w i ids es tail) ≡ w
unfolding offset_size
size_is is w i ids es tail fits = rw (type_is is w i ids es tail) (offset_head is w i (length es) fits.least fits.most)

pub id_size_is : (is : Bool) (w i : ℕ) (ids es tail : List ℕ) → Fits is w i ids es → id_size (packed is w i ids es tail) ≡ i
unfolding id_size
id_size_is true w i ids es tail fits =
    rw (object_is true w i ids es tail, type_is true w i ids es tail) (id_head w i (length es) fits.most fits.id_width.0 fits.id_width.1)
id_size_is false w i ids es tail fits = rw (object_is false w i ids es tail) (sym fits.id_width)

large_is : (is : Bool) (w i : ℕ) (ids es tail : List ℕ) → Fits is w i ids es → read.is_large (packed is w i ids es tail) ≡ written.is_large (length es)
unfolding read.is_large
large_is true w i ids es tail fits =
    rw (object_is true w i ids es tail, type_is true w i ids es tail, large_head_object w i (length es) fits.most fits.id_width.1) (bit_is (length es))
large_is false w i ids es tail fits =
    rw (object_is false w i ids es tail, type_is false w i ids es tail, large_head_array w i (length es) fits.most) (bit_is (length es))

pub count_size_is : (is : Bool) (w i : ℕ) (ids es tail : List ℕ) → Fits is w i ids es → count_size (packed is w i ids es tail) ≡ count_width (length es)
unfolding count_size
count_size_is is w i ids es tail fits = rw (large_is is w i ids es tail fits) refl

pub count_is : (is : Bool) (w i : ℕ) (ids es tail : List ℕ) → Fits is w i ids es → count (packed is w i ids es tail) ≡ length es
unfolding count
count_is is w i ids es tail fits =
    rw (count_size_is is w i ids es tail fits, opened is w i ids es tail)
    (little_number-reads_back (count_width (length es)) (length es) (numbers i ids ++ (numbers w (0 ∷ es) ++ tail)) (count_fits (length es) fits.few))

pub id_place_is : (is : Bool) (w i : ℕ) (ids es tail : List ℕ) (k : ℕ) → Fits is w i ids es → id_place (packed is w i ids es tail) k ≡ suc (count_width (length es) + k * i)
unfolding id_place
id_place_is is w i ids es tail k fits = rw (count_size_is is w i ids es tail fits, id_size_is is w i ids es tail fits) (omega arith)

pub field_id_is : (is : Bool) (w i : ℕ) (ids es tail : List ℕ) (k : ℕ) → Fits is w i ids es → k < length ids → field_id (packed is w i ids es tail) k ≡ get_or ids k 0
unfolding field_id
field_id_is is w i ids es tail k fits inside =
    let n = length es in
    rw (id_place_is is w i ids es tail k fits, id_size_is is w i ids es tail fits, opened is w i ids es tail, past_number (count_width n) n (k * i) (numbers i ids ++ (numbers w (0 ∷ es) ++ tail)))
    (number_in i ids k (numbers w (0 ∷ es) ++ tail) fits.ids_fit inside)

pub offset_place_is : (is : Bool) (w i : ℕ) (ids es tail : List ℕ) (k : ℕ) → Fits is w i ids es → offset_place (packed is w i ids es tail) k ≡ suc (count_width (length es) + (length ids * i + k * w))
unfolding offset_place
offset_place_is is w i ids es tail k fits =
    let bytes = fits.id_bytes in
    rw (count_is is w i ids es tail fits, id_place_is is w i ids es tail (length es) fits, size_is is w i ids es tail fits) (omega (arith, bytes))

-- past the numbers before the offsets
past_ids : (is : Bool) (w i : ℕ) (ids es tail : List ℕ) (k : ℕ) → drop (suc (count_width (length es) + (length ids * i + k))) (packed is w i ids es tail) ≡ drop k (numbers w (0 ∷ es) ++ tail)
past_ids is w i ids es tail k =
    let n = length es in
    rw (opened is w i ids es tail, past_number (count_width n) n (length ids * i + k) (numbers i ids ++ (numbers w (0 ∷ es) ++ tail))) (past_numbers i ids k (numbers w (0 ∷ es) ++ tail))

pub offset_is : (is : Bool) (w i : ℕ) (ids es tail : List ℕ) (k : ℕ) → Fits is w i ids es → k ≤ length es → offset (packed is w i ids es tail) k ≡ get_or (0 ∷ es) k 0
unfolding offset
offset_is is w i ids es tail k fits inside =
    rw (offset_place_is is w i ids es tail k fits, size_is is w i ids es tail fits, past_ids is w i ids es tail (k * w))
    (number_in w (0 ∷ es) k tail (first_fits w, fits.ends_fit) (omega (arith, inside)))

pub fixed_is : (is : Bool) (w i : ℕ) (ids es tail : List ℕ) → Fits is w i ids es → fixed_size (packed is w i ids es tail) ≡ suc (count_width (length es) + (length ids * i + (length es + 1) * w))
unfolding fixed_size
fixed_is is w i ids es tail fits = rw (count_is is w i ids es tail fits) (offset_place_is is w i ids es tail (length es + 1) fits)

pub last_is : (is : Bool) (w i : ℕ) (ids es tail : List ℕ) → Fits is w i ids es → last_offset (packed is w i ids es tail) ≡ get_or (0 ∷ es) (length es) 0
unfolding last_offset
last_is is w i ids es tail fits = rw (count_is is w i ids es tail fits) (offset_is is w i ids es tail (length es) fits (omega arith))

-- past all that is fixed
past_fixed : (is : Bool) (w i : ℕ) (ids es tail : List ℕ) → drop (suc (count_width (length es) + (length ids * i + (length es + 1) * w))) (packed is w i ids es tail) ≡ tail
past_fixed is w i ids es tail =
    let e : (length es + 1) * w ≡ length (0 ∷ es) * w + 0 = omega arith in
    rw (e, past_ids is w i ids es tail (length (0 ∷ es) * w + 0)) (past_numbers w (0 ∷ es) 0 tail)

pub region_is : (is : Bool) (w i : ℕ) (ids es values rest : List ℕ) → Fits is w i ids es → get_or (0 ∷ es) (length es) 0 ≡ length values → region (packed is w i ids es (values ++ rest)) ≡ values
unfolding region
region_is is w i ids es values rest fits end =
    rw (fixed_is is w i ids es (values ++ rest) fits, last_is is w i ids es (values ++ rest) fits, end, past_fixed is w i ids es (values ++ rest)) (take-append_seam values rest)

-- The whole.

pub packed_more : (is : Bool) (w i : ℕ) (ids es values rest : List ℕ) → packed is w i ids es values ++ rest ≡ packed is w i ids es (values ++ rest)
unfolding packed
packed_more is w i ids es values rest =
    let h = head is w i (length es) in
    let c = count_bytes (length es) in
    let a = numbers i ids in
    let b = numbers w (0 ∷ es) in
    ap (λ (xs : List ℕ). h ∷ xs) (joined c a b values rest)

pub packed_len : (is : Bool) (w i : ℕ) (ids es tail : List ℕ) → length (packed is w i ids es tail) ≡ suc (count_width (length es) + (length ids * i + (length es + 1) * w)) + length tail
packed_len is w i ids es tail =
    let n = length es in
    let whole = ap length (opened is w i ids es tail) in
    let a = length-append (number_bytes (count_width n) n) (numbers i ids ++ (numbers w (0 ∷ es) ++ tail)) in
    let b = length-append (numbers i ids) (numbers w (0 ∷ es) ++ tail) in
    let c = length-append (numbers w (0 ∷ es)) tail in
    let d = number_len (count_width n) n in
    let e = numbers_len i ids in
    let f = numbers_len w (0 ∷ es) in
    let g : length (0 ∷ es) * w ≡ (length es + 1) * w = omega arith in
    omega (arith, whole, a, b, c, d, e, f, g)
