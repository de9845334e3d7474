-- Groups of packed numbers.
use Rattle.std.proofs.Common.{◌≡◌, ◌∙◌, refl, sym, ap, subst, ℕ, suc, ◌+◌, ◌-◌, ◌*◌, ◌/◌, ◌%◌, ◌^◌, ◌<◌, ◌≤◌, List, [], ◌∷◌, ◌++◌, length, take, drop, slice_index, set, bit_and, min, Bool, true, false, cond, replicate, ◌⊎◌, inl, inr, arith, lit<}
use Rattle.std.proofs.Math.Nat.{mod-lt, mul_comm, suc-mul, mul-le-mul_right, pow-le-pow_right}
use Rattle.std.proofs.Math.Seq.{take-append-add}
use Rattle.std.proofs.lemmas.Bool.{cases_lt, ne_eqb}
use Rattle.std.proofs.lemmas.Slice.{take-put_mid}
use borrow.Rule.Slice.PartMut.{put_mid}
use Rattle.std.proofs.lemmas.List.{take_more_set, take_all, append_assoc, append-nil, get_or-drop, drop-drop, length-take, length-drop, length-replicate, length-take-le, take_at, take-append-le}
use Rattle.std.proofs.lemmas.Nat.{pow_pos, and_mask, one_shl}
use Rattle.byteorder.specs.Endian.{little_number}
use Rattle.vs_bytes.specs.PackedNumbers.{unpacked, little}
use Rattle.hybrid_levels.specs.Hybrid.{is_run, content_count, content_numbers}
use Rattle.vs_bytes.proofs.PackedNumbers.{fewer_bits, unpacked_len, unpacked_low, unpacked_split, take_unpacked, packed_low, packed_high, little_front}

-- the number in the first k bytes or more
pub front_low : (bytes : List ℕ) (k size : ℕ) → ((i : ℕ) → slice_index bytes i < 256) → size ≤ k → little_number k bytes % 2 ^ (8 * size) ≡ little bytes % 2 ^ (8 * size)
front_low bytes k size small h =
    ap (λ (x : ℕ). x % 2 ^ (8 * size)) (little_front k bytes ∙ sym (packed_low 8 k bytes small)) ∙ fewer_bits (little bytes) (8 * k) (8 * size) (omega (arith, h))

-- a field is below 2 ^ 32
pub low_small : (n width : ℕ) → width ≤ 32 → n % 2 ^ width < 4294967296
low_small n width h =
    let top : 2 ^ width ≤ 2 ^ 32 = pow-le-pow_right {n = 2} (lit< tt) h in
    let low = mod-lt n (pow_pos width) in
    omega (arith, top, low)

pub mask_is : (n width : ℕ) → width ≤ 32 → bit_and n (1 * 2 ^ width % 18446744073709551616 - 1) ≡ n % 2 ^ width
mask_is n width h = ap (λ (x : ℕ). bit_and n (x - 1)) (one_shl width 64 (omega (arith, h))) ∙ and_mask n width

-- the first 4 numbers, two in each word
pub two_and_two : (width word : ℕ) → width ≤ 32 → unpacked width 4 word ≡ unpacked width 2 (word % 2 ^ 64) ++ unpacked width 2 (word / 2 ^ (2 * width) % 2 ^ 64)
two_and_two width word h =
    let turned : width * 2 ≡ 2 * width = mul_comm width 2 in
    let fit : width * 2 ≤ 64 = omega (arith, turned, h) in
    unpacked_split width 2 2 word
    ∙ ap (λ (x : ℕ). unpacked width 2 word ++ unpacked width 2 (word / 2 ^ x)) turned
    ∙ ap (λ (xs : List ℕ). xs ++ unpacked width 2 (word / 2 ^ (2 * width))) (sym (unpacked_low width 2 64 word fit))
    ∙ ap (λ (xs : List ℕ). unpacked width 2 (word % 2 ^ 64) ++ xs) (sym (unpacked_low width 2 64 (word / 2 ^ (2 * width)) fit))

-- two lists of 4, each by its places
pub joined : (width n : ℕ) (low high : List ℕ) → low ≡ unpacked width 4 n → high ≡ unpacked width 4 (n / 2 ^ (4 * width)) →
    slice_index low 0 ∷ slice_index low 1 ∷ slice_index low 2 ∷ slice_index low 3 ∷ slice_index high 0 ∷ slice_index high 1 ∷ slice_index high 2 ∷ slice_index high 3 ∷ [] ≡ unpacked width 8 n
joined width n low high a b =
    let turned : width * 4 ≡ 4 * width = mul_comm width 4 in
    rw (a, b) (sym (unpacked_split width 4 4 n ∙ ap (λ (x : ℕ). unpacked width 4 n ++ unpacked width 4 (n / 2 ^ x)) turned))

-- one more number, in a loop over `xs`
pub taken_on : (width len i left word n : ℕ) (xs : List ℕ) → take i xs ++ unpacked width (len - i) left ≡ unpacked width len word → i < len → length xs ≡ len → n ≡ left % 2 ^ width → take (i + 1) (set xs i n) ++ unpacked width (len - (i + 1)) (left / 2 ^ width) ≡ unpacked width len word
taken_on width len i left word n xs before less size is =
    let count : len - i ≡ suc (len - (i + 1)) = omega (arith, less) in
    ap (λ (ys : List ℕ). ys ++ unpacked width (len - (i + 1)) (left / 2 ^ width)) (take_more_set xs i n (omega (arith, less, size)))
    ∙ append_assoc (take i xs) (n ∷ []) (unpacked width (len - (i + 1)) (left / 2 ^ width))
    ∙ ap (λ (m : ℕ). take i xs ++ m ∷ unpacked width (len - (i + 1)) (left / 2 ^ width)) is
    ∙ sym (ap (λ (k : ℕ). take i xs ++ unpacked width k left) count)
    ∙ before

pub all_taken : (width len i left word : ℕ) (xs : List ℕ) → take i xs ++ unpacked width (len - i) left ≡ unpacked width len word → len ≤ i → length xs ≡ len → xs ≡ unpacked width len word
all_taken width len i left word xs before done size =
    let none : len - i ≡ 0 = omega (arith, done) in
    sym (take_all i xs (omega (arith, done, size))) ∙ sym (append-nil (take i xs)) ∙ sym (ap (λ (k : ℕ). take i xs ++ unpacked width k left) none) ∙ before

-- Groups.

pub same_unpacked : (a b m width count : ℕ) → a % 2 ^ m ≡ b % 2 ^ m → width * count ≤ m → unpacked width count a ≡ unpacked width count b
same_unpacked a b m width count same h = sym (unpacked_low width count m a h) ∙ ap (unpacked width count) same ∙ unpacked_low width count m b h

pub one_more : (width i n : ℕ) → unpacked width (i + 1) n ≡ unpacked width i n ++ n / 2 ^ (i * width) % 2 ^ width ∷ []
one_more width i n = unpacked_split width i 1 n ∙ ap (λ (x : ℕ). unpacked width i n ++ n / 2 ^ x % 2 ^ width ∷ []) (mul_comm width i)

pub within_group : (i len width : ℕ) → i < len → len ≤ 8 → i * width + width ≤ 8 * width
within_group i len width less few =
    let e = suc-mul i width in
    let h : suc i * width ≤ 8 * width = mul-le-mul_right width (omega (arith, less, few)) in
    omega (arith, e, h)

-- the numbers after a group
after_group : (width k count at : ℕ) (bytes : List ℕ) → ((i : ℕ) → slice_index bytes i < 256) → (k ≡ 0) ⊎ (count ≡ 8) → unpacked width k (little (drop at bytes) / 2 ^ (width * count)) ≡ unpacked width k (little (drop (at + width) bytes))
after_group width k count at bytes small (inl none) = rw none refl
after_group width k count at bytes small (inr whole) =
    let rest : (i : ℕ) → slice_index (drop at bytes) i < 256 = λ i. rw (get_or-drop at bytes i 0) (small (at + i)) in
    let bits : width * count ≡ 8 * width = ap (λ (x : ℕ). width * x) whole ∙ mul_comm width 8 in
    ap (unpacked width k)
    (ap (λ (x : ℕ). little (drop at bytes) / 2 ^ x) bits
    ∙ packed_high 8 width (drop at bytes) rest
    ∙ ap little (drop-drop width at bytes))

-- one more group, in a loop over `xs`
pub group_on : (width len filled count at n : ℕ) (bytes xs ys : List ℕ) →
    take filled xs ++ unpacked width (len - filled) (little (drop at bytes)) ≡ unpacked width len n →
    filled < len → length xs ≡ len → count ≡ min (len - filled) 8 → ((i : ℕ) → slice_index bytes i < 256) → ys ≡ unpacked width count (little (drop at bytes)) →
    take (filled + count) (put_mid filled (filled + count - filled) xs ys) ++ unpacked width (len - (filled + count)) (little (drop (at + width) bytes)) ≡ unpacked width len n
group_on width len filled count at n bytes xs ys before less size is small new =
    let k : ℕ = len - (filled + count) in
    let behind : List ℕ = unpacked width k (little (drop (at + width) bytes)) in
    let ys_len : length ys ≡ count = ap length new ∙ unpacked_len width count (little (drop at bytes)) in
    let sum : count + k ≡ len - filled = omega (arith, is, less) in
    let cases : (k ≡ 0) ⊎ (count ≡ 8) = elim (cases_lt (len - filled) 8) [ inl x ↦ inl (omega (arith, is, less, x)) | inr y ↦ inr (omega (arith, is, y)) ] in
    ap (λ (zs : List ℕ). zs ++ behind) (take-put_mid filled (filled + count - filled) xs ys (filled + count) (omega (arith, ys_len)) (omega (arith, less, size)))
    ∙ append_assoc (take filled xs) ys behind
    ∙ ap (λ (zs : List ℕ). take filled xs ++ zs)
    (ap (λ (zs : List ℕ). zs ++ behind) new
    ∙ ap (λ (zs : List ℕ). unpacked width count (little (drop at bytes)) ++ zs) (sym (after_group width k count at bytes small cases))
    ∙ sym (unpacked_split width count k (little (drop at bytes)))
    ∙ ap (λ (x : ℕ). unpacked width x (little (drop at bytes))) sum)
    ∙ before

-- the bytes of the groups that are left
pub bytes_on : (width len filled count at size : ℕ) → filled < len → count ≡ min (len - filled) 8 → at + (len - filled + 7) / 8 * width ≤ size → at + width + (len - (filled + count) + 7) / 8 * width ≤ size
bytes_on width len filled count at size some is there =
    let groups : (len - filled + 7) / 8 ≡ suc ((len - (filled + count) + 7) / 8) = omega (arith, some, is) in
    let product = suc-mul ((len - (filled + count) + 7) / 8) width in
    let h : at + suc ((len - (filled + count) + 7) / 8) * width ≤ size = subst (λ (x : ℕ). at + x * width ≤ size) groups there in
    omega (arith, product, h)

-- a part of a list
pub part_len : {X : Type 0} → (filled count : ℕ) (xs : List X) → filled + count ≤ length xs → length (take (filled + count - filled) (drop filled xs)) ≡ count
part_len filled count xs h = simp (length-take, length-drop) (omega (arith, h))

pub take_few : (width len count n : ℕ) → take len (unpacked width count n) ≡ unpacked width (min count len) n
take_few width len count n = by (cases_lt len count)
  where
    by : (len < count) ⊎ (count ≤ len) → take len (unpacked width count n) ≡ unpacked width (min count len) n
    by (inl less) =
        let e : min count len ≡ len = omega (arith, less) in
        rw e (take_unpacked width len count n (omega (arith, less)))
    by (inr most) =
        let e : min count len ≡ count = omega (arith, most) in
        let size = unpacked_len width count n in
        rw e (take_all len (unpacked width count n) (omega (arith, size, most)))

-- the numbers of groups, at most `len`
pub groups_filled : (width h len count : ℕ) (content new rest : List ℕ) → (h % 2 ≡ 0 → ⊥) → count ≡ min (content_count h) len → new ≡ unpacked width count (little content) → take count (new ++ rest) ≡ take len (content_numbers width h content)
groups_filled width h len count content new rest packed is filled =
    let test = ne_eqb (h % 2) 0 packed in
    let some : count ≡ min (8 * (h / 2)) len = rw test at is in
    let size : length new ≡ count = ap length filled ∙ unpacked_len width count (little content) in
    rw test
    (take_at new rest count size
    ∙ filled
    ∙ ap (λ (k : ℕ). unpacked width k (little content)) some
    ∙ sym (take_few width len (8 * (h / 2)) (little content)))

-- the front of a part, after the front of the whole
pub front_joined : {X : Type 0} → (filled size count : ℕ) (xs ys : List X) → filled ≤ length xs → count ≤ length ys → take (filled + count) (put_mid filled size xs ys) ≡ take filled xs ++ take count ys
front_joined {X = X} filled size count xs ys h k =
    let front = length-take-le filled xs h in
    let zs = drop size (drop filled xs) in
    ap (λ (n : ℕ). take (n + count) (put_mid filled size xs ys)) (sym front)
    ∙ take-append-add (take filled xs) (ys ++ zs) count
    ∙ ap (λ (s : List X). take filled xs ++ s) (take-append-le count ys zs k)

pub content_taken : (width h left : ℕ) (bytes : List ℕ) → length (take left (content_numbers width h bytes)) ≡ min (content_count h) left
content_taken width h left bytes = by (is_run h)
  where
    by : (b : Bool) → length (take left (cond b (replicate (cond b (h / 2) (8 * (h / 2))) (little bytes)) (unpacked width (cond b (h / 2) (8 * (h / 2))) (little bytes)))) ≡ min (cond b (h / 2) (8 * (h / 2))) left
    by true =
        let taken = length-take left (replicate (h / 2) (little bytes)) in
        let all = length-replicate (h / 2) (little bytes) in
        omega (arith, taken, all)
    by false =
        let taken = length-take left (unpacked width (8 * (h / 2)) (little bytes)) in
        let all = unpacked_len width (8 * (h / 2)) (little bytes) in
        omega (arith, taken, all)
