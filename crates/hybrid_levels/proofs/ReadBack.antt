-- What is written decodes to its numbers.
use Rattle.std.proofs.Common.{◌≡◌, ◌∙◌, refl, sym, ap, ℕ, zero, suc, ◌+◌, ◌-◌, ◌*◌, ◌/◌, ◌%◌, ◌^◌, ◌<◌, ◌≤◌, ◌⊎◌, inl, inr, Bool, true, false, cond, nat_le, nat_lt, min, List, [], ◌∷◌, ◌++◌, length, take, drop, replicate, slice_index, nat_eq, Ok, append_assoc, append-nil, arith, lit<}
use Rattle.std.specs.List.{prefix_len}
use Rattle.std.proofs.Math.Nat.{pow-suc, mul_comm}
use Rattle.std.proofs.Math.Seq.{drop-append_seam}
use Rattle.std.proofs.lemmas.Bool.{cases_lt, lt-ltb, le-ltb, lt-leb, eq-eqb, eqb-true}
use Rattle.std.proofs.lemmas.Nat.{div_below, pow_pos}
use Rattle.std.proofs.lemmas.List.{length-append, length-replicate, length-take, length-drop, take_all, take_at, take-append-drop, get_or-take, get_or-drop, get_or_past}
use Rattle.std.proofs.lemmas.List.Sums.{prefix_len-le-length}
use Rattle.byteorder.specs.Endian.{little_bytes, little_number}
use Rattle.byteorder.specs.Numbers.{little_number-reads_back, length-bytes_low_first}
use Rattle.vs_bytes.specs.Numbers.{number_bytes}
use Rattle.vs_bytes.specs.PackedNumbers.{unpacked, packed, little}
use Rattle.vs_bytes.proofs.PackedNumbers.{unpacked_len, unpacked_low, unpacked_packed, packed_unpacked, little_front}
use Rattle.hybrid_levels.specs.Hybrid.{varint, header, content_len, content_numbers, passes, part_header, front_part, parts, decoded}
use Rattle.hybrid_levels.specs.Written.{varint_bytes, run, group, stretch, piece, piece_count, pieces, encoded}
use Rattle.hybrid_levels.proofs.Ahead.{step_parts}
use Rattle.hybrid_levels.proofs.Packed.{bytes_hold}
use Rattle.hybrid_levels.proofs.Pieces.{some_taken}
use Rattle.hybrid_levels.proofs.Unpacked.{take_few}

-- The header.

one_byte_back : (most n : ℕ) (more : List ℕ) → n < 128 → varint (suc most) (varint_bytes (suc most) n ++ more) ≡ Ok (n, length (varint_bytes (suc most) n))
one_byte_back most n more small = let test = lt-ltb n 128 small in rw (test, test) refl

pub varint_back : (most n : ℕ) (more : List ℕ) → n < 128 ^ suc most → varint (suc most) (varint_bytes (suc most) n ++ more) ≡ Ok (n, length (varint_bytes (suc most) n))
varint_back zero n more fits = one_byte_back zero n more (omega (arith, fits))
varint_back (suc most) n more fits = by (cases_lt n 128) (varint_back most (n / 128) more)
  where
    by : (n < 128) ⊎ (128 ≤ n) → (n / 128 < 128 ^ suc most → varint (suc most) (varint_bytes (suc most) (n / 128) ++ more) ≡ Ok (n / 128, length (varint_bytes (suc most) (n / 128)))) → varint (suc (suc most)) (varint_bytes (suc (suc most)) n ++ more) ≡ Ok (n, length (varint_bytes (suc (suc most)) n))
    by (inl small) high = one_byte_back (suc most) n more small
    by (inr large) high =
        let test = le-ltb n 128 large in
        let marked = le-ltb (128 + n % 128) 128 (omega arith) in
        let power = pow-suc 128 (suc most) in
        let turned = mul_comm 128 (128 ^ suc most) in
        let below : n / 128 < 128 ^ suc most = div_below n 128 (128 ^ suc most) (lit< tt) (omega (arith, fits, power, turned)) in
        let value : 128 + n % 128 - 128 + 128 * (n / 128) ≡ n = omega arith in
        rw (test, marked, high below, value) (ap (λ (k : ℕ). Ok (n, k)) (omega arith))

header_back : (n : ℕ) (more : List ℕ) → n < 2 ^ 32 → header (varint_bytes 5 n ++ more) ≡ Ok (n, length (varint_bytes 5 n))
unfolding header
header_back n more fits =
    let back = varint_back 4 n more (omega (arith, fits)) in
    let test = lt-ltb n 4294967296 fits in
    rw (back, test) refl

one_or_more : (most n : ℕ) → 1 ≤ length (varint_bytes (suc most) n)
one_or_more most n = by (nat_lt n 128)
  where
    by : (b : Bool) → 1 ≤ length (cond b (n ∷ []) ((128 + n % 128) ∷ varint_bytes most (n / 128)))
    by true = omega arith
    by false = omega arith

-- A part is its header, its content and what comes after.
part_back : (width left h : ℕ) (body more : List ℕ) → h < 2 ^ 32 → length body ≡ content_len width h → passes h left ≡ false →
    front_part width left (varint_bytes 5 h ++ (body ++ more)) ≡ Ok (take left (content_numbers width h body), length (varint_bytes 5 h) + content_len width h)
unfolding front_part part_header
part_back width left h body more fits size room =
    let front = varint_bytes 5 h in
    let back = header_back h (body ++ more) fits in
    let all = length-append front (body ++ more) in
    let behind = length-append body more in
    let whole = le-ltb (length (front ++ (body ++ more))) (length front + content_len width h) (omega (arith, all, behind, size)) in
    let held : take (content_len width h) (drop (length front) (front ++ (body ++ more))) ≡ body =
    ap (take (content_len width h)) (drop-append_seam front (body ++ more)) ∙ take_at body more (content_len width h) size in
    rw (back, whole, room, held) refl

-- A run.

bytes_back : (size n : ℕ) → n < 256 ^ size → little (number_bytes size n) ≡ n
bytes_back size n fits =
    let most = length-bytes_low_first 0 size n in
    sym (ap little (take_all size (little_bytes size n) (omega (arith, most))))
    ∙ sym (little_front size (little_bytes size n))
    ∙ ap (little_number size) (sym (append-nil (little_bytes size n)))
    ∙ little_number-reads_back size n [] fits

copies_back : (width left copies n : ℕ) (body more : List ℕ) → length body ≡ (width + 7) / 8 → little body ≡ n → copies ≤ left → copies < 2 ^ 31 →
    front_part width left ((varint_bytes 5 (2 * copies) ++ body) ++ more) ≡ Ok (replicate copies n, length (varint_bytes 5 (2 * copies) ++ body))
copies_back width left copies n body more size value most few =
    let front = varint_bytes 5 (2 * copies) in
    let even = eq-eqb (2 * copies % 2) 0 (omega arith) in
    let half : 2 * copies / 2 ≡ copies = omega arith in
    let len = length-replicate copies n in
    let all = length-append front body in
    let numbers : take left (content_numbers width (2 * copies) body) ≡ replicate copies n = rw (even, half, value) (take_all left (replicate copies n) (omega (arith, len, most))) in
    let total : length front + content_len width (2 * copies) ≡ length (front ++ body) = rw (even, all, size) refl in
    let back = part_back width left (2 * copies) body more (omega (arith, few)) (rw even size) (rw (even, half) (le-ltb left copies most)) in
    rw (append_assoc front body more, back, numbers, total) refl

run_back : (width left copies n : ℕ) (more : List ℕ) → n < 2 ^ width → copies ≤ left → copies < 2 ^ 31 → front_part width left (run width copies n ++ more) ≡ Ok (replicate copies n, length (run width copies n))
unfolding run
run_back width left copies n more fits most few =
    let size = (width + 7) / 8 in
    copies_back width left copies n (number_bytes size n) more (length-bytes_low_first 0 size n) (bytes_back size n (bytes_hold n width fits)) most few

-- A group.

group_back : (width left : ℕ) (ns more : List ℕ) → ((k : ℕ) → slice_index ns k < 2 ^ width) → 1 ≤ left → min 8 left ≡ length ns → front_part width left (group width ns ++ more) ≡ Ok (ns, length (group width ns))
unfolding group
group_back width left ns more fits some count =
    let n = packed width ns in
    let body = unpacked 8 width n in
    let one : 1 * width ≡ width = omega arith in
    let size : length body ≡ width = unpacked_len 8 width n in
    let room : nat_le (left + 8) 8 ≡ false = lt-leb (left + 8) 8 (omega (arith, some)) in
    let back = part_back width left 3 body more (lit< tt) (size ∙ sym one) room in
    let turned = mul_comm width 8 in
    let numbers : take left (unpacked width 8 (little body)) ≡ ns =
    ap (λ (x : ℕ). take left (unpacked width 8 x)) (packed_unpacked 8 width n)
    ∙ ap (take left) (unpacked_low width 8 (8 * width) n (omega (arith, turned)))
    ∙ take_few width left 8 n
    ∙ ap (λ (k : ℕ). unpacked width k n) count
    ∙ unpacked_packed width ns fits in
    back ∙ ap (λ (xs : List ℕ). Ok (xs, 1 + 1 * width)) numbers ∙ ap (λ (k : ℕ). Ok (ns, k)) (omega (arith, size))

-- Any part.

same_front : (x : ℕ) (ns : List ℕ) → take (prefix_len (λ n. nat_eq n x) ns) ns ≡ replicate (prefix_len (λ n. nat_eq n x) ns) x
same_front x [] = refl
same_front x (n ∷ ns) = by (nat_eq n x) refl (same_front x ns)
  where
    by : (b : Bool) → nat_eq n x ≡ b → take (prefix_len (λ n. nat_eq n x) ns) ns ≡ replicate (prefix_len (λ n. nat_eq n x) ns) x → take (cond b (1 + prefix_len (λ n. nat_eq n x) ns) 0) (n ∷ ns) ≡ replicate (cond b (1 + prefix_len (λ n. nat_eq n x) ns) 0) x
    by true e h =
        let one : 1 + prefix_len (λ n. nat_eq n x) ns ≡ suc (prefix_len (λ n. nat_eq n x) ns) = omega arith in
        let same = eqb-true n x e in
        rw (one, same, h) refl
    by false e h = refl

stretch_same : (ns : List ℕ) → take (stretch ns) ns ≡ replicate (stretch ns) (slice_index ns 0)
unfolding stretch
stretch_same ns = same_front (slice_index ns 0) ns

pub stretch_within : (ns : List ℕ) → stretch ns ≤ length ns
unfolding stretch
stretch_within ns = prefix_len-le-length (λ n. nat_eq n (slice_index ns 0)) ns

fits_front : (width m : ℕ) (ns : List ℕ) → ((k : ℕ) → slice_index ns k < 2 ^ width) → (k : ℕ) → slice_index (take m ns) k < 2 ^ width
fits_front width m ns fits k = by (cases_lt k m)
  where
    by : (k < m) ⊎ (m ≤ k) → slice_index (take m ns) k < 2 ^ width
    by (inl less) = rw (get_or-take m ns k 0 less) (fits k)
    by (inr past) =
        let size = length-take m ns in
        rw (get_or_past (take m ns) k 0 (omega (arith, size, past))) (pow_pos width)

piece_back : (width : ℕ) (ns more : List ℕ) → ((k : ℕ) → slice_index ns k < 2 ^ width) → length ns < 2 ^ 31 → 0 < length ns →
    front_part width (length ns) (piece width ns ++ more) ≡ Ok (take (piece_count ns) ns, length (piece width ns))
unfolding piece piece_count
piece_back width ns more fits few some = by (nat_le 8 (stretch ns))
  where
    by : (b : Bool) → front_part width (length ns) (cond b (run width (stretch ns) (slice_index ns 0)) (group width (take 8 ns)) ++ more) ≡ Ok (take (cond b (stretch ns) 8) ns, length (cond b (run width (stretch ns) (slice_index ns 0)) (group width (take 8 ns))))
    by true =
        let within = stretch_within ns in
        run_back width (length ns) (stretch ns) (slice_index ns 0) more (fits 0) within (omega (arith, within, few))
        ∙ ap (λ (xs : List ℕ). Ok (xs, length (run width (stretch ns) (slice_index ns 0)))) (sym (stretch_same ns))
    by false = group_back width (length ns) (take 8 ns) more (fits_front width 8 ns fits) (omega (arith, some)) (sym (length-take 8 ns))

some_bytes : (width : ℕ) (ns : List ℕ) → 1 ≤ length (piece width ns)
unfolding piece run group
some_bytes width ns = by (nat_le 8 (stretch ns))
  where
    by : (b : Bool) → 1 ≤ length (cond b (varint_bytes 5 (2 * stretch ns) ++ number_bytes ((width + 7) / 8) (slice_index ns 0)) (3 ∷ unpacked 8 width (packed width (take 8 ns))))
    by true =
        let all = length-append (varint_bytes 5 (2 * stretch ns)) (number_bytes ((width + 7) / 8) (slice_index ns 0)) in
        let front = one_or_more 4 (2 * stretch ns) in
        omega (arith, all, front)
    by false = omega arith

-- All parts.

-- one part, and what follows it
part_on : (width turns : ℕ) (all taken left front behind more : List ℕ) → 0 < length all → 0 < turns → taken ++ left ≡ all →
    front_part width (length all) (front ++ (behind ++ more)) ≡ Ok (taken, length front) → parts width (turns - 1) (length left) (behind ++ more) ≡ Ok (left, length behind) →
    parts width turns (length all) ((front ++ behind) ++ more) ≡ Ok (all, length (front ++ behind))
part_on width turns all taken left front behind more some room whole here rest =
    let step = step_parts width turns (length all) (length front) (front ++ (behind ++ more)) taken some room here in
    let size : length all ≡ length taken + length left = ap length (sym whole) ∙ length-append taken left in
    let count : length all - length taken ≡ length left = omega (arith, size) in
    let bytes = drop-append_seam front (behind ++ more) in
    let total = length-append front behind in
    rw (append_assoc front behind more, step, count, bytes, rest, whole, total) refl

pub all_back : (width most turns : ℕ) (ns more : List ℕ) → ((k : ℕ) → slice_index ns k < 2 ^ width) → length ns < 2 ^ 31 → length ns ≤ most → length (pieces width most ns) ≤ turns →
    parts width turns (length ns) (pieces width most ns ++ more) ≡ Ok (ns, length (pieces width most ns))
all_back width zero turns [] more fits few enough room = refl
all_back width (suc most) turns [] more fits few enough room = refl
all_back width zero turns (n ∷ ns) more fits few enough room = absurd (omega (arith, enough))
all_back width (suc most) turns (n ∷ ns) more fits few enough room =
    let all = n ∷ ns in
    let count = piece_count all in
    let left = drop count all in
    let total = length-append (piece width all) (pieces width most left) in
    let byte = some_bytes width all in
    let taken = some_taken all in
    let left_len = length-drop count all in
    let fits_left : (k : ℕ) → slice_index left k < 2 ^ width = λ k. rw (get_or-drop count all k 0) (fits (count + k)) in
    part_on width turns all (take count all) left (piece width all) (pieces width most left) more (omega arith) (omega (arith, total, room, byte)) (take-append-drop count all)
    (piece_back width all (pieces width most left ++ more) fits few (omega arith))
    (all_back width most (turns - 1) left more fits_left (omega (arith, left_len, few)) (omega (arith, left_len, enough, taken)) (omega (arith, total, room, byte)))

pub numbers_back : (width : ℕ) (ns more : List ℕ) → ((k : ℕ) → slice_index ns k < 2 ^ width) → length ns < 2 ^ 31 → decoded width (length ns) (encoded width ns ++ more) ≡ Ok (ns, length (encoded width ns))
numbers_back width ns more fits few =
    let total = length-append (encoded width ns) more in
    all_back width (length ns) (length (encoded width ns ++ more)) ns more fits few (omega arith) (omega (arith, total))
