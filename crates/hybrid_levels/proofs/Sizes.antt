-- How many bytes numbers take.
use Rattle.std.proofs.Common.{◌≡◌, refl, ℕ, zero, suc, ◌+◌, ◌*◌, ◌/◌, ◌%◌, ◌<◌, ◌≤◌, nat_lt, nat_le, Bool, true, false, cond, List, [], ◌∷◌, ◌++◌, length, take, drop, ◌⊎◌, inl, inr, arith}
use Rattle.std.proofs.lemmas.Bool.{cases_lt, leb-true}
use Rattle.std.proofs.lemmas.List.{length-append, length-drop}
use Rattle.byteorder.specs.Numbers.{length-bytes_low_first}
use Rattle.vs_bytes.specs.Numbers.{number_bytes}
use Rattle.vs_bytes.specs.PackedNumbers.{packed}
use Rattle.vs_bytes.proofs.PackedNumbers.{unpacked_len}
use Rattle.hybrid_levels.specs.Written.{varint_bytes, run, group, stretch, piece, piece_count, pieces, encoded}
use Rattle.hybrid_levels.proofs.ReadBack.{stretch_within}

varint_len : (most n : ℕ) → length (varint_bytes most n) ≤ most
varint_len zero n = omega arith
varint_len (suc most) n = by (nat_lt n 128) (varint_len most (n / 128))
  where
    by : (b : Bool) → length (varint_bytes most (n / 128)) ≤ most → length (cond b (n ∷ []) ((128 + n % 128) ∷ varint_bytes most (n / 128))) ≤ suc most
    by true rest = omega arith
    by false rest = omega (arith, rest)

run_len : (width copies n : ℕ) → width ≤ 16 → length (run width copies n) ≤ 7
unfolding run
run_len width copies n narrow =
    let parts = length-append (varint_bytes 5 (2 * copies)) (number_bytes ((width + 7) / 8) n) in
    let front = varint_len 5 (2 * copies) in
    let own : length (number_bytes ((width + 7) / 8) n) ≡ (width + 7) / 8 = length-bytes_low_first 0 ((width + 7) / 8) n in
    omega (arith, parts, front, own, narrow)

group_len : (width : ℕ) (ns : List ℕ) → length (group width ns) ≡ 1 + width
unfolding group
group_len width ns = let own = unpacked_len 8 width (packed width ns) in omega (arith, own)

none_left : (width most : ℕ) (ns : List ℕ) → length ns ≤ 0 → length (pieces width most ns) ≡ 0
none_left width zero [] none = refl
none_left width (suc most) [] none = refl
none_left width most (n ∷ ns) none = absurd (omega (arith, none))

-- a group of 8 numbers takes a byte and two a number at most, and a run takes less
pieces_len : (width most : ℕ) (ns : List ℕ) → width ≤ 16 → 8 * length (pieces width most ns) ≤ 17 * length ns + 119
unfolding piece piece_count
pieces_len width zero ns narrow = omega arith
pieces_len width (suc most) [] narrow = omega arith
pieces_len width (suc most) (n ∷ ns) narrow = by (nat_le 8 (stretch (n ∷ ns))) refl (λ k. pieces_len width most (drop k (n ∷ ns)) narrow)
  where
    by : (b : Bool) → nat_le 8 (stretch (n ∷ ns)) ≡ b → ((k : ℕ) → 8 * length (pieces width most (drop k (n ∷ ns))) ≤ 17 * length (drop k (n ∷ ns)) + 119) →
        8 * length (cond b (run width (stretch (n ∷ ns)) n) (group width (take 8 (n ∷ ns))) ++ pieces width most (drop (cond b (stretch (n ∷ ns)) 8) (n ∷ ns))) ≤ 17 * length (n ∷ ns) + 119
    by true is later =
        let count = stretch (n ∷ ns) in
        let front = run width count n in
        let parts = length-append front (pieces width most (drop count (n ∷ ns))) in
        let size = run_len width count n narrow in
        let rest = later count in
        let left = length-drop count (n ∷ ns) in
        let within = stretch_within (n ∷ ns) in
        let least : 8 ≤ count = leb-true 8 count is in
        omega (arith, parts, size, rest, left, within, least)
    by false is later = grouped (cases_lt 8 (length (n ∷ ns)))
      where
        parts : length (group width (take 8 (n ∷ ns)) ++ pieces width most (drop 8 (n ∷ ns))) ≡ length (group width (take 8 (n ∷ ns))) + length (pieces width most (drop 8 (n ∷ ns)))
        parts = length-append (group width (take 8 (n ∷ ns))) (pieces width most (drop 8 (n ∷ ns)))

        grouped : (8 < length (n ∷ ns)) ⊎ (length (n ∷ ns) ≤ 8) → 8 * length (group width (take 8 (n ∷ ns)) ++ pieces width most (drop 8 (n ∷ ns))) ≤ 17 * length (n ∷ ns) + 119
        grouped (inl more) =
            let all = parts in
            let size = group_len width (take 8 (n ∷ ns)) in
            let rest = later 8 in
            let left = length-drop 8 (n ∷ ns) in
            omega (arith, all, size, rest, left, more, narrow)
        grouped (inr last) =
            let all = parts in
            let size = group_len width (take 8 (n ∷ ns)) in
            let left = length-drop 8 (n ∷ ns) in
            let rest = none_left width most (drop 8 (n ∷ ns)) (omega (arith, left, last)) in
            omega (arith, all, size, rest, last, narrow)

pub encoded_len : (width : ℕ) (ns : List ℕ) → width ≤ 16 → 8 * length (encoded width ns) ≤ 17 * length ns + 119
encoded_len width ns narrow = pieces_len width (length ns) ns narrow
