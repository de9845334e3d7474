-- Offsets that don't fall.
use Rattle.std.proofs.Common.{◌≡◌, ◌∙◌, refl, ap, subst, ℕ, zero, suc, ◌+◌, ◌-◌, ◌^◌, ◌<◌, ◌≤◌, List, length, Bool, true, false, ◌||◌, nat_lt, arith, ◌*◌, mul-le-mul_right, mul-le-mul_left, suc-mul}
use Rattle.std.proofs.lemmas.Bool.{le-ltb, lt-ltb}
use Rattle.std.proofs.lemmas.Bool.Decides.{nat_tests}
use Rattle.variant_meta.specs.Metadata.{offset, last_offset, dictionary_size, falls_from, offsets_fall, name, names_from, all_names}
use Rattle.variant_meta.specs.Names.{name_at}

neither : (b c : Bool) → (b || c) ≡ false → (b ≡ false) × (c ≡ false)
neither true c h = cc
neither false c h = (refl, h)

-- one step up, and the rest
step : (bytes : List ℕ) (i n : ℕ) → falls_from bytes i (suc n) ≡ false → (offset bytes i ≤ offset bytes (i + 1)) × (falls_from bytes (i + 1) n ≡ false)
unfolding falls_from
step bytes i n h =
    let parts = neither (nat_lt (offset bytes (i + 1)) (offset bytes i)) (falls_from bytes (i + 1) n) h in
    let test = parts.0 in
    (grind (arith, nat_tests), parts.1)

pub up_to_last : (bytes : List ℕ) (i n : ℕ) → falls_from bytes i n ≡ false → offset bytes i ≤ offset bytes (i + n)
up_to_last bytes i zero h = let e : i + zero ≡ i = omega arith in rw e (omega arith)
up_to_last bytes i (suc n) h =
    let up = step bytes i n h in
    let low = up.0 in
    let rest = up_to_last bytes (i + 1) n up.1 in
    let e : i + 1 + n ≡ i + suc n = omega arith in
    let all : offset bytes (i + 1) ≤ offset bytes (i + suc n) = subst (λ (k : ℕ). offset bytes (i + 1) ≤ offset bytes k) e rest in
    omega (arith, low, all)

-- each offset is at most the next one, and the next one at most the last
pub steady : (bytes : List ℕ) (i n k : ℕ) → falls_from bytes i n ≡ false → k < n → (offset bytes (i + k) ≤ offset bytes (i + k + 1)) × (offset bytes (i + k + 1) ≤ offset bytes (i + n))
steady bytes i zero k h less = absurd (omega (arith, less))
steady bytes i (suc n) zero h less =
    let up = step bytes i n h in
    let first : i + zero ≡ i = omega arith in
    let next : i + zero + 1 ≡ i + 1 = omega arith in
    let last : i + suc n ≡ i + 1 + n = omega arith in
    rw (next, first, last) (up.0, up_to_last bytes (i + 1) n up.1)
steady bytes i (suc n) (suc k) h less =
    let up = step bytes i n h in
    let at : i + suc k ≡ i + 1 + k = omega arith in
    let last : i + suc n ≡ i + 1 + n = omega arith in
    rw (at, last) (steady bytes (i + 1) n k up.1 (omega (arith, less)))

-- The names as a list.

pub names_len : (bytes : List ℕ) (i n : ℕ) → length (names_from bytes i n) ≡ n
unfolding names_from
names_len bytes i zero = refl
names_len bytes i (suc n) = ap suc (names_len bytes (i + 1) n)

pub name_listed : (bytes : List ℕ) (i n k : ℕ) → k < n → name_at (names_from bytes i n) k ≡ name bytes (i + k)
unfolding names_from
name_listed bytes i zero k h = absurd (omega (arith, h))
name_listed bytes i (suc n) zero h = let e : i + zero ≡ i = omega arith in rw e refl
name_listed bytes i (suc n) (suc k) h =
    let e : i + suc k ≡ i + 1 + k = omega arith in
    rw e (name_listed bytes (i + 1) n k (omega (arith, h)))

pub all_len : (bytes : List ℕ) → length (all_names bytes) ≡ dictionary_size bytes
unfolding all_names
all_len bytes = names_len bytes 0 (dictionary_size bytes)

pub all_at : (bytes : List ℕ) (k : ℕ) → k < dictionary_size bytes → name_at (all_names bytes) k ≡ name bytes k
unfolding all_names
all_at bytes k h = let e : 0 + k ≡ k = omega arith in name_listed bytes 0 (dictionary_size bytes) k h ∙ ap (name bytes) e

-- a name lies inside
pub name_inside : (bytes : List ℕ) (k : ℕ) → offsets_fall bytes ≡ false → k < dictionary_size bytes → (offset bytes k ≤ offset bytes (k + 1)) × (offset bytes (k + 1) ≤ last_offset bytes)
unfolding offsets_fall last_offset
name_inside bytes k h less =
    let rest = neither (nat_lt 0 (offset bytes 0)) (falls_from bytes 0 (dictionary_size bytes)) h in
    let parts = steady bytes 0 (dictionary_size bytes) k rest.1 less in
    let at : 0 + k ≡ k = omega arith in
    let next : 0 + k + 1 ≡ k + 1 = omega arith in
    let last : 0 + dictionary_size bytes ≡ dictionary_size bytes = omega arith in (
      subst (λ (i : ℕ). offset bytes i ≤ offset bytes (k + 1)) at (subst (λ (i : ℕ). offset bytes (0 + k) ≤ offset bytes i) next parts.0),
      subst (λ (i : ℕ). offset bytes (k + 1) ≤ offset bytes i) last (subst (λ (i : ℕ). offset bytes i ≤ offset bytes (0 + dictionary_size bytes)) next parts.1),
    )

-- Room for an offset.

pub offset_room : (i n w : ℕ) → i ≤ n → 1 + (i + 1) * w + w ≤ 1 + (n + 2) * w
offset_room i n w h =
    let more : (i + 2) * w ≤ (n + 2) * w = mul-le-mul_right w (omega (arith, h)) in
    let one : i + 2 ≡ suc (i + 1) = omega arith in
    let step : (i + 2) * w ≡ (i + 1) * w + w = ap (λ (k : ℕ). k * w) one ∙ suc-mul (i + 1) w in
    omega (arith, more, step)

pub start_small : (n w : ℕ) → n < 2 ^ 32 → w ≤ 4 → 1 + (n + 2) * w < 2 ^ 35
start_small n w few most =
    let top : (n + 2) * w ≤ (n + 2) * 4 = mul-le-mul_left (n + 2) most in
    omega (arith, few, top)

-- One turn of the walk over the offsets.

pub turn_falls : (bytes : List ℕ) (i count : ℕ) → i < count → offset bytes (i + 1) < offset bytes i → falls_from bytes i (count - i) ≡ true
unfolding falls_from
turn_falls bytes i count inside less =
    let e : count - i ≡ suc (count - i - 1) = omega (arith, inside) in
    rw (e, lt-ltb (offset bytes (i + 1)) (offset bytes i) less) refl

pub turn_on : (bytes : List ℕ) (i count : ℕ) → i < count → offset bytes i ≤ offset bytes (i + 1) → falls_from bytes i (count - i) ≡ falls_from bytes (i + 1) (count - (i + 1))
unfolding falls_from
turn_on bytes i count inside more =
    let e : count - i ≡ suc (count - (i + 1)) = omega (arith, inside) in
    rw (e, le-ltb (offset bytes (i + 1)) (offset bytes i) more) refl

pub turn_ends : (bytes : List ℕ) (i count : ℕ) → count ≤ i → falls_from bytes i (count - i) ≡ false
unfolding falls_from
turn_ends bytes i count past = let e : count - i ≡ 0 = omega (arith, past) in rw e refl
