-- How many bytes the numbers of the metadata have.
use Rattle.std.proofs.Common.{◌≡◌, ℕ, ◌<◌, ◌≤◌, ◌^◌, max, List, length, Bool, true, false, cond, nat_lt, refl, arith, lit<}
use Rattle.std.proofs.Math.Nat.{pow-le-pow_right}
use Rattle.std.proofs.lemmas.Bool.Decides.{nat_tests}
use Rattle.std.specs.List.{concat}
use Rattle.vs_bytes.specs.Numbers.{width_of}
use Rattle.variant_meta.specs.Dictionaries.{IsDictionary}
use Rattle.variant_meta.specs.Written.{written_size}

pub width_holds : (n : ℕ) → n < 2 ^ 32 → (n < 256 ^ width_of n) × (1 ≤ width_of n) × (width_of n ≤ 4)
unfolding width_of
width_holds n h = by (nat_lt n 256) refl (nat_lt n 65536) refl (nat_lt n 16777216) refl
  where
    by : (a : Bool) → nat_lt n 256 ≡ a → (b : Bool) → nat_lt n 65536 ≡ b → (c : Bool) → nat_lt n 16777216 ≡ c → (n < 256 ^ cond a 1 (cond b 2 (cond c 3 4))) × (1 ≤ cond a 1 (cond b 2 (cond c 3 4))) × (cond a 1 (cond b 2 (cond c 3 4)) ≤ 4)
    by true x b y c z = (grind (arith, nat_tests), omega arith, omega arith)
    by false x true y c z = (grind (arith, nat_tests), omega arith, omega arith)
    by false x false y true z = (grind (arith, nat_tests), omega arith, omega arith)
    by false x false y false z = (omega (arith, h), omega arith, omega arith)

-- a greater width holds as much
pub wider : (n v w : ℕ) → v ≤ w → n < 256 ^ v → n < 256 ^ w
wider n v w more fits =
    let top : 256 ^ v ≤ 256 ^ w = pow-le-pow_right {n = 256} (lit< tt) more in
    omega (arith, fits, top)

-- the numbers of a dictionary's metadata fit
pub dictionary_fits : (least : ℕ) (ns : List (List ℕ)) → IsDictionary ns → 1 ≤ least → least ≤ 4 → (1 ≤ written_size least ns) × (written_size least ns ≤ 4) × (length ns < 256 ^ written_size least ns) × (length (concat ns) < 256 ^ written_size least ns)
unfolding written_size
dictionary_fits least ns is low high =
    let few = is.few in
    let small = is.small in
    let greatest = max (length ns) (length (concat ns)) in
    let bound : max (length ns) (length (concat ns)) < 2 ^ 32 = omega (arith, few, small) in
    let width = width_holds (max (length ns) (length (concat ns))) bound in
    let holds = width.0 in
    let one = width.1 in
    let four = width.2 in
    let all = wider (max (length ns) (length (concat ns))) (width_of (max (length ns) (length (concat ns)))) (max least (width_of (max (length ns) (length (concat ns))))) (omega arith) holds in
    (omega (arith, low), omega (arith, high, four), omega (arith, all), omega (arith, all))
