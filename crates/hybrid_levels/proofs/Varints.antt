-- The header of a part.
use Rattle.std.proofs.Common.{◌≡◌, refl, sym, subst, ℕ, suc, ◌+◌, ◌-◌, ◌*◌, ◌^◌, ◌<◌, ◌≤◌, List, ◌∷◌, slice_index, Err, arith, lit<}
use Rattle.std.proofs.Math.Nat.{pow-suc, pow-le-pow_right}
use Rattle.std.proofs.lemmas.Bool.{le-ltb}
use Rattle.vs_bytes.specs.declared.rule.Rule.{Rule}
use Rattle.hybrid_levels.specs.Hybrid.{varint}

pub first_small : (bytes rest : List ℕ) (byte : ℕ) → bytes ≡ byte ∷ rest → ((i : ℕ) → slice_index bytes i < 256) → byte < 256
first_small bytes rest byte is small = subst (λ (xs : List ℕ). slice_index xs 0 < 256) is (small 0)

-- a byte in front of a number
pub grown : (most byte high : ℕ) → 1 ≤ most → byte < 256 → high < 128 ^ (most - 1) → byte - 128 + 128 * high < 128 ^ most
grown most byte high least small fits =
    let e : most ≡ suc (most - 1) = omega (arith, least) in
    let p = pow-suc 128 (most - 1) in
    let sum : byte - 128 + 128 * high < 128 ^ suc (most - 1) = rw p (omega (arith, small, fits)) in
    subst (λ (n : ℕ). byte - 128 + 128 * high < 128 ^ n) (sym e) sum

pub one_byte : (most byte : ℕ) → 1 ≤ most → byte < 128 → byte < 128 ^ most
one_byte most byte least small =
    let top : 128 ^ 1 ≤ 128 ^ most = pow-le-pow_right {n = 128} (lit< tt) least in
    omega (arith, small, top)

pub room : (most n : ℕ) → most ≤ 5 → n < 128 ^ (most - 1) → n < 34359738368
room most n small fits =
    let less : most - 1 ≤ 5 = omega (arith, small) in
    let top : 128 ^ (most - 1) ≤ 128 ^ 5 = pow-le-pow_right {n = 128} (lit< tt) less in
    omega (arith, fits, top)

-- the rule of the bytes that follow
pub rule_after : (most byte : ℕ) (rest : List ℕ) (rule : Rule) → 1 ≤ most → 128 ≤ byte → varint (most - 1) rest ≡ Err rule → varint most (byte ∷ rest) ≡ Err rule
rule_after most byte rest rule least more is =
    let e : most ≡ suc (most - 1) = omega (arith, least) in
    let test = le-ltb byte 128 more in
    subst (λ (n : ℕ). varint n (byte ∷ rest) ≡ Err rule) (sym e) (rw (test, is) refl)
