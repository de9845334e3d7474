-- The tests on bytes decide what the grammar asks of them.
use Rattle.std.proofs.Common.{◌≡◌, refl, subst, ℕ, zero, suc, ◌<◌, List, [], ◌∷◌, true, false, eqb-true, arith, ◌==◌, length, ⊎_elim, get_or, eq-eqb, sym}
use Rattle.std.specs.Prelude.{Contains}
use Rattle.std.specs.List.{list_any}
use Rattle.std.proofs.lemmas.Bool.{and_parts, cases_Bool, or_cases, or_right}
use Rattle.std.proofs.lemmas.Bool.Decides.{nat_tests}
use Rattle.json_strings.specs.Pieces.{IsPiece, byte, short, unit, IsHexDigit, short_escapes}
use Rattle.json_strings.specs.Reading.{is_plain, is_short, is_hex, are_hex}

pub plain_passes : (x : ℕ) → IsPiece (byte x) → is_plain x ≡ true
unfolding is_plain
plain_passes x h = let low = h.0 in let quote = h.1 in let slash = h.2 in grind (arith, nat_tests)

pub passes_plain : (x : ℕ) → is_plain x ≡ true → IsPiece (byte x)
unfolding is_plain
passes_plain x h = grind (arith, nat_tests)

pub hex_passes : (x : ℕ) → IsHexDigit x → is_hex x ≡ true
hex_passes x h = grind (arith, nat_tests)

passes_hex : (x : ℕ) → is_hex x ≡ true → IsHexDigit x
passes_hex x h = grind (arith, nat_tests)

-- an element of a list passes the test for the list
any_passes : (ys : List ℕ) (x k : ℕ) → k < length ys → get_or ys k x ≡ x → list_any (λ y. x == y) ys ≡ true
any_passes [] x k h e = absurd (omega arith)
any_passes (y ∷ ys) x zero h e = rw (eq-eqb x y (sym e)) refl
any_passes (y ∷ ys) x (suc k) h e = or_right (x == y) _ (any_passes ys x k (omega arith) e)

passes_any : (ys : List ℕ) (x : ℕ) → list_any (λ y. x == y) ys ≡ true → Contains ys x
passes_any [] x h = cc
passes_any (y ∷ ys) x h =
    ⊎_elim (λ e. (0, omega arith, sym (eqb-true x y e))) (λ e. (suc (passes_any ys x e).0, omega (arith, (passes_any ys x e).1), (passes_any ys x e).2)) (or_cases (x == y) _ h)

pub short_passes : (x : ℕ) → IsPiece (short x) → is_short x ≡ true
unfolding is_short
short_passes x h = any_passes short_escapes x h.0 h.1 h.2

pub passes_short : (x : ℕ) → is_short x ≡ true → IsPiece (short x)
unfolding is_short
passes_short x h = passes_any short_escapes x h

-- \u is no escape of two characters
pub short_not_u : (x : ℕ) → is_short x ≡ true → (x == 117) ≡ false
unfolding is_short
short_not_u x h = ⊎_elim (λ e. let wrong : is_short 117 ≡ true = subst (λ y. is_short y ≡ true) (eqb-true x 117 e) h in cc) (λ e. e) (cases_Bool (x == 117))

pub unit_passes : (a b c d : ℕ) → IsPiece (unit a b c d) → are_hex a b c d ≡ true
unfolding are_hex
unit_passes a b c d h = rw (hex_passes a h.0, hex_passes b h.1, hex_passes c h.2, hex_passes d h.3) refl

pub passes_unit : (a b c d : ℕ) → are_hex a b c d ≡ true → IsPiece (unit a b c d)
unfolding are_hex
passes_unit a b c d h =
    let first = and_parts _ _ h in
    let second = and_parts _ _ first.1 in
    let third = and_parts _ _ second.1 in
    (passes_hex a first.0, passes_hex b second.0, passes_hex c third.0, passes_hex d third.1)
