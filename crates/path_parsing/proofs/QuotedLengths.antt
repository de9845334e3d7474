-- The canonical spelling of a string is no longer than any other, and neither is its text.
use Rattle.std.proofs.Common.{◌≡◌, refl, ap, subst, ℕ, zero, suc, ◌+◌, ◌/◌, ◌%◌, ◌≤◌, ◌==◌, List, [], ◌∷◌, ◌++◌, flat_map, Bool, true, false, cond, Option, Some, None, length, length-append, append-nil, ne_eqb, arith}
use Rattle.std.specs.Prelude.{Contains, nat_lt}
use Rattle.std.specs.List.{AllByRecursion}
use Rattle.std.specs.Char.{encode_utf8}
use Rattle.std.specs.Char.Utf16.{is_high_surrogate, is_low_surrogate}
use Rattle.std.proofs.lemmas.Bool.Decides.{nat_tests}
use Rattle.std.proofs.Math.Utf8.{encode}
use Rattle.std.proofs.lemmas.Grind.{flat_map-append}
use Rattle.json_strings.specs.Pieces.{Piece, byte, short, unit, short_escapes, ArePieces, pieces_spelled}
use Rattle.json_strings.specs.Meaning.{short_char, unit_of, high_of, pair_text, unit_text, text_after, text_of, IsString}
use Rattle.json_tree.specs.Text.{escaped}
use Rattle.json_tree.specs.Text as texts
use Rattle.path_parsing.proofs.Lengths.{pieces_length}

-- What bytes take within a string.

abbrev room : List ℕ → ℕ
room xs = length (flat_map escaped xs)

room_more : (x : ℕ) (xs : List ℕ) → room (x ∷ xs) ≡ length (escaped x) + room xs
room_more x xs = length-append (escaped x) (flat_map escaped xs)

room_append : (xs ys : List ℕ) → room (xs ++ ys) ≡ room xs + room ys
room_append xs ys = rw flat_map-append (length-append (flat_map escaped xs) (flat_map escaped ys))

abbrev Takes : List ℕ → Type 0
Takes bytes = (1 ≤ length bytes) × (length bytes ≤ 6)

takes_if : (b : Bool) (s t : List ℕ) → Takes s → Takes t → Takes (cond b s t)
takes_if true s t h k = h
takes_if false s t h k = k

escaped_takes : (x : ℕ) → Takes (escaped x)
unfolding escaped
escaped_takes x =
    takes_if (x == 34) _ _ (omega arith, omega arith) (takes_if (x == 92) _ _ (omega arith, omega arith)
    (takes_if (x == 8) _ _ (omega arith, omega arith) (takes_if (x == 9) _ _ (omega arith, omega arith)
    (takes_if (x == 10) _ _ (omega arith, omega arith) (takes_if (x == 12) _ _ (omega arith, omega arith)
    (takes_if (x == 13) _ _ (omega arith, omega arith) (takes_if (nat_lt x 32) _ _ (omega arith, omega arith) (omega arith, omega arith))))))))

text_fits : (xs : List ℕ) → length xs ≤ room xs
text_fits [] = omega arith
text_fits (x ∷ xs) = omega (arith, room_more x xs, (escaped_takes x).0, text_fits xs)

not_control : (x : ℕ) → 32 ≤ x → nat_lt x 32 ≡ false
not_control x h = grind (arith, nat_tests)

escaped_plain : (x : ℕ) → 32 ≤ x → (x == 34) ≡ false → (x == 92) ≡ false → escaped x ≡ x ∷ []
unfolding escaped
escaped_plain x h e f =
    rw (e, f, ne_eqb x 8 (omega arith), ne_eqb x 9 (omega arith), ne_eqb x 10 (omega arith), ne_eqb x 12 (omega arith), ne_eqb x 13 (omega arith), not_control x h) refl

room_high : (xs : List ℕ) → AllByRecursion (λ x. 128 ≤ x) xs → room xs ≡ length xs
room_high [] h = refl
room_high (x ∷ xs) h =
    let one : length (escaped x) ≡ 1 = ap (λ ys. length ys) (escaped_plain x (omega (arith, h.0)) (ne_eqb x 34 (omega (arith, h.0))) (ne_eqb x 92 (omega (arith, h.0)))) in
    omega (arith, room_more x xs, room_high xs h.1)

encode_fits : (c : ℕ) → room (encode c) ≤ 6
unfolding encode
encode_fits c = by (nat_lt c 128) (nat_lt c 2048) (nat_lt c 65536)
  where
    one : length (escaped c ++ []) ≤ 6
    one = rw append-nil (escaped_takes c).1

    by : (p q r : Bool) → room (cond p (c ∷ []) (cond q ((192 + c / 64) ∷ ((128 + c % 64) ∷ [])) (cond r ((224 + c / 4096) ∷ ((128 + c / 64 % 64) ∷ ((128 + c % 64) ∷ []))) ((240 + c / 262144) ∷ ((128 + c / 4096 % 64) ∷ ((128 + c / 64 % 64) ∷ ((128 + c % 64) ∷ []))))))) ≤ 6
    by true q r = one
    by false true r = omega (arith, room_high ((192 + c / 64) ∷ ((128 + c % 64) ∷ [])) (omega arith, (omega arith, tt)))
    by false false true = omega (arith, room_high ((224 + c / 4096) ∷ ((128 + c / 64 % 64) ∷ ((128 + c % 64) ∷ []))) (omega arith, (omega arith, (omega arith, tt))))
    by false false false = omega (arith, room_high ((240 + c / 262144) ∷ ((128 + c / 4096 % 64) ∷ ((128 + c / 64 % 64) ∷ ((128 + c % 64) ∷ [])))) (omega arith, (omega arith, (omega arith, (omega arith, tt)))))

pair_fits : (high : Option ℕ) (u : ℕ) → room (pair_text high u) ≤ 6
pair_fits None u = omega arith
pair_fits (Some high) u = encode_fits _

unit_fits : (high : Option ℕ) (u : ℕ) → room (unit_text high u) ≤ 6
unfolding unit_text
unit_fits high u = by (is_high_surrogate u) (is_low_surrogate u)
  where
    by : (p q : Bool) → room (cond p [] (cond q (pair_text high u) (encode_utf8 u))) ≤ 6
    by true q = omega arith
    by false true = pair_fits high u
    by false false = encode_fits u

-- an escape of two characters is printed in two at most

shorts_fit : AllByRecursion (λ c. length (escaped (short_char c)) ≤ 2) short_escapes
unfolding escaped short_char
shorts_fit = (omega arith, (omega arith, (omega arith, (omega arith, (omega arith, (omega arith, (omega arith, (omega arith, tt))))))))

among : (cs : List ℕ) (x : ℕ) → AllByRecursion (λ c. length (escaped (short_char c)) ≤ 2) cs → Contains cs x → length (escaped (short_char x)) ≤ 2
among [] x all h = absurd (omega (arith, h.1))
among (c ∷ cs) x all (zero, less, e) = subst (λ y. length (escaped (short_char y)) ≤ 2) e all.0
among (c ∷ cs) x all (suc k, less, e) = among cs x all.1 (k, omega arith, e)

pieces_fit : (high : Option ℕ) (ps : List Piece) → ArePieces ps → room (text_after high ps) + 1 ≤ length (pieces_spelled ps [])
pieces_fit high [] h = omega arith
pieces_fit high (byte x ∷ ps) h =
    let one : length (escaped x) ≡ 1 = ap (λ ys. length ys) (escaped_plain x h.0.0 (ne_eqb x 34 h.0.1) (ne_eqb x 92 h.0.2)) in
    omega (arith, room_more x (text_after None ps), pieces_fit None ps h.1)
pieces_fit high (short x ∷ ps) h =
    omega (arith, room_more (short_char x) (text_after None ps), among short_escapes x shorts_fit h.0, pieces_fit None ps h.1)
pieces_fit high (unit a b c d ∷ ps) h =
    let u = unit_of a b c d in
    omega (arith, room_append (unit_text high u) (text_after (high_of u) ps), unit_fits high u, pieces_fit (high_of u) ps h.1)

-- neither the text of a string nor its canonical spelling is longer than the string
pub record Fits (ps : List Piece) (after : List ℕ) : Type 0 where
  pub text : length (text_of ps) + length after + 1 ≤ length (pieces_spelled ps after)
  pub quoted : length (texts.quoted (text_of ps)) + length after ≤ length (34 ∷ pieces_spelled ps after)

pub string_fits : (ps : List Piece) (after : List ℕ) → IsString ps → Fits ps after
string_fits ps after h = record {
  text = omega (arith, pieces_length ps after, pieces_fit None ps h.0, text_fits (text_of ps));
  quoted = omega (arith, pieces_length ps after, pieces_fit None ps h.0, length-append (flat_map escaped (text_of ps)) (34 ∷ []));
}
