-- The canonical texts of numbers and strings are UTF-8: ASCII, apart from bytes within strings that stand for themselves.
use Rattle.std.proofs.Common.{◌≡◌, refl, sym, subst, ℕ, zero, suc, ◌<◌, ◌≤◌, nat_lt, List, [], ◌∷◌, ◌++◌, flat_map, Bool, true, false, cond, arith, ne_eqb}
use Rattle.std.specs.Char.{IsScalar, encode_utf8}
use Rattle.std.specs.List.{AllByRecursion}
use Rattle.std.specs.Str.{is_utf8, IsUtf8, IsAscii, encode_utf8_all, all_scalars}
use Rattle.std.proofs.lemmas.Bool.{and_parts}
use Rattle.std.proofs.lemmas.Bool.Decides.{nat_tests}
use Rattle.std.proofs.lemmas.Grind.{flat_map-append}
use Rattle.std.proofs.lemmas.Str.{encode_ascii, IsUtf8-append, IsUtf8-encode, IsUtf8-from_ascii, IsUtf8-from_is_utf8, IsUtf8-nil}
use Rattle.json_tree.specs.Text.{escaped, quoted}
use Rattle.json_grammar.specs.Grammar.{IsNumber}
use Rattle.byte_parsing.specs.Words.{is_numeric}
use Rattle.byte_parsing.specs.Parse.{Passes}
use Rattle.json_grammar.proofs.Numbers.{number_passes}
use Rattle.json_tree.proofs.QuotedStrings.{shown}

abbrev pub AllAscii : List ℕ → Type 0
AllAscii bytes = AllByRecursion (λ b. b < 128) bytes

ascii_at : (bytes : List ℕ) → AllAscii bytes → IsAscii bytes
ascii_at [] h zero = omega arith
ascii_at [] h (suc i) = omega arith
ascii_at (b ∷ bytes) h zero = h.0
ascii_at (b ∷ bytes) h (suc i) = ascii_at bytes h.1 i

pub ascii_is_utf8 : (bytes : List ℕ) → AllAscii bytes → IsUtf8 bytes
ascii_is_utf8 bytes h = IsUtf8-from_ascii bytes (ascii_at bytes h)

-- numbers

numeric_low : (x : ℕ) → is_numeric x ≡ true → x < 128
numeric_low x h = grind (arith, nat_tests)

all_low : (xs : List ℕ) → Passes is_numeric xs → AllAscii xs
all_low [] h = tt
all_low (x ∷ xs) h = (numeric_low x h.0, all_low xs h.1)

pub number_is_utf8 : (s : List ℕ) → IsNumber s → IsUtf8 s
number_is_utf8 s h = ascii_is_utf8 s (all_low s (number_passes s h))

-- bytes that are not ASCII stand for themselves

high_shown : (x : ℕ) → 128 ≤ x → escaped x ≡ x ∷ []
unfolding escaped
high_shown x h =
    let large : nat_lt x 32 ≡ false = grind (arith, nat_tests) in
    rw (ne_eqb x 34 (omega arith), ne_eqb x 92 (omega arith), ne_eqb x 8 (omega arith), ne_eqb x 9 (omega arith), ne_eqb x 10 (omega arith), ne_eqb x 12 (omega arith), ne_eqb x 13 (omega arith), large) refl

abbrev AllHigh : List ℕ → Type 0
AllHigh bytes = AllByRecursion (λ b. 128 ≤ b) bytes

all_shown : (bytes : List ℕ) → AllHigh bytes → flat_map escaped bytes ≡ bytes
all_shown [] h = refl
all_shown (b ∷ bytes) h = rw (high_shown b h.0, all_shown bytes h.1) refl

high_if : (b : Bool) (xs ys : List ℕ) → AllHigh xs → AllHigh ys → AllHigh (cond b xs ys)
high_if true xs ys h k = h
high_if false xs ys h k = k

encoded_high : (c : ℕ) → nat_lt c 128 ≡ false → AllHigh (encode_utf8 c)
unfolding encode_utf8
encoded_high c e = rw e (
    high_if (nat_lt c 2048) _ _ (omega arith, (omega arith, tt))
    (high_if (nat_lt c 65536) _ _ (omega arith, (omega arith, (omega arith, tt))) (omega arith, (omega arith, (omega arith, (omega arith, tt))))))

char_is_utf8 : (c : ℕ) → IsScalar c → IsUtf8 (flat_map escaped (encode_utf8 c))
char_is_utf8 c s = by (nat_lt c 128) refl
  where
    by : (b : Bool) → nat_lt c 128 ≡ b → IsUtf8 (flat_map escaped (encode_utf8 c))
    by true e =
        let low : c < 128 = grind (arith, nat_tests) in
        subst (λ (bytes : List ℕ). IsUtf8 (flat_map escaped bytes)) (sym (encode_ascii c low)) (IsUtf8-append (escaped c) [] (ascii_is_utf8 (escaped c) ((shown c).ascii low)) IsUtf8-nil)
    by false e = subst IsUtf8 (sym (all_shown (encode_utf8 c) (encoded_high c e))) (IsUtf8-encode c s)

chars_are_utf8 : (cs : List ℕ) → all_scalars cs ≡ true → IsUtf8 (flat_map escaped (encode_utf8_all cs))
chars_are_utf8 [] h = IsUtf8-nil
chars_are_utf8 (c ∷ cs) h =
    let both = and_parts _ _ h in
    subst IsUtf8 (sym (flat_map-append escaped (encode_utf8 c) (encode_utf8_all cs)))
    (IsUtf8-append (flat_map escaped (encode_utf8 c)) (flat_map escaped (encode_utf8_all cs)) (char_is_utf8 c both.0) (chars_are_utf8 cs both.1))

quote_is_utf8 : IsUtf8 (34 ∷ [])
quote_is_utf8 = ascii_is_utf8 (34 ∷ []) (omega arith, tt)

pub quoted_is_utf8 : (s : List ℕ) → is_utf8 s ≡ true → IsUtf8 (quoted s)
quoted_is_utf8 s h =
    let u = IsUtf8-from_is_utf8 s h in
    let inner : IsUtf8 (flat_map escaped s) = subst (λ (bytes : List ℕ). IsUtf8 (flat_map escaped bytes)) u.1.1 (chars_are_utf8 u.0 u.1.0) in
    IsUtf8-append (34 ∷ []) (flat_map escaped s ++ 34 ∷ []) quote_is_utf8 (IsUtf8-append (flat_map escaped s) (34 ∷ []) inner quote_is_utf8)
