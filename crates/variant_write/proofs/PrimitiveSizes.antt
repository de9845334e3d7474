-- How many bytes numbers and texts have, against their canonical text.
use Rattle.std.proofs.Common.{◌≡◌, ◌==◌, refl, ap, ◌∙◌, ℕ, zero, suc, ◌+◌, ◌*◌, ◌/◌, ◌%◌, ◌^◌, ◌≤◌, Bool, true, false, cond, nat_lt, nat_le, List, [], ◌∷◌, ◌++◌, length, length-append, ℤ, pos, negsuc, unsigned_abs, int_lt, decimal, flat_map, ne_eqb, eqb-true, arith}
use Rattle.std.proofs.lemmas.Bool.Decides.{nat_tests}
use Rattle.std.specs.Fmt.{digits, digits_onto, digit_glyph}
use Rattle.exact_num.specs.Decimal.{Decimal}
use Rattle.exact_num.specs.Spelling.{sign_text}
use Rattle.exact_num.specs.Text.{text_of, size_text}
use Rattle.exact_num.specs.Unscaled.{half, reach, unsigned_number}
use Rattle.exact_num.proofs.TextLengths.{whole_length, point_length}
use Rattle.json_tree.specs.Text.{escaped, quoted}
use Rattle.vs_bytes.specs.Numbers.{number_bytes}
use Rattle.variant_write.specs.Primitives.{integer_bytes, decimal_bytes, whole_bytes, fraction_bytes, decimal_coded, text_coded}
use Rattle.variant_write.proofs.Sizes.{number_len}

-- ---- texts

some_if : (b : Bool) (xs ys : List ℕ) → 1 ≤ length xs → 1 ≤ length ys → 1 ≤ length (cond b xs ys)
some_if true xs ys h g = h
some_if false xs ys h g = g

escaped_some : (x : ℕ) → 1 ≤ length (escaped x)
unfolding escaped
escaped_some x =
    some_if (x == 34) _ _ (omega arith) (
    some_if (x == 92) _ _ (omega arith) (
    some_if (x == 8) _ _ (omega arith) (
    some_if (x == 9) _ _ (omega arith) (
    some_if (x == 10) _ _ (omega arith) (
    some_if (x == 12) _ _ (omega arith) (
    some_if (x == 13) _ _ (omega arith) (
    some_if (nat_lt x 32) _ _ (omega arith) (omega arith))))))))

escaped_len : (s : List ℕ) → length s ≤ length (flat_map escaped s)
escaped_len [] = omega arith
escaped_len (x ∷ s) = omega (arith, length-append (escaped x) (flat_map escaped s), escaped_some x, escaped_len s)

pub quoted_len : (s : List ℕ) → 2 + length s ≤ length (quoted s)
quoted_len s = omega (arith, length-append (flat_map escaped s) (34 ∷ []), escaped_len s)

pub text_most : (s : List ℕ) → length (text_coded s) ≤ 6 * length (quoted s)
unfolding text_coded
text_most s = by (nat_le (length s) 63)
  where
    by : (b : Bool) → length (cond b ((1 + 4 * length s) ∷ s) (64 ∷ (number_bytes 4 (length s) ++ s))) ≤ 6 * length (quoted s)
    by true = omega (arith, quoted_len s)
    by false = omega (arith, quoted_len s, length-append (number_bytes 4 (length s)) s, number_len 4 (length s))

-- ---- the least count of digits

onto_grows : (k n : ℕ) (acc : List ℕ) → length acc ≤ length (digits_onto k 10 false n acc)
onto_grows zero n acc = omega arith
onto_grows (suc k) n acc = grown (n / 10 == 0) (onto_grows k (n / 10) (digit_glyph false (n % 10) ∷ acc))
  where
    grown : (b : Bool) → suc (length acc) ≤ length (digits_onto k 10 false (n / 10) (digit_glyph false (n % 10) ∷ acc)) → length acc ≤ length (cond b (digit_glyph false (n % 10) ∷ acc) (digits_onto k 10 false (n / 10) (digit_glyph false (n % 10) ∷ acc)))
    grown true h = omega arith
    grown false h = omega (arith, h)

onto_one : (k n : ℕ) (acc : List ℕ) → 1 + length acc ≤ length (digits_onto (suc k) 10 false n acc)
onto_one k n acc = grown (n / 10 == 0) (onto_grows k (n / 10) (digit_glyph false (n % 10) ∷ acc))
  where
    grown : (b : Bool) → suc (length acc) ≤ length (digits_onto k 10 false (n / 10) (digit_glyph false (n % 10) ∷ acc)) → 1 + length acc ≤ length (cond b (digit_glyph false (n % 10) ∷ acc) (digits_onto k 10 false (n / 10) (digit_glyph false (n % 10) ∷ acc)))
    grown true h = omega arith
    grown false h = omega (arith, h)

onto_step : (k n : ℕ) (acc : List ℕ) → 10 ≤ n → digits_onto (suc k) 10 false n acc ≡ digits_onto k 10 false (n / 10) (digit_glyph false (n % 10) ∷ acc)
onto_step k n acc h = rw (ne_eqb (n / 10) 0 (λ e. omega (arith, h, e))) refl

one_digit : (n : ℕ) → 1 ≤ length (decimal n)
unfolding digits
one_digit n = omega (arith, onto_one 63 n [])

three_digits : (n : ℕ) → 100 ≤ n → 3 ≤ length (decimal n)
unfolding digits
three_digits n h =
    let last : List ℕ = digit_glyph false (n % 10) ∷ [] in
    let one = onto_step 63 n [] (omega (arith, h)) in
    let two = onto_step 62 (n / 10) last (omega (arith, h)) in
    let more = onto_one 61 (n / 10 / 10) (digit_glyph false (n / 10 % 10) ∷ last) in
    rw (one, two) (omega (arith, more))

-- ---- numbers

reach_least : (z : ℤ) → reach z ≤ unsigned_abs z
reach_least (pos n) = omega arith
reach_least (negsuc n) = omega arith

sized : (d : Decimal) → length (size_text (unsigned_abs d.unscaled) d.scale) ≤ length (text_of d)
sized d = omega (arith, length-append (sign_text (int_lt d.unscaled (pos 0))) (size_text (unsigned_abs d.unscaled) d.scale))

integer_len : (id width : ℕ) (z : ℤ) → length (integer_bytes id width z) ≡ 1 + width
unfolding integer_bytes
integer_len id width z = omega (arith, number_len width (unsigned_number width z))

decimal_len : (id width : ℕ) (d : Decimal) → length (decimal_bytes id width d) ≡ 2 + width
unfolding decimal_bytes
decimal_len id width d = omega (arith, number_len width (unsigned_number width d.unscaled))

whole_most : (d : Decimal) (len : ℕ) → 1 ≤ len → (100 ≤ unsigned_abs d.unscaled → 3 ≤ len) → length (whole_bytes d) ≤ 6 * len
unfolding half whole_bytes
whole_most d len one more = by (nat_lt (reach d.unscaled) 128) (nat_lt (reach d.unscaled) 32768) (nat_lt (reach d.unscaled) 2147483648) refl (nat_lt (reach d.unscaled) 9223372036854775808)
  where
    by : (a b c : Bool) → nat_lt (reach d.unscaled) 2147483648 ≡ c → (e : Bool) → length (cond a (integer_bytes 3 1 d.unscaled) (cond b (integer_bytes 4 2 d.unscaled) (cond c (integer_bytes 5 4 d.unscaled) (cond e (integer_bytes 6 8 d.unscaled) (decimal_bytes 10 16 d))))) ≤ 6 * len
    by true b c x e = omega (arith, integer_len 3 1 d.unscaled, one)
    by false true c x e = omega (arith, integer_len 4 2 d.unscaled, one)
    by false false true x e = omega (arith, integer_len 5 4 d.unscaled, one)
    by false false false x true =
        let far : 2147483648 ≤ reach d.unscaled = grind (arith, nat_tests) in
        omega (arith, integer_len 6 8 d.unscaled, more (omega (arith, far, reach_least d.unscaled)))
    by false false false x false =
        let far : 2147483648 ≤ reach d.unscaled = grind (arith, nat_tests) in
        omega (arith, decimal_len 10 16 d, more (omega (arith, far, reach_least d.unscaled)))

fraction_most : (d : Decimal) (len : ℕ) → 3 ≤ len → length (fraction_bytes d) ≤ 6 * len
unfolding fraction_bytes
fraction_most d len three = by (nat_lt (unsigned_abs d.unscaled) (10 ^ 9)) (nat_lt (unsigned_abs d.unscaled) (10 ^ 18))
  where
    by : (a b : Bool) → length (cond a (decimal_bytes 8 4 d) (cond b (decimal_bytes 9 8 d) (decimal_bytes 10 16 d))) ≤ 6 * len
    by true b = omega (arith, decimal_len 8 4 d, three)
    by false true = omega (arith, decimal_len 9 8 d, three)
    by false false = omega (arith, decimal_len 10 16 d, three)

whole_of : (size scale : ℕ) → (scale == 0) ≡ true → size / 10 ^ scale ≡ size
whole_of size scale e = rw (eqb-true scale 0 e) (omega arith)

pub number_most : (d : Decimal) → length (decimal_coded d) ≤ 6 * length (text_of d)
unfolding decimal_coded
number_most d = by (d.scale == 0) refl
  where
    by : (b : Bool) → (d.scale == 0) ≡ b → length (cond b (whole_bytes d) (fraction_bytes d)) ≤ 6 * length (text_of d)
    by true e =
        let len : length (size_text (unsigned_abs d.unscaled) d.scale) ≡ length (decimal (unsigned_abs d.unscaled)) = whole_length (unsigned_abs d.unscaled) d.scale e ∙ ap (λ n. length (decimal n)) (whole_of (unsigned_abs d.unscaled) d.scale e) in
        whole_most d (length (text_of d)) (omega (arith, sized d, len, one_digit (unsigned_abs d.unscaled))) (λ h. omega (arith, sized d, len, three_digits (unsigned_abs d.unscaled) h))
    by false e =
        let some : 1 ≤ d.scale = grind (arith, nat_tests) in
        fraction_most d (length (text_of d)) (omega (arith, sized d, point_length (unsigned_abs d.unscaled) d.scale e, one_digit (unsigned_abs d.unscaled / 10 ^ d.scale), some))
