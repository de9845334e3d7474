-- Values that hold no others, read back.
use Rattle.std.proofs.Common.{◌≡◌, ◌∙◌, refl, subst, ℕ, suc, ◌+◌, ◌*◌, ◌/◌, ◌%◌, ◌^◌, ◌<◌, ◌≤◌, ◌==◌, nat_lt, nat_le, Bool, true, false, cond, List, [], ◌∷◌, ◌++◌, length, drop, ℤ, pos, negsuc, unsigned_abs, Ok, arith, append_assoc}
use Rattle.std.specs.Str.{is_utf8}
use Rattle.std.proofs.Math.Seq.{take-append_seam}
use Rattle.std.proofs.lemmas.Bool.{le-ltb}
use Rattle.std.proofs.lemmas.Bool.Decides.{nat_tests}
use Rattle.std.proofs.lemmas.List.{length-append}
use Rattle.byteorder.specs.Numbers.{little_number-reads_back}
use Rattle.exact_num.specs.Decimal.{Decimal, IsNumber}
use Rattle.exact_num.specs.Unscaled.{half, reach, FitsBytes, little_integer_bytes, unsigned_number}
use Rattle.exact_num.proofs.Shortening.{shortened_lean}
use Rattle.exact_num.proofs.Signs.{sign_back}
use Rattle.exact_num.proofs.TwosComplement.{integer_back}
use Rattle.json_tree.specs.Json as json
use Rattle.vs_bytes.specs.Numbers.{number_bytes}
use Rattle.variant_read.specs.Layout.{basic_type, type_header}
use Rattle.variant_read.specs.Meaning.{by_basic_type, value_of}
use Rattle.variant_read.specs.Primitives.{Kind, constant_kind, decimal, integer_kind, decimal_kind, text_at, short_string, string_kind, kind_of, primitive, max_scale, unscaled_bound}
use Rattle.variant_write.specs.Primitives.{integer_bytes, decimal_bytes, fits_bytes, whole_bytes, fraction_bytes, decimal_coded, text_coded}
use Rattle.variant_laws.proofs.NumberLists.{number_len, past_number}
use Rattle.variant_laws.proofs.Walks.{Means}

-- Such bytes mean their value inside whatever holds them.
abbrev pub IsPlain : List ℕ → json.Json → Type 0
IsPlain bytes value = (inside : Kind) → Means (value_of inside) bytes value

some_bytes : (bytes : List ℕ) → 0 < length bytes → (length bytes == 0) ≡ false
some_bytes bytes h = grind (arith, nat_tests)

-- a primitive by its type id
by_id : (id : ℕ) (behind : List ℕ) (inside : Kind) → value_of inside (4 * id ∷ behind) ≡ kind_of id (4 * id ∷ behind)
unfolding value_of by_basic_type basic_type type_header primitive
by_id id behind inside =
    let basic : 4 * id % 4 ≡ 0 = omega arith in
    let header : 4 * id / 4 ≡ id = omega arith in
    rw (some_bytes (4 * id ∷ behind) (omega arith), basic, header) refl

pub null_read : IsPlain (0 ∷ []) json.null
unfolding kind_of constant_kind
null_read inside rest = by_id 0 rest inside

pub true_read : IsPlain (4 ∷ []) (json.boolean true)
unfolding kind_of constant_kind
true_read inside rest = by_id 1 rest inside

pub false_read : IsPlain (8 ∷ []) (json.boolean false)
unfolding kind_of constant_kind
false_read inside rest = by_id 2 rest inside

-- Numbers.

-- a number in least scale keeps its scale
pub least_is : (d : Decimal) → (unsigned_abs d.unscaled % 10 ≡ 0 → d.scale ≡ 0) → decimal d.unscaled d.scale ≡ json.number d
unfolding decimal
least_is d lean =
    rw (shortened_lean (unsigned_abs d.unscaled) d.scale lean, sign_back d.unscaled) refl

-- what stands of an integer's bytes before others
integer_there : (w : ℕ) (z : ℤ) (rest : List ℕ) → length (little_integer_bytes w z ++ rest) ≡ w + length rest
integer_there w z rest =
    let a = length-append (little_integer_bytes w z) rest in
    let b = number_len w (unsigned_number w z) in
    omega (arith, a, b)

integer_read : (id w : ℕ) (d : Decimal) → ((bytes : List ℕ) → kind_of id bytes ≡ integer_kind w bytes) → 1 ≤ w → FitsBytes w d.unscaled → d.scale ≡ 0 → IsPlain (integer_bytes id w d.unscaled) (json.number d)
unfolding integer_bytes integer_kind
integer_read id w d row wide fits whole inside rest =
    let there = integer_there w d.unscaled rest in
    let enough : nat_lt (suc (length (little_integer_bytes w d.unscaled ++ rest))) (1 + w) ≡ false = le-ltb _ _ (omega (arith, there)) in
    let size : 1 + w ≡ suc (length (little_integer_bytes w d.unscaled)) = (let n = number_len w (unsigned_number w d.unscaled) in omega (arith, n)) in
    let value : decimal d.unscaled 0 ≡ json.number d = subst (λ (k : ℕ). decimal d.unscaled k ≡ json.number d) whole (least_is d (λ _. whole)) in
    by_id id (little_integer_bytes w d.unscaled ++ rest) inside
    ∙ row (4 * id ∷ (little_integer_bytes w d.unscaled ++ rest))
    ∙ rw (enough, integer_back w d.unscaled rest wide fits, value, size) refl

decimal_read : (id w : ℕ) (d : Decimal) → ((bytes : List ℕ) → kind_of id bytes ≡ decimal_kind w bytes) → 1 ≤ w → FitsBytes w d.unscaled → IsNumber d → IsPlain (decimal_bytes id w d) (json.number d)
unfolding decimal_bytes decimal_kind
decimal_read id w d row wide fits is inside rest =
    let there = integer_there w d.unscaled rest in
    let places = is.places in
    let size = is.size in
    let enough : nat_lt (suc (suc (length (little_integer_bytes w d.unscaled ++ rest)))) (2 + w) ≡ false = le-ltb _ _ (omega (arith, there)) in
    let scale : nat_lt max_scale d.scale ≡ false = le-ltb _ _ places in
    let digits : nat_le unscaled_bound (unsigned_abs d.unscaled) ≡ false = grind (arith, nat_tests) in
    let len : 2 + w ≡ suc (suc (length (little_integer_bytes w d.unscaled))) = (let n = number_len w (unsigned_number w d.unscaled) in omega (arith, n)) in
    by_id id (d.scale ∷ (little_integer_bytes w d.unscaled ++ rest)) inside
    ∙ row (4 * id ∷ (d.scale ∷ (little_integer_bytes w d.unscaled ++ rest)))
    ∙ rw (enough, scale, integer_back w d.unscaled rest wide fits, digits, least_is d is.least, len) refl

-- an integer reaches no further than its size
reach_most : (z : ℤ) → reach z ≤ unsigned_abs z
reach_most (pos n) = omega arith
reach_most (negsuc n) = omega arith

passed : (w : ℕ) (z : ℤ) → fits_bytes w z ≡ true → FitsBytes w z
passed w z e = grind (arith, nat_tests)

four_hold : (z : ℤ) → unsigned_abs z < 10 ^ 9 → FitsBytes 4 z
unfolding half
four_hold z h = let r = reach_most z in omega (arith, r, h)

eight_hold : (z : ℤ) → unsigned_abs z < 10 ^ 18 → FitsBytes 8 z
unfolding half
eight_hold z h = let r = reach_most z in omega (arith, r, h)

sixteen_hold : (z : ℤ) → unsigned_abs z < 10 ^ 38 → FitsBytes 16 z
unfolding half
sixteen_hold z h = let r = reach_most z in omega (arith, r, h)

pub number_read : (d : Decimal) → IsNumber d → IsPlain (decimal_coded d) (json.number d)
unfolding decimal_coded whole_bytes fraction_bytes kind_of
number_read d is = by (d.scale == 0) refl
  where
    sixteen : IsPlain (decimal_bytes 10 16 d) (json.number d)
    sixteen = decimal_read 10 16 d (λ _. refl) (omega arith) (sixteen_hold d.unscaled is.size) is

    whole : d.scale ≡ 0 → (a : Bool) → fits_bytes 1 d.unscaled ≡ a → (b : Bool) → fits_bytes 2 d.unscaled ≡ b → (c : Bool) → fits_bytes 4 d.unscaled ≡ c → (e : Bool) → fits_bytes 8 d.unscaled ≡ e → IsPlain (cond a (integer_bytes 3 1 d.unscaled) (cond b (integer_bytes 4 2 d.unscaled) (cond c (integer_bytes 5 4 d.unscaled) (cond e (integer_bytes 6 8 d.unscaled) (decimal_bytes 10 16 d))))) (json.number d)
    whole z true p b q c r e s = integer_read 3 1 d (λ _. refl) (omega arith) (passed 1 d.unscaled p) z
    whole z false p true q c r e s = integer_read 4 2 d (λ _. refl) (omega arith) (passed 2 d.unscaled q) z
    whole z false p false q true r e s = integer_read 5 4 d (λ _. refl) (omega arith) (passed 4 d.unscaled r) z
    whole z false p false q false r true s = integer_read 6 8 d (λ _. refl) (omega arith) (passed 8 d.unscaled s) z
    whole z false p false q false r false s = sixteen

    fraction : (a : Bool) → nat_lt (unsigned_abs d.unscaled) (10 ^ 9) ≡ a → (b : Bool) → nat_lt (unsigned_abs d.unscaled) (10 ^ 18) ≡ b → IsPlain (cond a (decimal_bytes 8 4 d) (cond b (decimal_bytes 9 8 d) (decimal_bytes 10 16 d))) (json.number d)
    fraction true p b q = decimal_read 8 4 d (λ _. refl) (omega arith) (four_hold d.unscaled (grind (arith, nat_tests))) is
    fraction false p true q = decimal_read 9 8 d (λ _. refl) (omega arith) (eight_hold d.unscaled (grind (arith, nat_tests))) is
    fraction false p false q = sixteen

    by : (a : Bool) → (d.scale == 0) ≡ a → IsPlain (cond a (whole_bytes d) (fraction_bytes d)) (json.number d)
    by true e = whole (grind (arith, nat_tests)) (fits_bytes 1 d.unscaled) refl (fits_bytes 2 d.unscaled) refl (fits_bytes 4 d.unscaled) refl (fits_bytes 8 d.unscaled) refl
    by false e = fraction (nat_lt (unsigned_abs d.unscaled) (10 ^ 9)) refl (nat_lt (unsigned_abs d.unscaled) (10 ^ 18)) refl

-- Texts.

-- a text that stands in its place
text_is : (at : ℕ) (bytes s rest : List ℕ) → is_utf8 s ≡ true → drop at bytes ≡ s ++ rest → at + length s ≤ length bytes → text_at at (length s) bytes ≡ Ok (json.text s, at + length s)
unfolding text_at
text_is at bytes s rest utf8 place inside =
    let enough : nat_lt (length bytes) (at + length s) ≡ false = le-ltb _ _ inside in
    rw (enough, place, take-append_seam s rest, utf8) refl

short_read : (s : List ℕ) → is_utf8 s ≡ true → length s ≤ 63 → IsPlain ((1 + 4 * length s) ∷ s) (json.text s)
unfolding value_of by_basic_type basic_type type_header short_string
short_read s utf8 short inside rest =
    let all = (1 + 4 * length s) ∷ (s ++ rest) in
    let basic : (1 + 4 * length s) % 4 ≡ 1 = omega arith in
    let header : (1 + 4 * length s) / 4 ≡ length s = omega arith in
    let parts = length-append s rest in
    let size : 1 + length s ≡ suc (length s) = omega arith in
    rw (some_bytes all (omega arith), basic, header, text_is 1 all s rest utf8 refl (omega (arith, parts)), size) refl

string_read : (s : List ℕ) → is_utf8 s ≡ true → length s < 2 ^ 32 → IsPlain (64 ∷ (number_bytes 4 (length s) ++ s)) (json.text s)
unfolding kind_of string_kind
string_read s utf8 few inside rest =
    let n = length s in
    let all = 64 ∷ (number_bytes 4 n ++ (s ++ rest)) in
    let parts = length-append (number_bytes 4 n) (s ++ rest) in
    let more = length-append s rest in
    let own = number_len 4 n in
    let short = length-append (number_bytes 4 n) s in
    let size : 5 + n ≡ suc (length (number_bytes 4 n ++ s)) = omega (arith, short, own) in
    let value : string_kind all ≡ Ok (json.text s, 5 + n) = rw (little_number-reads_back 4 n (s ++ rest) few) (text_is 5 all s rest utf8 (past_number 4 n 0 (s ++ rest)) (omega (arith, parts, more, own))) in
    rw (append_assoc (number_bytes 4 n) s rest) (by_id 16 (number_bytes 4 n ++ (s ++ rest)) inside ∙ rw (value, size) refl)

pub text_read : (s : List ℕ) → is_utf8 s ≡ true → length s < 2 ^ 32 → IsPlain (text_coded s) (json.text s)
unfolding text_coded
text_read s utf8 few = by (nat_le (length s) 63) refl
  where
    by : (b : Bool) → nat_le (length s) 63 ≡ b → IsPlain (cond b ((1 + 4 * length s) ∷ s) (64 ∷ (number_bytes 4 (length s) ++ s))) (json.text s)
    by true e = short_read s utf8 (grind (arith, nat_tests))
    by false e = string_read s utf8 few
