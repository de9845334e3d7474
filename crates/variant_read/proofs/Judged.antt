-- Values that hold no others, where they were judged.
use Rattle.std.proofs.Common.{◌≡◌, refl, ℕ, ◌+◌, ◌<◌, ◌≤◌, List, length, slice_index, Bool, true, false, cond, Ok, Err, unsigned_abs, IsUtf8, arith}
use Rattle.std.specs.Prelude.{nat_lt, nat_le, is_ok}
use Rattle.std.specs.Str.{is_utf8}
use Rattle.std.proofs.lemmas.Bool.Decides.{nat_tests}
use Rattle.std.proofs.lemmas.Str.{IsUtf8-from_is_utf8}
use Rattle.exact_num.specs.Unscaled.{little_integer}
use Rattle.json_tree.specs.Json as json
use Rattle.vs_bytes.specs.Numbers.{number, part}
use Rattle.vs_bytes.specs.declared.rule.Rule.{Rule}
use Rattle.vs_bytes.specs.declared.rule.Rule.TheVariants.{ValueShort, DecimalScale, DecimalDigits, TextUtf8}
use Rattle.variant_read.specs.Primitives.{Meaning, decimal, unscaled_bound, max_scale, integer_kind, decimal_kind, text_at}
use Rattle.variant_read.specs.Meaning.{json_in}
use Rattle.variant_read.proofs.Unscaleds.{reach_most}

-- a test that is passed
pub passed : (b : Bool) (rule : Rule) (rest : Meaning) → is_ok (cond b (Err rule) rest) ≡ true → (b ≡ false) × (is_ok rest ≡ true)
passed true rule rest h = absurd (cc)
passed false rule rest h = (refl, h)

pub integer_there : (w : ℕ) (bytes : List ℕ) → is_ok (integer_kind w bytes) ≡ true → 1 + w ≤ length bytes
unfolding integer_kind
integer_there w bytes h =
    let test = (passed (nat_lt (length bytes) (1 + w)) ValueShort (Ok (decimal (little_integer bytes 1 w) 0, 1 + w)) h).0 in
    grind (arith, nat_tests)

pub integer_means : (w : ℕ) (bytes : List ℕ) → is_ok (integer_kind w bytes) ≡ true → json_in (integer_kind w bytes) ≡ Ok (decimal (little_integer bytes 1 w) 0)
unfolding integer_kind
integer_means w bytes h =
    let test = (passed (nat_lt (length bytes) (1 + w)) ValueShort (Ok (decimal (little_integer bytes 1 w) 0, 1 + w)) h).0 in
    rw test refl

record IsDecimal (w : ℕ) (bytes : List ℕ) : Type 0 where
  there : 2 + w ≤ length bytes
  scale : slice_index bytes 1 ≤ max_scale
  digits : unsigned_abs (little_integer bytes 2 w) < unscaled_bound
  means : json_in (decimal_kind w bytes) ≡ Ok (decimal (little_integer bytes 2 w) (slice_index bytes 1))

decimal_is : (w : ℕ) (bytes : List ℕ) → is_ok (decimal_kind w bytes) ≡ true → IsDecimal w bytes
unfolding decimal_kind
decimal_is w bytes h =
    let value : Meaning = Ok (decimal (little_integer bytes 2 w) (slice_index bytes 1), 2 + w) in
    let digits : Bool = nat_le unscaled_bound (unsigned_abs (little_integer bytes 2 w)) in
    let scale : Bool = nat_lt max_scale (slice_index bytes 1) in
    let one = passed (nat_lt (length bytes) (2 + w)) ValueShort (cond scale (Err DecimalScale) (cond digits (Err DecimalDigits) value)) h in
    let two = passed scale DecimalScale (cond digits (Err DecimalDigits) value) one.1 in
    let three = passed digits DecimalDigits value two.1 in
    let short_not : nat_lt (length bytes) (2 + w) ≡ false = one.0 in
    let scale_not : nat_lt max_scale (slice_index bytes 1) ≡ false = two.0 in
    let digits_not : nat_le unscaled_bound (unsigned_abs (little_integer bytes 2 w)) ≡ false = three.0 in
    record {
      there = grind (arith, nat_tests);
      scale = grind (arith, nat_tests);
      digits = grind (arith, nat_tests);
      means = rw (short_not, scale_not, digits_not) refl;
    }

pub decimal_there : (w : ℕ) (bytes : List ℕ) → is_ok (decimal_kind w bytes) ≡ true → 2 + w ≤ length bytes
decimal_there w bytes h = (decimal_is w bytes h).there

pub decimal_scale : (w : ℕ) (bytes : List ℕ) → is_ok (decimal_kind w bytes) ≡ true → slice_index bytes 1 ≤ max_scale
decimal_scale w bytes h = (decimal_is w bytes h).scale

pub decimal_digits : (w : ℕ) (bytes : List ℕ) → is_ok (decimal_kind w bytes) ≡ true → unsigned_abs (little_integer bytes 2 w) < unscaled_bound
decimal_digits w bytes h = (decimal_is w bytes h).digits

pub decimal_means : (w : ℕ) (bytes : List ℕ) → is_ok (decimal_kind w bytes) ≡ true → json_in (decimal_kind w bytes) ≡ Ok (decimal (little_integer bytes 2 w) (slice_index bytes 1))
decimal_means w bytes h = (decimal_is w bytes h).means

record IsText (at len : ℕ) (bytes : List ℕ) : Type 0 where
  there : at + len ≤ length bytes
  utf8 : is_utf8 (part bytes at len) ≡ true
  means : json_in (text_at at len bytes) ≡ Ok (json.text (part bytes at len))

text_is : (at len : ℕ) (bytes : List ℕ) → is_ok (text_at at len bytes) ≡ true → IsText at len bytes
unfolding text_at
text_is at len bytes h =
    let value : Meaning = Ok (json.text (part bytes at len), at + len) in
    let one = passed (nat_lt (length bytes) (at + len)) ValueShort (cond (is_utf8 (part bytes at len)) value (Err TextUtf8)) h in
    let short_not : nat_lt (length bytes) (at + len) ≡ false = one.0 in
    let utf8 : is_utf8 (part bytes at len) ≡ true = by (is_utf8 (part bytes at len)) value one.1 in
    record { there = grind (arith, nat_tests); utf8 = utf8; means = rw (short_not, utf8) refl }
  where
    by : (b : Bool) (value : Meaning) → is_ok (cond b value (Err TextUtf8)) ≡ true → b ≡ true
    by true value e = refl
    by false value e = absurd (cc)

pub text_there : (at len : ℕ) (bytes : List ℕ) → is_ok (text_at at len bytes) ≡ true → at + len ≤ length bytes
text_there at len bytes h = (text_is at len bytes h).there

pub text_utf8 : (at len : ℕ) (bytes : List ℕ) → is_ok (text_at at len bytes) ≡ true → IsUtf8 (part bytes at len)
text_utf8 at len bytes h = IsUtf8-from_is_utf8 (part bytes at len) (text_is at len bytes h).utf8

pub text_means : (at len : ℕ) (bytes : List ℕ) → is_ok (text_at at len bytes) ≡ true → json_in (text_at at len bytes) ≡ Ok (json.text (part bytes at len))
text_means at len bytes h = (text_is at len bytes h).means

pub integer_digits : (w : ℕ) (bytes : List ℕ) → is_ok (integer_kind w bytes) ≡ true → w ≤ 8 → unsigned_abs (little_integer bytes 1 w) < unscaled_bound
integer_digits w bytes judged h = reach_most w (number bytes 1 w) h
