-- Values that hold no others are valid.
use Rattle.std.proofs.Common.{◌≡◌, refl, subst, ℕ, ◌+◌, ◌-◌, ◌%◌, ◌^◌, ◌<◌, ◌≤◌, ◌==◌, nat_lt, nat_le, Bool, true, false, cond, List, length, slice_index, pos, negsuc, int_lt, unsigned_abs, arith, lit<}
use Rattle.std.proofs.lemmas.Bool.Decides.{nat_tests}
use Rattle.std.specs.Str.{is_utf8}
use Rattle.exact_num.specs.Decimal.{IsNumber, least, shortened}
use Rattle.exact_num.specs.Unscaled.{half, little_integer, signed_number}
use Rattle.exact_num.proofs.Powers.{ten_grows}
use Rattle.exact_num.proofs.Shortening.{shortened_is}
use Rattle.exact_num.proofs.Signs.{signed_abs}
use Rattle.json_tree.specs.Json as json
use Rattle.json_tree.specs.Json.{Json, depth_of}
use Rattle.json_tree.specs.Valid.{IsValid}
use Rattle.vs_bytes.specs.Numbers.{number, part}
use Rattle.vs_bytes.specs.declared.rule.Rule.{Rule}
use Rattle.vs_bytes.proofs.Numbers.{number_fits}
use Rattle.variant_read.specs.Layout.{type_header}
use Rattle.variant_read.specs.Primitives.{Kind, constant_kind, unread_kind, decimal, integer_kind, decimal_kind, text_at, short_string, string_kind, kind_of, primitive, max_scale, unscaled_bound}
use Rattle.variant_write.specs.Conditions.{HasNames}
use Rattle.variant_laws.specs.Bytes.{AreBytes}
use Rattle.variant_laws.proofs.Holding.{Holds, holds_ok, holds_err, holds_if}

-- a valid value by these names that nests so deep at most, and has so many bytes at most
pub record IsGood (ns : List (List ℕ)) (room len : ℕ) (read : Json × ℕ) : Type 0 where
  pub valid : IsValid read.0
  pub named : HasNames ns read.0
  pub depth : depth_of read.0 ≤ room
  pub inside : read.1 ≤ len

-- what a kind gives of some bytes is good
abbrev pub GivesGood : List (List ℕ) → ℕ → Kind → Type 0
GivesGood ns room kind = (bytes : List ℕ) → AreBytes bytes → 0 < length bytes → Holds (IsGood ns room (length bytes)) (kind bytes)

pub good_if : (ns : List (List ℕ)) (room : ℕ) (b : Bool) (k m : Kind) → GivesGood ns room k → GivesGood ns room m → GivesGood ns room (cond b k m)
good_if ns room true k m f g = f
good_if ns room false k m f g = g

pub unread_good : (ns : List (List ℕ)) (room : ℕ) (rule : Rule) → GivesGood ns room (unread_kind rule)
unfolding unread_kind
unread_good ns room rule bytes are some = holds_err _ rule

constant_good : (ns : List (List ℕ)) (room : ℕ) (value : Json) → IsValid value → HasNames ns value → depth_of value ≡ 0 → GivesGood ns room (constant_kind value)
unfolding constant_kind
constant_good ns room value valid named flat bytes are some =
    holds_ok (IsGood ns room (length bytes)) (value, 1) (record { valid = valid; named = named; depth = omega (arith, flat); inside = omega (arith, some) })

-- Numbers.

least_number : (minus : Bool) (n places : ℕ) → n < 10 ^ 38 → places ≤ 38 → IsNumber (least minus n places)
least_number minus n places few low =
    let is = shortened_is n places in
    let split = is.split in
    let value = is.value in
    let more = ten_grows (shortened n places).0 is.zeros in
    let size = signed_abs minus (shortened n places).0 in
    record { size = omega (arith, size, value, more, few); places = omega (arith, split, low); least = λ h. is.lean (subst (λ (m : ℕ). m % 10 ≡ 0) size h) }

-- an integer of so many bytes
integer_small : (w : ℕ) (bytes : List ℕ) (at : ℕ) → AreBytes bytes → unsigned_abs (little_integer bytes at w) ≤ 256 ^ w
unfolding signed_number
integer_small w bytes at are = by (nat_lt (number bytes at w) (half w)) (number_fits bytes at w are)
  where
    by : (b : Bool) → number bytes at w < 256 ^ w → unsigned_abs (cond b (pos (number bytes at w)) (negsuc (256 ^ w - 1 - number bytes at w))) ≤ 256 ^ w
    by true h = omega (arith, h)
    by false h = omega (arith, h)

integer_good : (ns : List (List ℕ)) (room w : ℕ) → 256 ^ w < 10 ^ 38 → GivesGood ns room (integer_kind w)
unfolding integer_kind decimal
integer_good ns room w few bytes are some =
    let size = integer_small w bytes 1 are in
    let z = little_integer bytes 1 w in
    holds_if (IsGood ns room (length bytes)) (nat_lt (length bytes) (1 + w)) _ _ (λ _. holds_err _ _)
    (λ e. holds_ok (IsGood ns room (length bytes)) (json.number (least (int_lt z (pos 0)) (unsigned_abs z) 0), 1 + w)
    (record { valid = least_number (int_lt z (pos 0)) (unsigned_abs z) 0 (omega (arith, size, few)) (omega arith); named = tt; depth = omega arith; inside = grind (arith, nat_tests) }))

decimal_good : (ns : List (List ℕ)) (room w : ℕ) → GivesGood ns room (decimal_kind w)
unfolding decimal_kind decimal
decimal_good ns room w bytes are some =
    let z = little_integer bytes 2 w in
    holds_if (IsGood ns room (length bytes)) (nat_lt (length bytes) (2 + w)) _ _ (λ _. holds_err _ _) (λ there.
    holds_if (IsGood ns room (length bytes)) (nat_lt max_scale (slice_index bytes 1)) _ _ (λ _. holds_err _ _) (λ scale.
    holds_if (IsGood ns room (length bytes)) (nat_le unscaled_bound (unsigned_abs z)) _ _ (λ _. holds_err _ _) (λ digits.
    holds_ok (IsGood ns room (length bytes)) (json.number (least (int_lt z (pos 0)) (unsigned_abs z) (slice_index bytes 1)), 2 + w)
    (record { valid = least_number (int_lt z (pos 0)) (unsigned_abs z) (slice_index bytes 1) (grind (arith, nat_tests)) (grind (arith, nat_tests)); named = tt; depth = omega arith; inside = grind (arith, nat_tests) }))))

-- Texts.

text_good : (ns : List (List ℕ)) (room at len : ℕ) (bytes : List ℕ) → Holds (IsGood ns room (length bytes)) (text_at at len bytes)
unfolding text_at
text_good ns room at len bytes =
    holds_if (IsGood ns room (length bytes)) (nat_lt (length bytes) (at + len)) _ _ (λ _. holds_err _ _) (λ there.
    holds_if (IsGood ns room (length bytes)) (is_utf8 (part bytes at len)) _ _ (λ utf8.
    holds_ok (IsGood ns room (length bytes)) (json.text (part bytes at len), at + len) (record { valid = utf8; named = tt; depth = omega arith; inside = grind (arith, nat_tests) }))
    (λ _. holds_err _ _))

pub short_good : (ns : List (List ℕ)) (room : ℕ) → GivesGood ns room short_string
unfolding short_string
short_good ns room bytes are some = text_good ns room 1 (type_header bytes) bytes

string_good : (ns : List (List ℕ)) (room : ℕ) → GivesGood ns room string_kind
unfolding string_kind
string_good ns room bytes are some = text_good ns room 5 (number bytes 1 4) bytes

kind_good : (ns : List (List ℕ)) (room id : ℕ) → GivesGood ns room (kind_of id)
unfolding kind_of
kind_good ns room id =
    good_if ns room (id == 0) _ _ (constant_good ns room json.null tt tt refl)
    (good_if ns room (id == 1) _ _ (constant_good ns room (json.boolean true) tt tt refl)
    (good_if ns room (id == 2) _ _ (constant_good ns room (json.boolean false) tt tt refl)
    (good_if ns room (id == 3) _ _ (integer_good ns room 1 (lit< tt))
    (good_if ns room (id == 4) _ _ (integer_good ns room 2 (lit< tt))
    (good_if ns room (id == 5) _ _ (integer_good ns room 4 (lit< tt))
    (good_if ns room (id == 6) _ _ (integer_good ns room 8 (lit< tt))
    (good_if ns room (id == 7) _ _ (unread_good ns room _)
    (good_if ns room (id == 8) _ _ (decimal_good ns room 4)
    (good_if ns room (id == 9) _ _ (decimal_good ns room 8)
    (good_if ns room (id == 10) _ _ (decimal_good ns room 16)
    (good_if ns room (id == 14) _ _ (unread_good ns room _)
    (good_if ns room (id == 16) _ _ (string_good ns room)
    (good_if ns room (nat_le id 20) _ _ (unread_good ns room _) (unread_good ns room _))))))))))))))

pub primitive_good : (ns : List (List ℕ)) (room : ℕ) → GivesGood ns room primitive
unfolding primitive
primitive_good ns room bytes are some = kind_good ns room (type_header bytes) bytes are some
