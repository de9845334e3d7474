-- The bytes of a varint, one after the other.
use Rattle.std.proofs.Common.{◌≡◌, refl, sym, ap, ℕ, suc, ◌+◌, ◌-◌, ◌*◌, ◌^◌, ◌<◌, ◌≤◌, nat_lt, List, [], ◌∷◌, if◌then◌else◌, Ok, Err, Bool, true, false, arith, lit<}
use Rattle.std.proofs.Math.Nat.{pow-le-pow_right, pow-suc, mul-le-mul}
use Rattle.vs_bytes.specs.Outcome.{◌>>=◌}
use Rattle.vs_bytes.specs.declared.rule.Rule.TheVariants.{Thrift}
use Rattle.thrift_compact.specs.Numbers.{Read, byte, digits}

-- a number above some digits
unfoldable pub raised : ℕ → ℕ → Read ℕ → Read ℕ
raised value place read = read >>= λ v. Ok (value + place * v.0, v.1)

abbrev pub digit : ℕ → ℕ → ℕ → ℕ × List ℕ → Read ℕ
digit value place room b = if nat_lt b.0 128 then Ok (value + place * b.0, b.1) else raised (value + place * (b.0 - 128)) (place * 128) (digits room b.1)

sum : (value place low more : ℕ) → value + place * (low + 128 * more) ≡ value + place * low + place * 128 * more
sum value place low more = omega arith

-- one byte more
step : (value place room : ℕ) (bytes : List ℕ) → raised value place (digits (suc room) bytes) ≡ (byte bytes >>= digit value place room)
unfolding raised digits
step value place room [] = refl
step value place room (b ∷ bytes) = by (nat_lt b 128) (digits room bytes)
  where
    by : (small : Bool) (more : Read ℕ) → raised value place (if small then Ok (b, bytes) else more >>= λ v. Ok (b - 128 + 128 * v.0, v.1)) ≡ (if small then Ok (value + place * b, bytes) else raised (value + place * (b - 128)) (place * 128) more)
    by true more = refl
    by false (Ok v) = ap (λ (n : ℕ). Ok (n, v.1)) (sum value place (b - 128) v.0)
    by false (Err fault) = refl

pub first_digits : (bytes : List ℕ) → raised 0 1 (digits 10 bytes) ≡ digits 10 bytes
unfolding raised
first_digits bytes = by (digits 10 bytes)
  where
    by : (read : Read ℕ) → raised 0 1 read ≡ read
    by (Ok v) = ap (λ (n : ℕ). Ok (n, v.1)) (omega arith)
    by (Err fault) = refl

pub next_digit : (value place turn : ℕ) (bytes : List ℕ) → turn < 10 → raised value place (digits (10 - turn) bytes) ≡ (byte bytes >>= digit value place (10 - (turn + 1)))
next_digit value place turn bytes h =
    let e : 10 - turn ≡ suc (10 - (turn + 1)) = omega (arith, h) in
    rw e (step value place (10 - (turn + 1)) bytes)

pub no_room : (value place turn : ℕ) (bytes : List ℕ) → 10 ≤ turn → raised value place (digits (10 - turn) bytes) ≡ Err Thrift
unfolding raised digits
no_room value place turn bytes h =
    let e : 10 - turn ≡ 0 = omega (arith, h) in
    rw e refl

pub place_small : (place turn : ℕ) → place ≡ 128 ^ turn → turn < 10 → place ≤ 2 ^ 63
place_small place turn e h =
    let less : turn ≤ 9 = omega (arith, h) in
    let top : 128 ^ turn ≤ 128 ^ 9 = pow-le-pow_right {n = 128} (lit< tt) less in
    omega (arith, top, e)

pub place_next : (place turn : ℕ) → place ≡ 128 ^ turn → place * 128 ≡ 128 ^ (turn + 1)
place_next place turn e =
    let more : suc turn ≡ turn + 1 = omega arith in
    rw (e, sym more) (sym (pow-suc 128 turn))

-- a digit at its place
pub digit_small : (place low : ℕ) → place ≤ 2 ^ 63 → low < 256 → place * low ≤ 2 ^ 63 * 256
digit_small place low p l =
    let less : low ≤ 256 = omega (arith, l) in
    mul-le-mul p less

-- digits below a place, and one more
pub value_next : (value place low : ℕ) → value < place → low < 128 → value + place * low < place * 128
value_next value place low v l =
    let same : place ≤ place = omega arith in
    let less : low + 1 ≤ 128 = omega (arith, l) in
    let most : place * (low + 1) ≤ place * 128 = mul-le-mul same less in
    omega (arith, v, most)
