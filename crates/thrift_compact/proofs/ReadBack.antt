-- What is written reads back: numbers and headers.
use Rattle.std.proofs.Common.{◌≡◌, refl, ℕ, zero, suc, ◌+◌, ◌-◌, ◌*◌, ◌/◌, ◌%◌, ◌^◌, ◌<◌, ◌≤◌, nat_lt, nat_le, ◌==◌, List, ◌∷◌, ◌++◌, length, ℤ, pos, negsuc, Some, Ok, Bool, true, false, arith, lit<, append_assoc}
use Rattle.std.proofs.Math.Nat.{pow-le-pow_right, pow-suc}
use Rattle.std.proofs.Math.Seq.{drop-append_seam, take-append_seam}
use Rattle.std.proofs.lemmas.Bool.Decides.{nat_tests}
use Rattle.std.proofs.lemmas.List.{length-append}
use Rattle.thrift_compact.specs.Numbers.{digits, varint, unzigzag, signed, int8, bytes_at, binary}
use Rattle.thrift_compact.specs.Headers.{is_type, field_id, field, list_size, list}
use Rattle.thrift_compact.specs.Coded.{digits_of, varint_bytes, zigzag, signed_bytes, int8_byte, binary_bytes, field_bytes, list_bytes}

-- Numbers.

digits_small : (room n : ℕ) (rest : List ℕ) → nat_lt n 128 ≡ true → digits (suc room) (digits_of (suc room) n ++ rest) ≡ Ok (n, rest)
unfolding digits digits_of
digits_small room n rest e = rw (e, e) refl

digits_more : (room n : ℕ) (rest : List ℕ) → nat_lt n 128 ≡ false → digits room (digits_of room (n / 128) ++ rest) ≡ Ok (n / 128, rest) → digits (suc room) (digits_of (suc room) n ++ rest) ≡ Ok (n, rest)
unfolding digits digits_of
digits_more room n rest e again =
    let big : nat_lt (n % 128 + 128) 128 ≡ false = grind (arith, nat_tests) in
    let sum : n % 128 + 128 - 128 + 128 * (n / 128) ≡ n = omega arith in
    rw (e, big, again, sum) refl

digits_again : (room n : ℕ) (rest : List ℕ) → n < 128 ^ suc room → digits (suc room) (digits_of (suc room) n ++ rest) ≡ Ok (n, rest)
digits_again zero n rest h = digits_small 0 n rest (grind (arith, nat_tests))
digits_again (suc room) n rest h =
    let power = pow-suc 128 (suc room) in
    let less : n / 128 < 128 ^ suc room = omega (arith, power, h) in
    by (nat_lt n 128) refl (digits_again room (n / 128) rest less)
  where
    by : (small : Bool) → nat_lt n 128 ≡ small → digits (suc room) (digits_of (suc room) (n / 128) ++ rest) ≡ Ok (n / 128, rest) → digits (suc (suc room)) (digits_of (suc (suc room)) n ++ rest) ≡ Ok (n, rest)
    by true e again = digits_small (suc room) n rest e
    by false e again = digits_more (suc room) n rest e again

pub varint_again : (n : ℕ) (rest : List ℕ) → n < 2 ^ 64 → varint (varint_bytes n ++ rest) ≡ Ok (n, rest)
unfolding varint varint_bytes
varint_again n rest h =
    let small : nat_lt n (2 ^ 64) ≡ true = grind (arith, nat_tests) in
    rw (digits_again 9 n rest (omega (arith, h)), small) refl

zigzag_again : (z : ℤ) → unzigzag (zigzag z) ≡ z
unfolding unzigzag
zigzag_again (pos n) =
    let even : (2 * n % 2 == 0) ≡ true = grind (arith, nat_tests) in
    let half : 2 * n / 2 ≡ n = omega arith in
    rw (even, half) refl
zigzag_again (negsuc n) =
    let odd : ((2 * n + 1) % 2 == 0) ≡ false = grind (arith, nat_tests) in
    let half : (2 * n + 1) / 2 ≡ n = omega arith in
    rw (odd, half) refl

pub signed_again : (bits : ℕ) (z : ℤ) (rest : List ℕ) → bits ≤ 64 → zigzag z < 2 ^ bits → signed bits (signed_bytes z ++ rest) ≡ Ok (z, rest)
unfolding signed signed_bytes
signed_again bits z rest most h =
    let top : 2 ^ bits ≤ 2 ^ 64 = pow-le-pow_right {n = 2} (lit< tt) most in
    let less : zigzag z < 2 ^ 64 = omega (arith, h, top) in
    let small : nat_lt (zigzag z) (2 ^ bits) ≡ true = grind (arith, nat_tests) in
    rw (varint_again (zigzag z) rest less, small, zigzag_again z) refl

pub int8_again : (z : ℤ) (rest : List ℕ) → zigzag z < 2 ^ 8 → int8 (int8_byte z ∷ rest) ≡ Ok (z, rest)
unfolding int8
int8_again (pos n) rest h =
    let small : nat_lt n 128 ≡ true = grind (arith, nat_tests) in
    rw small refl
int8_again (negsuc n) rest h =
    let big : nat_lt (255 - n) 128 ≡ false = grind (arith, nat_tests) in
    let same : 255 - (255 - n) ≡ n = omega (arith, h) in
    rw (big, same) refl

pub binary_again : (bytes rest : List ℕ) → length bytes < 2 ^ 64 → binary (binary_bytes bytes ++ rest) ≡ Ok (bytes, rest)
unfolding binary binary_bytes bytes_at
binary_again bytes rest h =
    let all = length-append bytes rest in
    let inside : nat_le (length bytes) (length (bytes ++ rest)) ≡ true = grind (arith, nat_tests) in
    rw (append_assoc (varint_bytes (length bytes)) bytes rest, varint_again (length bytes) (bytes ++ rest) h, inside, take-append_seam bytes rest, drop-append_seam bytes rest) refl

-- Headers.

pub kind_known : (kind : ℕ) → 1 ≤ kind → kind ≤ 12 → is_type kind ≡ true
unfolding is_type
kind_known kind low high =
    let one : nat_le 1 kind ≡ true = grind (arith, nat_tests) in
    let two : nat_le kind 12 ≡ true = grind (arith, nat_tests) in
    rw (one, two) refl

field_short : (last i kind : ℕ) (rest : List ℕ) → 1 ≤ kind → kind ≤ 12 → last < i → i ≤ last + 15 → i < 2 ^ 15 → field (pos last) (((i - last) * 16 + kind) ∷ rest) ≡ Ok (Some (pos i, kind), rest)
unfolding field field_id
field_short last i kind rest low high rises near small =
    let head : ((i - last) * 16 + kind == 0) ≡ false = grind (arith, nat_tests) in
    let delta : ((i - last) * 16 + kind) / 16 ≡ i - last = omega (arith, high) in
    let own : ((i - last) * 16 + kind) % 16 ≡ kind = omega (arith, high) in
    let more : (i - last == 0) ≡ false = grind (arith, nat_tests) in
    let sum : last + (i - last) ≡ i = omega (arith, rises) in
    let fits : nat_lt i (2 ^ 15) ≡ true = grind (arith, nat_tests) in
    rw (head, delta, own, more, sum, fits, kind_known kind low high) refl

field_long : (last i kind : ℕ) (rest : List ℕ) → 1 ≤ kind → kind ≤ 12 → i < 2 ^ 15 → field (pos last) (kind ∷ (signed_bytes (pos i) ++ rest)) ≡ Ok (Some (pos i, kind), rest)
unfolding field field_id
field_long last i kind rest low high small =
    let head : (kind == 0) ≡ false = grind (arith, nat_tests) in
    let delta : kind / 16 ≡ 0 = omega (arith, high) in
    let own : kind % 16 ≡ kind = omega (arith, high) in
    let less : 2 * i < 2 ^ 16 = omega (arith, small) in
    rw (head, delta, own, signed_again 16 (pos i) rest (omega arith) less, kind_known kind low high) refl

pub field_again : (last i kind : ℕ) (rest : List ℕ) → 1 ≤ kind → kind ≤ 12 → last < i → i < 2 ^ 15 → field (pos last) (field_bytes last i kind ++ rest) ≡ Ok (Some (pos i, kind), rest)
unfolding field_bytes
field_again last i kind rest low high rises small = by (nat_le i (last + 15)) refl
  where
    by : (near : Bool) → nat_le i (last + 15) ≡ near → field (pos last) (field_bytes last i kind ++ rest) ≡ Ok (Some (pos i, kind), rest)
    by true e =
        let test : nat_lt last i ≡ true = grind (arith, nat_tests) in
        let near : i ≤ last + 15 = grind (arith, nat_tests) in
        rw (test, e) (field_short last i kind rest low high rises near small)
    by false e =
        let test : nat_lt last i ≡ true = grind (arith, nat_tests) in
        rw (test, e) (field_long last i kind rest low high small)

pub list_again : (kind size : ℕ) (rest : List ℕ) → 1 ≤ kind → kind ≤ 12 → size < 2 ^ 32 → list (list_bytes kind size ++ rest) ≡ Ok ((kind, size), rest)
unfolding list list_size list_bytes
list_again kind size rest low high small = by (nat_lt size 15) refl
  where
    by : (short : Bool) → nat_lt size 15 ≡ short → list (list_bytes kind size ++ rest) ≡ Ok ((kind, size), rest)
    by true e =
        let front : (size * 16 + kind) / 16 ≡ size = omega (arith, high) in
        let own : (size * 16 + kind) % 16 ≡ kind = omega (arith, high) in
        let few : (size == 15) ≡ false = grind (arith, nat_tests) in
        let fits : nat_lt size (2 ^ 32) ≡ true = grind (arith, nat_tests) in
        rw (e, front, own, few, fits, kind_known kind low high) refl
    by false e =
        let front : (240 + kind) / 16 ≡ 15 = omega (arith, high) in
        let own : (240 + kind) % 16 ≡ kind = omega (arith, high) in
        let less : size < 2 ^ 64 = omega (arith, small) in
        let fits : nat_lt size (2 ^ 32) ≡ true = grind (arith, nat_tests) in
        rw (e, front, own, varint_again size rest less, fits, kind_known kind low high) refl
