-- Bytes that are appended.
use Rattle.std.proofs.Common.{◌≡◌, refl, ℕ, suc, ◌+◌, ◌-◌, ◌/◌, ◌%◌, ◌<◌, ◌≤◌, nat_lt, List, [], ◌∷◌, ◌++◌, if◌then◌else◌, false, Option, None, Some, IfSome, arith, append_assoc, append-nil}
use Rattle.std.proofs.lemmas.Bool.Decides.{nat_tests}
use Rattle.vs_bytes.specs.Outcome.{Grows}
use Rattle.vs_bytes.proofs.Growing.{grows_on}
use Rattle.thrift_compact.specs.Coded.{digits_of}

pub next_digit : (turn n : ℕ) → turn < 10 → digits_of (10 - turn) n ≡ (if nat_lt n 128 then n ∷ [] else (n % 128 + 128) ∷ digits_of (10 - (turn + 1)) (n / 128))
unfolding digits_of
next_digit turn n h =
    let e : 10 - turn ≡ suc (10 - (turn + 1)) = omega (arith, h) in
    rw e refl

pub more_digits : (turn n : ℕ) (old : List ℕ) → turn < 10 → 128 ≤ n → (old ++ (n % 128 + 128) ∷ []) ++ digits_of (10 - (turn + 1)) (n / 128) ≡ old ++ digits_of (10 - turn) n
more_digits turn n old h high =
    let big : nat_lt n 128 ≡ false = grind (arith, nat_tests) in
    rw (next_digit turn n h, big) (append_assoc old ((n % 128 + 128) ∷ []) (digits_of (10 - (turn + 1)) (n / 128)))

pub no_digits : (turn n : ℕ) (old : List ℕ) → 10 ≤ turn → old ++ digits_of (10 - turn) n ≡ old
unfolding digits_of
no_digits turn n old h =
    let e : 10 - turn ≡ 0 = omega (arith, h) in
    rw e (append-nil old)

-- a header, a value, and what follows
pub field_joined : (old head own more : List ℕ) → ((old ++ head) ++ own) ++ more ≡ old ++ (head ++ (own ++ more))
field_joined old head own more = simp append_assoc

pub joined : (old head own : List ℕ) → (old ++ head) ++ own ≡ old ++ (head ++ own)
joined old head own = append_assoc old head own

pub some_always : {A : Type 0} (x : Option A) → IfSome x (λ a. Unit {0})
some_always None = tt
some_always (Some a) = tt

-- parts that were appended one after the other
pub grows_four : (old one two three new : List ℕ) → Grows old one → Grows one two → Grows two three → Grows three new → Grows old new
grows_four old one two three new a b c d = grows_on old one new a (grows_on one two new b (grows_on two three new c d))
