-- What is passed over, by its parts.
use Rattle.std.proofs.Common.{◌≡◌, refl, ℕ, zero, suc, ◌+◌, ◌-◌, ◌<◌, ◌≤◌, nat_lt, List, if◌then◌else◌, ℤ, Result, Ok, Err, Bool, true, false, arith}
use Rattle.vs_bytes.specs.Outcome.{◌>>=◌}
use Rattle.vs_bytes.specs.declared.rule.Rule.{Rule}
use Rattle.vs_bytes.specs.declared.rule.Rule.TheVariants.{Thrift}
use Rattle.thrift_compact.specs.Headers.{is_type, field}
use Rattle.thrift_compact.specs.Skipping.{After, plain, element, elements, pairs, field_after, fields, container, level, skipped}

nothing : Result (List ℕ) Rule
nothing = Err Thrift

pub no_room : (room kind : ℕ) (bytes : List ℕ) → nat_lt kind 9 ≡ false → room ≡ 0 → skipped room kind bytes ≡ Err Thrift
unfolding skipped level nothing
no_room room kind bytes h z = rw (z, h) (by (is_type kind))
  where
    by : (known : Bool) → (if known then nothing else nothing) ≡ nothing
    by true = refl
    by false = refl

pub unknown : (room kind : ℕ) (bytes : List ℕ) → is_type kind ≡ false → skipped room kind bytes ≡ Err Thrift
unfolding skipped level
unknown zero kind bytes h = rw h refl
unknown (suc room) kind bytes h = rw h refl

pub plain_any : (room kind : ℕ) (bytes : List ℕ) → is_type kind ≡ true → nat_lt kind 9 ≡ true → skipped room kind bytes ≡ plain kind bytes
unfolding skipped level
plain_any zero kind bytes k h = rw (k, h) refl
plain_any (suc room) kind bytes k h = rw (k, h) refl

pub some_room : (room kind : ℕ) (bytes : List ℕ) → is_type kind ≡ true → nat_lt kind 9 ≡ false → 0 < room → skipped room kind bytes ≡ container (skipped (room - 1)) kind bytes
unfolding skipped level
some_room zero kind bytes k h more = absurd (omega (arith, more))
some_room (suc room) kind bytes k h more =
    let e : suc room - 1 ≡ room = omega arith in
    rw (k, h, e) refl

pub fields_turn : (inside : After) (len turn : ℕ) (last : ℤ) (bytes : List ℕ) → turn < len → fields inside (len - turn) last bytes ≡ (field last bytes >>= λ f. field_after inside (fields inside (len - (turn + 1))) f.0 f.1)
unfolding fields
fields_turn inside len turn last bytes h =
    let e : len - turn ≡ suc (len - (turn + 1)) = omega (arith, h) in
    rw e refl

pub fields_end : (inside : After) (len turn : ℕ) (last : ℤ) (bytes : List ℕ) → len ≤ turn → fields inside (len - turn) last bytes ≡ Err Thrift
unfolding fields
fields_end inside len turn last bytes h =
    let e : len - turn ≡ 0 = omega (arith, h) in
    rw e refl

pub elements_turn : (inside : After) (kind size turn : ℕ) (bytes : List ℕ) → turn < size → elements inside kind (size - turn) bytes ≡ (element inside kind bytes >>= elements inside kind (size - (turn + 1)))
unfolding elements
elements_turn inside kind size turn bytes h =
    let e : size - turn ≡ suc (size - (turn + 1)) = omega (arith, h) in
    rw e refl

pub elements_end : (inside : After) (kind size turn : ℕ) (bytes : List ℕ) → size ≤ turn → elements inside kind (size - turn) bytes ≡ Ok bytes
unfolding elements
elements_end inside kind size turn bytes h =
    let e : size - turn ≡ 0 = omega (arith, h) in
    rw e refl

pub pairs_turn : (inside : After) (key value size turn : ℕ) (bytes : List ℕ) → turn < size → pairs inside key value (size - turn) bytes ≡ (element inside key bytes >>= element inside value >>= pairs inside key value (size - (turn + 1)))
unfolding pairs
pairs_turn inside key value size turn bytes h =
    let e : size - turn ≡ suc (size - (turn + 1)) = omega (arith, h) in
    rw e refl

pub pairs_end : (inside : After) (key value size turn : ℕ) (bytes : List ℕ) → size ≤ turn → pairs inside key value (size - turn) bytes ≡ Ok bytes
unfolding pairs
pairs_end inside key value size turn bytes h =
    let e : size - turn ≡ 0 = omega (arith, h) in
    rw e refl
