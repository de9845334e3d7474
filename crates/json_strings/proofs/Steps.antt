-- What one part of a string adds to what was read of it.
use Rattle.std.proofs.Common.{◌≡◌, ◌∙◌, refl, ap, ℕ, zero, suc, ◌<◌, ◌≤◌, List, [], ◌∷◌, Bool, true, false, ◌||◌, ◌==◌, cond, Option, Some, None, take, drop, length, get_or, append_assoc, append-nil, arith}
use Rattle.std.specs.Prelude.{is_some, option_and_then}
use Rattle.std.specs.Option.{option_map}
use Rattle.std.specs.Str.{is_utf8}
use Rattle.json_strings.specs.Pieces.{Piece, byte, short, unit}
use Rattle.json_strings.specs.Meaning.{text_of, lone_of, short_char, unit_of}
use Rattle.json_strings.specs.Reading.{pieces_at, with_piece, is_plain, is_short, are_hex, string_at, quoted_at}
use Rattle.json_strings.specs.Content.{State, Quote, after_bytes, after_unit, completed, quote_from, quote_behind, quote_unit, plain_state, only_utf8}

or_assoc : (a b c : Bool) → (a || b) || c ≡ a || (b || c)
or_assoc true b c = refl
or_assoc false b c = refl

or_false : (a : Bool) → a || false ≡ a
or_false true = refl
or_false false = refl

pub byte_step : (s : State) (x : ℕ) (xs : List ℕ) → is_plain x ≡ true → quote_from s (x ∷ xs) ≡ quote_from (after_bytes s (x ∷ [])) xs
byte_step s x xs e = rw e (by (pieces_at xs))
  where
    by : (o : Option (List Piece × List ℕ)) → option_map (completed s) (option_map (with_piece (byte x)) o) ≡ option_map (completed (after_bytes s (x ∷ []))) o
    by None = refl
    by (Some read) = rw (append_assoc, or_assoc) refl

pub short_step : (s : State) (x : ℕ) (xs : List ℕ) → (x == 117) ≡ false → is_short x ≡ true → quote_behind s (x ∷ xs) ≡ quote_from (after_bytes s (short_char x ∷ [])) xs
short_step s x xs e f = rw (e, f) (by (pieces_at xs))
  where
    by : (o : Option (List Piece × List ℕ)) → option_map (completed s) (option_map (with_piece (short x)) o) ≡ option_map (completed (after_bytes s (short_char x ∷ []))) o
    by None = refl
    by (Some read) = rw (append_assoc, or_assoc) refl

pub unit_step : (s : State) (a b c d : ℕ) (xs : List ℕ) → are_hex a b c d ≡ true → quote_unit s (a ∷ (b ∷ (c ∷ (d ∷ xs)))) ≡ quote_from (after_unit s (unit_of a b c d)) xs
unit_step s a b c d xs e = rw e (by (pieces_at xs))
  where
    by : (o : Option (List Piece × List ℕ)) → option_map (completed s) (option_map (with_piece (unit a b c d)) o) ≡ option_map (completed (after_unit s (unit_of a b c d))) o
    by None = refl
    by (Some read) = rw (append_assoc, or_assoc) refl

-- bytes that are added one after the other are added at once
more_bytes : (s : State) (x : ℕ) (xs : List ℕ) → after_bytes (after_bytes s (x ∷ [])) xs ≡ after_bytes s (x ∷ xs)
more_bytes s x xs = rw (append_assoc, or_false) refl

pub run_step : (s : State) (n : ℕ) (xs : List ℕ) → n < length xs → ((k : ℕ) → k < suc n → is_plain (get_or xs k 0) ≡ true) → quote_from s xs ≡ quote_from (after_bytes s (take (suc n) xs)) (drop (suc n) xs)
run_step s n [] l h = absurd (omega arith)
run_step s zero (x ∷ xs) l h = byte_step s x xs (h 0 (omega arith))
run_step s (suc n) (x ∷ xs) l h =
    byte_step s x xs (h 0 (omega arith)) ∙ run_step (after_bytes s (x ∷ [])) n xs (omega arith) (λ k m. h (suc k) (omega arith))
    ∙ ap (λ t. quote_from t (drop (suc n) xs)) (more_bytes s x (take (suc n) xs))

pub run_begins : (n : ℕ) (xs : List ℕ) → n ≤ length xs → ((k : ℕ) → k < n → is_plain (get_or xs k 0) ≡ true) → quote_from (plain_state []) xs ≡ quote_from (plain_state (take n xs)) (drop n xs)
run_begins zero xs l h = refl
run_begins (suc n) xs l h = run_step (plain_state []) n xs (omega arith) h

pub quoted_by_state : (xs : List ℕ) → quoted_at xs ≡ only_utf8 (quote_from (plain_state []) xs)
unfolding string_at
quoted_by_state xs = by (pieces_at xs)
  where
    chosen : (b : Bool) (read : List Piece × List ℕ) → option_map {U = Quote} (λ r. (text_of r.0, lone_of r.0, r.1)) (cond b (Some read) None) ≡ cond b (Some (text_of read.0, lone_of read.0, read.1)) None
    chosen true read = refl
    chosen false read = refl

    by : (o : Option (List Piece × List ℕ)) → option_map {U = Quote} (λ r. (text_of r.0, lone_of r.0, r.1)) (option_and_then (λ r. cond (is_utf8 (text_of r.0)) (Some r) None) o) ≡ only_utf8 (option_map (completed (plain_state [])) o)
    by None = refl
    by (Some read) = chosen (is_utf8 (text_of read.0)) read

-- where a string ends, and where none can go on
pub ended : (s : State) (xs : List ℕ) → quote_from s (34 ∷ xs) ≡ Some (s.text, s.lone || is_some s.high, xs)
unfolding is_plain
ended s xs = rw append-nil refl

pub stopped : (s : State) (x : ℕ) (xs : List ℕ) → is_plain x ≡ false → (x == 34) ≡ false → (x == 92) ≡ false → quote_from s (x ∷ xs) ≡ None
stopped s x xs e f g = rw (e, f, g) refl
