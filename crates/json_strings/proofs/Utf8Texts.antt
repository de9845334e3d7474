-- A string that stands in UTF-8 bytes means UTF-8 text.
use Rattle.std.proofs.Common.{◌≡◌, ◌∙◌, refl, ap, subst, ℕ, suc, ◌+◌, ◌^◌, ◌≤◌, ◌<◌, List, [], ◌∷◌, ◌++◌, Bool, true, false, cond, Option, Some, None, take, drop, length, get_or, append_assoc, append-nil, arith}
use Rattle.std.specs.Prelude.{IfSome}
use Rattle.std.specs.Option.{option_map}
use Rattle.std.specs.Prelude.{option_and_then}
use Rattle.std.specs.Char.{digit_value, encode_utf8, IsScalar}
use Rattle.std.specs.Char.Utf16.{is_high_surrogate, is_low_surrogate, surrogate_pair_char}
use Rattle.std.specs.Str.{IsUtf8, is_utf8, IsCharBoundary}
use Rattle.std.proofs.lemmas.Bool.Decides.{nat_tests}
use Rattle.std.proofs.lemmas.Str.{IsUtf8-append, IsUtf8-nil, IsUtf8-encode, IsUtf8-take, IsUtf8-drop, IsCharBoundary-before_ascii, IsCharBoundary-after_ascii, is_utf8-from_IsUtf8, encode_ascii}
use Rattle.json_strings.specs.Pieces.{Piece, byte, short, unit, ArePieces, IsPiece, IsHexDigit, pieces_spelled}
use Rattle.json_strings.specs.Meaning.{IsString, lone_of, text_after, text_of, short_char, unit_of, high_of, pair_text, unit_text}
use Rattle.json_strings.specs.Reading.{is_plain, is_short, is_hex, pieces_at, string_at, quoted_at}
use Rattle.json_strings.specs.Content.{Quote, completed, quote_from, plain_state}
use Rattle.json_strings.proofs.Digits.{short_passes, hex_passes}
use Rattle.json_strings.proofs.Holds.{Holds}
use Rattle.json_strings.proofs.Strings.{IsReadOf, pieces_sound}

-- Cuts at an ASCII byte.

byte_there : (before after : List ℕ) (x : ℕ) → get_or (before ++ x ∷ after) (length before) 0 ≡ x
byte_there [] after x = refl
byte_there (b ∷ before) after x = byte_there before after x

inside : (before after : List ℕ) (x : ℕ) → length before < length (before ++ x ∷ after)
inside [] after x = omega arith
inside (b ∷ before) after x = omega (arith, inside before after x)

front_there : (before after : List ℕ) (x : ℕ) → take (length before) (before ++ x ∷ after) ≡ before
front_there [] after x = refl
front_there (b ∷ before) after x = ap (λ ys. b ∷ ys) (front_there before after x)

back_there : (before after : List ℕ) (x : ℕ) → drop (suc (length before)) (before ++ x ∷ after) ≡ after
back_there [] after x = refl
back_there (b ∷ before) after x = back_there before after x

pub before_ascii : (before after : List ℕ) (x : ℕ) → x < 128 → IsUtf8 (before ++ x ∷ after) → IsUtf8 before
before_ascii before after x small u =
    let low : get_or (before ++ x ∷ after) (length before) 0 < 128 = omega (arith, byte_there before after x) in
    subst IsUtf8 (front_there before after x) (IsUtf8-take (before ++ x ∷ after) (length before) u (IsCharBoundary-before_ascii (before ++ x ∷ after) (length before) (inside before after x) low))

pub after_ascii : (before after : List ℕ) (x : ℕ) → x < 128 → IsUtf8 (before ++ x ∷ after) → IsUtf8 after
after_ascii before after x small u =
    let low : get_or (before ++ x ∷ after) (length before) 0 < 128 = omega (arith, byte_there before after x) in
    let place : length before + 1 ≡ suc (length before) = omega arith in
    subst IsUtf8 (ap (λ n. drop n (before ++ x ∷ after)) place ∙ back_there before after x) (IsUtf8-drop (before ++ x ∷ after) (length before + 1) u (IsCharBoundary-after_ascii (before ++ x ∷ after) (length before) u (inside before after x) low))

-- What escapes mean.

pub one_is_utf8 : (x : ℕ) → x < 128 → IsUtf8 (x ∷ [])
one_is_utf8 x h = let scalar : IsScalar x = grind (arith, nat_tests) in subst IsUtf8 (encode_ascii x h) (IsUtf8-encode x scalar)

hex_is_ascii : (x : ℕ) → IsHexDigit x → x < 128
hex_is_ascii x h = grind arith

short_is_ascii : (x : ℕ) → IsPiece (short x) → x < 128
unfolding is_short
short_is_ascii x h = let test : is_short x ≡ true = short_passes x h in grind (arith, nat_tests)

char_is_ascii : (x : ℕ) → x < 128 → short_char x < 128
unfolding short_char
char_is_ascii x h = grind (arith, nat_tests)

digit_is_small : (x : ℕ) → is_hex x ≡ true → digit_value x < 16
digit_is_small x h = grind (arith, nat_tests)

unit_is_small : (a b c d : ℕ) → IsPiece (unit a b c d) → unit_of a b c d < 2 ^ 16
unfolding unit_of
unit_is_small a b c d h =
    let p = digit_is_small a (hex_passes a h.0) in
    let q = digit_is_small b (hex_passes b h.1) in
    let r = digit_is_small c (hex_passes c h.2) in
    let s = digit_is_small d (hex_passes d h.3) in
    omega (arith, p, q, r, s)

-- a surrogate that waits for its partner is a high one
abbrev pub IsHigh : Option ℕ → Type 0
IsHigh high = IfSome high (λ h. is_high_surrogate h ≡ true)

high_waits : (u : ℕ) → IsHigh (high_of u)
unfolding high_of
high_waits u = by (is_high_surrogate u) refl
  where
    by : (b : Bool) → is_high_surrogate u ≡ b → IsHigh (cond b (Some u) None)
    by true e = e
    by false e = tt

pair_is_scalar : (high low : ℕ) → is_high_surrogate high ≡ true → is_low_surrogate low ≡ true → IsScalar (surrogate_pair_char high low)
pair_is_scalar high low h k = grind (arith, nat_tests)

pair_is_utf8 : (high : Option ℕ) (low : ℕ) → IsHigh high → is_low_surrogate low ≡ true → IsUtf8 (pair_text high low)
pair_is_utf8 None low h k = IsUtf8-nil
pair_is_utf8 (Some high) low h k = IsUtf8-encode (surrogate_pair_char high low) (pair_is_scalar high low h k)

alone_is_scalar : (u : ℕ) → u < 2 ^ 16 → is_high_surrogate u ≡ false → is_low_surrogate u ≡ false → IsScalar u
alone_is_scalar u small h k = grind (arith, nat_tests)

pub unit_is_utf8 : (high : Option ℕ) (u : ℕ) → IsHigh high → u < 2 ^ 16 → IsUtf8 (unit_text high u)
unfolding unit_text
unit_is_utf8 high u h small = by (is_high_surrogate u) refl (is_low_surrogate u) refl
  where
    by : (b : Bool) → is_high_surrogate u ≡ b → (d : Bool) → is_low_surrogate u ≡ d → IsUtf8 (cond b [] (cond d (pair_text high u) (encode_utf8 u)))
    by true e d f = IsUtf8-nil
    by false e true f = pair_is_utf8 high u h f
    by false e false f = IsUtf8-encode u (alone_is_scalar u small e f)

-- what is after the digits of an escape
digits_behind : (a b c d : ℕ) (rest run : List ℕ) → IsPiece (unit a b c d) → IsUtf8 (run ++ (92 ∷ (117 ∷ (a ∷ (b ∷ (c ∷ (d ∷ rest))))))) → IsUtf8 rest
digits_behind a b c d rest run h u =
    let slash = after_ascii run (117 ∷ (a ∷ (b ∷ (c ∷ (d ∷ rest))))) 92 (omega arith) u in
    let first = after_ascii [] (a ∷ (b ∷ (c ∷ (d ∷ rest)))) 117 (omega arith) slash in
    let second = after_ascii [] (b ∷ (c ∷ (d ∷ rest))) a (hex_is_ascii a h.0) first in
    let third = after_ascii [] (c ∷ (d ∷ rest)) b (hex_is_ascii b h.1) second in
    let fourth = after_ascii [] (d ∷ rest) c (hex_is_ascii c h.2) third in
    after_ascii [] rest d (hex_is_ascii d h.3) fourth

-- Bytes `run` of the string that stand for themselves come before the pieces: a character may have bytes in both.

pub text_is_utf8 : (ps : List Piece) (after run : List ℕ) (high : Option ℕ) → ArePieces ps → IsHigh high → IsUtf8 (run ++ pieces_spelled ps after) → IsUtf8 (run ++ text_after high ps)
text_is_utf8 [] after run high h k u = rw append-nil (before_ascii run after 34 (omega arith) u)
text_is_utf8 (byte x ∷ ps) after run high h k u =
    rw append_assoc at (text_is_utf8 ps after (run ++ x ∷ []) None h.1 tt (rw append_assoc u))
text_is_utf8 (short x ∷ ps) after run high h k u =
    let low : x < 128 = short_is_ascii x h.0 in
    let behind : IsUtf8 (x ∷ pieces_spelled ps after) = after_ascii run (x ∷ pieces_spelled ps after) 92 (omega arith) u in
    let rest : IsUtf8 (text_after None ps) = text_is_utf8 ps after [] None h.1 tt (after_ascii [] (pieces_spelled ps after) x low behind) in
    IsUtf8-append run (short_char x ∷ text_after None ps) (before_ascii run (x ∷ pieces_spelled ps after) 92 (omega arith) u)
    (IsUtf8-append (short_char x ∷ []) (text_after None ps) (one_is_utf8 (short_char x) (char_is_ascii x low)) rest)
text_is_utf8 (unit a b c d ∷ ps) after run high h k u =
    let digits = h.0 in
    let last = digits_behind a b c d (pieces_spelled ps after) run digits u in
    let rest : IsUtf8 (text_after (high_of (unit_of a b c d)) ps) = text_is_utf8 ps after [] (high_of (unit_of a b c d)) h.1 (high_waits (unit_of a b c d)) last in
    IsUtf8-append run (unit_text high (unit_of a b c d) ++ text_after (high_of (unit_of a b c d)) ps) (before_ascii run (117 ∷ (a ∷ (b ∷ (c ∷ (d ∷ pieces_spelled ps after))))) 92 (omega arith) u)
    (IsUtf8-append (unit_text high (unit_of a b c d)) (text_after (high_of (unit_of a b c d)) ps) (unit_is_utf8 high (unit_of a b c d) k (unit_is_small a b c d digits)) rest)

-- what is after a string in UTF-8 bytes
pub behind_is_utf8 : (ps : List Piece) (after run : List ℕ) → ArePieces ps → IsUtf8 (run ++ pieces_spelled ps after) → IsUtf8 after
behind_is_utf8 [] after run h u = after_ascii run after 34 (omega arith) u
behind_is_utf8 (byte x ∷ ps) after run h u = behind_is_utf8 ps after (run ++ x ∷ []) h.1 (rw append_assoc u)
behind_is_utf8 (short x ∷ ps) after run h u =
    behind_is_utf8 ps after [] h.1 (after_ascii [] (pieces_spelled ps after) x (short_is_ascii x h.0) (after_ascii run (x ∷ pieces_spelled ps after) 92 (omega arith) u))
behind_is_utf8 (unit a b c d ∷ ps) after run h u = behind_is_utf8 ps after [] h.1 (digits_behind a b c d (pieces_spelled ps after) run h.0 u)

pub texts_are_utf8 : (ps : List Piece) (after : List ℕ) → ArePieces ps → IsUtf8 (pieces_spelled ps after) → IsUtf8 (text_of ps) × IsUtf8 after
texts_are_utf8 ps after h u = (text_is_utf8 ps after [] None h tt u, behind_is_utf8 ps after [] h u)

pub pieces_are_string : (ps : List Piece) (after : List ℕ) → ArePieces ps → IsUtf8 (pieces_spelled ps after) → IsString ps
pieces_are_string ps after h u = (h, is_utf8-from_IsUtf8 (text_of ps) (text_is_utf8 ps after [] None h tt u))

-- of UTF-8 bytes the text of a string need not be judged
pub judged_once : (xs : List ℕ) → IsUtf8 xs → string_at xs ≡ pieces_at xs
unfolding string_at
judged_once xs u = by (pieces_at xs) (pieces_sound xs)
  where
    by : (o : Option (List Piece × List ℕ)) → Holds (IsReadOf xs) o → option_and_then (λ read. cond (is_utf8 (text_of read.0)) (Some read) None) o ≡ o
    by None h = refl
    by (Some read) h =
        let known = h.here read refl in
        rw ((pieces_are_string read.0 read.1 known.pieces (subst IsUtf8 known.bytes u)).1) refl

pub quoted_unjudged : (xs : List ℕ) → IsUtf8 xs → quoted_at xs ≡ quote_from (plain_state []) xs
quoted_unjudged xs u = rw (judged_once xs u) (by (pieces_at xs))
  where
    by : (o : Option (List Piece × List ℕ)) → option_map {U = Quote} (λ r. (text_of r.0, lone_of r.0, r.1)) o ≡ option_map (completed (plain_state [])) o
    by None = refl
    by (Some read) = refl

-- a quoted string, wherever in UTF-8 bytes it stands
pub meant_utf8 : (before after : List ℕ) (ps : List Piece) → ArePieces ps → IsUtf8 (before ++ 34 ∷ pieces_spelled ps after) → IsUtf8 (text_of ps)
meant_utf8 before after ps h u = text_is_utf8 ps after [] None h tt (after_ascii before (pieces_spelled ps after) 34 (omega arith) u)

pub read_unjudged : (before xs : List ℕ) → IsUtf8 (before ++ 34 ∷ xs) → string_at xs ≡ pieces_at xs
read_unjudged before xs u = judged_once xs (after_ascii before xs 34 (omega arith) u)

-- UTF-8 bytes cut after the last of the leading ones that stand for themselves
plain_boundary : (xs : List ℕ) (n : ℕ) → n ≤ length xs → (n < length xs → is_plain (get_or xs n 0) ≡ false) → IsCharBoundary xs n
unfolding is_plain
plain_boundary xs n fits ended = (fits, λ below. let stop = ended below in grind (arith, nat_tests))

pub run_is_utf8 : (xs : List ℕ) (n : ℕ) → IsUtf8 xs → n ≤ length xs → (n < length xs → is_plain (get_or xs n 0) ≡ false) → IsUtf8 (take n xs)
run_is_utf8 xs n u fits ended = IsUtf8-take xs n u (plain_boundary xs n fits ended)

pub behind_run_is_utf8 : (xs : List ℕ) (n : ℕ) → IsUtf8 xs → n ≤ length xs → (n < length xs → is_plain (get_or xs n 0) ≡ false) → IsUtf8 (drop n xs)
behind_run_is_utf8 xs n u fits ended = IsUtf8-drop xs n u (plain_boundary xs n fits ended)
