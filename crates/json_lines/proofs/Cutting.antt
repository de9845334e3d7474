-- What the first bytes of an input say of its lines, whatever comes after them.
use Rattle.std.proofs.Common.{◌≡◌, ◌∙◌, ℕ, zero, suc, ◌+◌, ◌-◌, ◌<◌, ◌≤◌, true, false, ◌==◌, List, [], ◌∷◌, ◌++◌, take, drop, length, get_or, append_assoc, refl, sym, ap, arith}
use Rattle.std.proofs.lemmas.Bool.{ne_eqb, eqb-true, false_from_ne_true, lt-ltb, le-ltb}
use Rattle.std.proofs.lemmas.List.{length-append, take_more, take-append-drop}
use Rattle.memchr.specs.Find.{Nowhere, Passes, is_byte}
use Rattle.json_lines.specs.Cut.{Lines, none, last, over, line, found_long, prepended, lines_of, max_line, is_long, first_line}
use Rattle.json_lines.specs.Front.{last_line}

counts : (room : ℕ) → 0 < room → (room == 0) ≡ false
counts room h = ne_eqb room 0 (omega arith)

-- an LF ends the line
pub at_end : (room x : ℕ) (xs : List ℕ) → 0 < room → (x == 10) ≡ true → lines_of room (x ∷ xs) ≡ line [] (lines_of (room - 1) xs)
unfolding lines_of
at_end room x xs h e = rw (counts room h, e) refl

-- another byte is the first of the first line
pub in_line : (room x : ℕ) (xs : List ℕ) → 0 < room → (x == 10) ≡ false → lines_of room (x ∷ xs) ≡ prepended x (lines_of (room - 1) xs)
unfolding lines_of
in_line room x xs h e = rw (counts room h, e) refl

pub past_limit : (x : ℕ) (xs : List ℕ) → lines_of 0 (x ∷ xs) ≡ over []
unfolding lines_of
past_limit x xs = refl

-- what goes with a line, what is held after it, and the rest
pub parted : (held rest : List ℕ) (at : ℕ) → held ++ rest ≡ take (at + 1) held ++ (drop (at + 1) held ++ rest)
parted held rest at = ap (λ (xs : List ℕ). xs ++ rest) (sym (take-append-drop (at + 1) held)) ∙ append_assoc (take (at + 1) held) (drop (at + 1) held) rest

pub no_lines : (room : ℕ) → lines_of room [] ≡ none
unfolding lines_of
no_lines room = refl

rest_plain : (x : ℕ) (xs : List ℕ) (n m : ℕ) → m ≡ n + 1 → Nowhere (Passes (is_byte 10) (x ∷ xs)) 0 m → Nowhere (Passes (is_byte 10) xs) 0 n
rest_plain x xs n m e plain k low high h = plain (suc k) (omega arith) (omega arith) h

first_plain : (x : ℕ) (xs : List ℕ) (m : ℕ) → 0 < m → Nowhere (Passes (is_byte 10) (x ∷ xs)) 0 m → (x == 10) ≡ false
first_plain x xs m h plain = false_from_ne_true (x == 10) (plain 0 (omega arith) h)

-- ---- a line whose LF stands at a place

-- whatever comes after its LF
pub ended_alone : (held tail : List ℕ) (room at : ℕ) → at < length held → at < room → Nowhere (Passes (is_byte 10) held) 0 at → Passes (is_byte 10) held at
    → lines_of room (take (at + 1) held ++ tail) ≡ line (take at held) (lines_of (room - (at + 1)) tail)
ended_alone [] tail room at inside within plain lf = absurd (omega arith)
ended_alone (x ∷ xs) tail room zero inside within plain lf = at_end room x tail within lf
ended_alone (x ∷ xs) tail room (suc k) inside within plain lf =
    let more = ended_alone xs tail (room - 1) k (omega arith) (omega arith) (rest_plain x xs k (suc k) (omega arith) plain) lf in
    let left : room - 1 - (k + 1) ≡ room - (suc k + 1) = omega arith in
    let place : suc k + 1 ≡ suc (k + 1) = omega arith in
    ap (λ (n : ℕ). lines_of room (take n (x ∷ xs) ++ tail)) place
    ∙ in_line room x (take (k + 1) xs ++ tail) (omega arith) (first_plain x xs (suc k) (omega arith) plain)
    ∙ ap (prepended x) more
    ∙ ap (λ (n : ℕ). line (x ∷ take k xs) (lines_of n tail)) left

pub ended : (held rest : List ℕ) (room at : ℕ) → at < length held → at < room → Nowhere (Passes (is_byte 10) held) 0 at → Passes (is_byte 10) held at
    → lines_of room (held ++ rest) ≡ line (take at held) (lines_of (room - (at + 1)) (drop (at + 1) held ++ rest))
ended held rest room at inside within plain lf = ap (lines_of room) (parted held rest at) ∙ ended_alone held (drop (at + 1) held ++ rest) room at inside within plain lf

-- the LF is the last byte of what goes with the line
pub lf_last : (held : List ℕ) (at : ℕ) → at < length held → Passes (is_byte 10) held at → take (at + 1) held ≡ take at held ++ 10 ∷ []
lf_last held at inside lf = take_more held at 0 inside ∙ ap (λ (x : ℕ). take at held ++ x ∷ []) (eqb-true (get_or held at 0) 10 lf)

-- ---- a line that isn't ended where the limit is reached

pub passed_limit : (held rest : List ℕ) (room : ℕ) → room < length held → Nowhere (Passes (is_byte 10) held) 0 room → lines_of room (held ++ rest) ≡ over (take room held)
passed_limit [] rest room more plain = absurd (omega arith)
passed_limit (x ∷ xs) rest zero more plain = past_limit x (xs ++ rest)
passed_limit (x ∷ xs) rest (suc r) more plain =
    let less : suc r - 1 ≡ r = omega arith in
    in_line (suc r) x (xs ++ rest) (omega arith) (first_plain x xs (suc r) (omega arith) plain)
    ∙ ap (λ (n : ℕ). prepended x (lines_of n (xs ++ rest))) less
    ∙ ap (prepended x) (passed_limit xs rest r (omega arith) (rest_plain x xs r (suc r) (omega arith) plain))

-- ---- bytes with no LF

-- bytes before the first line
abbrev pub fronted : List ℕ → Lines → Lines
fronted [] ls = ls
fronted (x ∷ xs) ls = prepended x (fronted xs ls)

pub unended : (held rest : List ℕ) (room : ℕ) → length held ≤ room → Nowhere (Passes (is_byte 10) held) 0 (length held) → lines_of room (held ++ rest) ≡ fronted held (lines_of (room - length held) rest)
unended [] rest room within plain = ap (λ (n : ℕ). lines_of n rest) (omega arith)
unended (x ∷ xs) rest room within plain =
    let more = unended xs rest (room - 1) (omega arith) (rest_plain x xs (length xs) (suc (length xs)) (omega arith) plain) in
    let left : room - 1 - length xs ≡ room - suc (length xs) = omega arith in
    in_line room x (xs ++ rest) (omega arith) (first_plain x xs (suc (length xs)) (omega arith) plain)
    ∙ ap (prepended x) more
    ∙ ap (λ (n : ℕ). prepended x (fronted xs (lines_of n rest))) left

fronted_none : (x : ℕ) (xs : List ℕ) → fronted (x ∷ xs) none ≡ last (x ∷ xs)
fronted_none x [] = refl
fronted_none x (y ∷ ys) = ap (prepended x) (fronted_none y ys)

fronted_last : (xs l : List ℕ) → fronted xs (last l) ≡ last (xs ++ l)
fronted_last [] l = refl
fronted_last (x ∷ xs) l = ap (prepended x) (fronted_last xs l)

fronted_over : (xs l : List ℕ) → fronted xs (over l) ≡ over (xs ++ l)
fronted_over [] l = refl
fronted_over (x ∷ xs) l = ap (prepended x) (fronted_over xs l)

fronted_line : (xs l : List ℕ) (ls : Lines) → fronted xs (line l ls) ≡ line (xs ++ l) ls
fronted_line [] l ls = refl
fronted_line (x ∷ xs) l ls = ap (prepended x) (fronted_line xs l ls)

-- at the end of the input they are the last line
pub unended_last : (held : List ℕ) (room : ℕ) → length held ≤ room → Nowhere (Passes (is_byte 10) held) 0 (length held) → lines_of room (held ++ []) ≡ last_line held
unended_last [] room within plain = no_lines room
unended_last (x ∷ xs) room within plain =
    unended (x ∷ xs) [] room within plain ∙ ap (fronted (x ∷ xs)) (no_lines (room - suc (length xs))) ∙ fronted_none x xs

-- ---- a line of too many bytes

pub is_long-true : (l : List ℕ) → max_line < length l → is_long l ≡ true
is_long-true l h = lt-ltb max_line (length l) h

pub is_long-false : (l : List ℕ) → length l ≤ max_line → is_long l ≡ false
is_long-false l h = le-ltb max_line (length l) h

pub long_line : (n : ℕ) (l : List ℕ) (ls : Lines) → max_line < length l → first_line n (line l ls) ≡ found_long (n + 1)
long_line n l ls h = rw (is_long-true l h) refl

pub long_over : (n : ℕ) (l : List ℕ) → max_line < length l → first_line n (over l) ≡ found_long (n + 1)
long_over n l h = rw (is_long-true l h) refl

long_last : (n : ℕ) (l : List ℕ) → max_line < length l → first_line n (last l) ≡ found_long (n + 1)
long_last n l h = rw (is_long-true l h) refl

pub long_front : (n : ℕ) (held : List ℕ) (ls : Lines) → max_line < length held → first_line n (fronted held ls) ≡ found_long (n + 1)
long_front n [] ls h = absurd (omega arith)
long_front n (x ∷ xs) none h = ap (first_line n) (fronted_none x xs) ∙ long_last n (x ∷ xs) h
long_front n (x ∷ xs) (last l) h = ap (first_line n) (fronted_last (x ∷ xs) l) ∙ long_last n ((x ∷ xs) ++ l) (omega (arith, length-append (x ∷ xs) l))
long_front n (x ∷ xs) (over l) h = ap (first_line n) (fronted_over (x ∷ xs) l) ∙ long_over n ((x ∷ xs) ++ l) (omega (arith, length-append (x ∷ xs) l))
long_front n (x ∷ xs) (line l ls) h = ap (first_line n) (fronted_line (x ∷ xs) l ls) ∙ long_line n ((x ∷ xs) ++ l) ls (omega (arith, length-append (x ∷ xs) l))
