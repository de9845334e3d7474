-- Names, gaps, and words that end where no byte of a name comes after them.
use Rattle.std.proofs.Common.{◌≡◌, ◌∙◌, ◌↔◌, ◌<◌, refl, ap, ℕ, zero, suc, List, [], ◌∷◌, ◌++◌, Bool, true, false, cond, Option, Some, eqb-true, nat_eq, arith}
use Rattle.std.specs.List.{list_all}
use Rattle.std.specs.Str.{IsAscii, IsUtf8}
use Rattle.std.proofs.lemmas.Bool.{and_parts}
use Rattle.std.proofs.lemmas.Bool.Decides.{nat_tests}
use Rattle.std.proofs.lemmas.Str.{IsUtf8-from_ascii}
use Rattle.byte_parsing.specs.Parse.{front, back, Passes, Stops, past_word}
use Rattle.byte_parsing.specs.Words.{is_numeric, is_name_start, is_name_byte, is_name, starts_name, EndsName, is_space, AreSpaces, gap_of, past_gap, word_end, past_whole_word, word_value}
use Rattle.byte_parsing.proofs.Holds.{Holds, holds_none, holds_some, holds_then, holds_as, holds_map, holds_if, holds_word}
use Rattle.byte_parsing.proofs.Runs.{front_run, back_run, split_run, front_passes, back_stops, all_pass, pass_all}

-- Names.

start_passes : (x : ℕ) → is_name_start x ≡ true → is_name_byte x ≡ true
start_passes x e = rw e refl

pub name_passes : (name : List ℕ) → is_name name ≡ true → Passes is_name_byte name
name_passes [] h = cc
name_passes (x ∷ xs) h =
    let both = and_parts (is_name_start x) (list_all is_name_byte xs) h in (start_passes x both.0, pass_all is_name_byte xs both.1)

pub name_stops : (rest : List ℕ) → EndsName rest → Stops is_name_byte rest
name_stops [] h = tt
name_stops (x ∷ xs) h = h

pub back_ends : (xs : List ℕ) → EndsName (back is_name_byte xs)
back_ends xs = by (back is_name_byte xs) (back_stops is_name_byte xs)
  where
    by : (ys : List ℕ) → Stops is_name_byte ys → EndsName ys
    by [] h = tt
    by (y ∷ ys) h = h

-- only the first byte of a run decides whether it is a name
pub name_starts : (xs : List ℕ) → is_name (front is_name_byte xs) ≡ starts_name xs
name_starts [] = refl
name_starts (x ∷ xs) = by (is_name_start x) refl
  where
    other : (b : Bool) → is_name_start x ≡ false → is_name (cond b (x ∷ front is_name_byte xs) []) ≡ false
    other true e = rw e refl
    other false e = refl

    by : (b : Bool) → is_name_start x ≡ b → is_name (front is_name_byte (x ∷ xs)) ≡ b
    by true e = rw (start_passes x e, e, all_pass is_name_byte (front is_name_byte xs) (front_passes is_name_byte xs)) refl
    by false e = other (is_name_byte x) e

name_byte_small : (x : ℕ) → is_name_byte x ≡ true → x < 128
name_byte_small x h = grind (arith, nat_tests)

pub names_ascii : (xs : List ℕ) → Passes is_name_byte xs → IsAscii xs
names_ascii [] h i = omega arith
names_ascii (x ∷ xs) h zero = name_byte_small x h.0
names_ascii (x ∷ xs) h (suc i) = names_ascii xs h.1 i

pub name_is_text : (xs : List ℕ) → IsUtf8 (front is_name_byte xs)
name_is_text xs = IsUtf8-from_ascii _ (names_ascii _ (front_passes is_name_byte xs))

-- Gaps.

spaces_pass : (gap : List ℕ) → AreSpaces gap → Passes is_space gap
spaces_pass [] h = tt
spaces_pass (x ∷ gap) h = (rw h.0 refl, spaces_pass gap h.1)

passes_spaces : (gap : List ℕ) → Passes is_space gap → AreSpaces gap
passes_spaces [] h = tt
passes_spaces (x ∷ gap) h = (eqb-true x 32 h.0, passes_spaces gap h.1)

pub gap_front : (xs : List ℕ) → AreSpaces (gap_of xs)
gap_front xs = passes_spaces (gap_of xs) (front_passes is_space xs)

pub gap_split : (xs ys : List ℕ) → past_gap xs ≡ ys → xs ≡ gap_of xs ++ ys
gap_split xs ys e = split_run is_space xs ∙ ap (λ zs. gap_of xs ++ zs) e

pub gap_is : (gap rest : List ℕ) → AreSpaces gap → Stops is_space rest → gap_of (gap ++ rest) ≡ gap
gap_is gap rest h s = front_run is_space gap rest (spaces_pass gap h) s

pub past_gap_is : (gap rest : List ℕ) → AreSpaces gap → Stops is_space rest → past_gap (gap ++ rest) ≡ rest
past_gap_is gap rest h s = back_run is_space gap rest (spaces_pass gap h) s

-- spaces end a number
pub gap_quiet : (gap rest : List ℕ) → AreSpaces gap → Stops is_numeric rest → Stops is_numeric (gap ++ rest)
gap_quiet [] rest h s = s
gap_quiet (x ∷ gap) rest h s = rw h.0 refl

-- Words.

word_end_sound : (xs : List ℕ) → Holds (λ rest. (xs ≡ rest) × EndsName rest) (word_end xs)
word_end_sound [] = holds_some _ [] (refl, tt)
word_end_sound (x ∷ xs) = holds_if _ _ _ _ (λ _. holds_none _) (λ e. holds_some _ (x ∷ xs) (refl, e))

-- what is read is the word, and it ends
pub whole_sound : (word xs : List ℕ) → Holds (λ rest. (xs ≡ word ++ rest) × EndsName rest) (past_whole_word word xs)
whole_sound word xs =
    holds_then _ _ _ _ (holds_word word xs) (λ ys e. holds_as _ _ _ (word_end_sound ys) (λ rest f. (e ∙ ap (λ zs. word ++ zs) f.0, f.1)))

pub word_end_is : (rest : List ℕ) → EndsName rest → word_end rest ≡ Some rest
word_end_is [] h = refl
word_end_is (x ∷ rest) h = rw h refl

pub word_is : (word rest : List ℕ) → past_word word (word ++ rest) ≡ Some rest
word_is [] rest = refl
word_is (b ∷ word) rest = rw (same b) (word_is word rest)
  where
    same : (x : ℕ) → nat_eq x x ≡ true
    same x = grind (arith, nat_tests)

pub whole_is_read : (word rest : List ℕ) → EndsName rest → past_whole_word word (word ++ rest) ≡ Some rest
whole_is_read word rest h = rw (word_is word rest) (word_end_is rest h)

pub whole_words : (word xs rest : List ℕ) → (past_whole_word word xs ≡ Some rest) ↔ ((xs ≡ word ++ rest) × EndsName rest)
whole_words word xs rest = (λ e. (whole_sound word xs).here rest e, λ h. rw h.0 (whole_is_read word rest h.1))

pub word_value_sound : {A : Type 0} (Q : List ℕ → Type 0) (P : A × List ℕ → Type 0) (a : A) (o : Option (List ℕ)) → Holds Q o → ((rest : List ℕ) → Q rest → P (a, rest)) → Holds P (word_value a o)
word_value_sound Q P a o h k = holds_map Q P o _ h k
