-- Words, decimals and names: what is read is spelled, and what is spelled is read.
use Rattle.std.proofs.Common.{◌≡◌, ◌∙◌, refl, sym, ap, subst, ℕ, ◌==◌, nat_eq, ◌+◌, ◌-◌, ◌*◌, ◌/◌, ◌%◌, ◌<◌, ◌≤◌, List, [], ◌∷◌, ◌++◌, Bool, true, false, Option, Some, None, decimal, arith}
use Rattle.std.specs.Prelude.{codes, nat_lt}
use Rattle.std.specs.List.{list_all}
use Rattle.std.specs.Str.{bytes_eq}
use Rattle.std.proofs.lemmas.Bool.{and_parts}
use Rattle.std.proofs.lemmas.Bool.Decides.{nat_tests}
use Rattle.std.proofs.lemmas.Fmt.{decimal_digit, decimal_step}
use Rattle.std.proofs.lemmas.Slice.Eq.{bytes_eq-Decides}
use Rattle.vs_bytes.specs.declared.leaf_columns.PrimKind.{PrimKind}
use Rattle.vs_bytes.specs.declared.leaf_columns.PrimKind.TheVariants.{Boolean, Int8, Int16, Int32, Int64, Text}
use Rattle.byte_parsing.specs.Parse.{Parse, front, back, Passes, Stops, past}
use Rattle.byte_parsing.specs.Words.{is_digit, IsDigit, is_name_start, is_name_byte, is_name, starts_name, EndsName, is_space, AreSpaces, past_gap}
use Rattle.byte_parsing.proofs.Holds.{Holds, holds_none, holds_some, holds_then, holds_map, holds_if, holds_past}
use Rattle.byte_parsing.proofs.Runs.{front_run, back_run, split_run, front_passes, pass_all}
use Rattle.byte_parsing.proofs.WholeNumbers.{digit_is}
use Rattle.byte_parsing.proofs.Words.{name_passes, name_stops, gap_front, gap_split, gap_is, past_gap_is}
use Rattle.json_strings.proofs.Strings.{string_complete}
use Rattle.path_parsing.proofs.Strings.{paired_sound}
use Rattle.shred_schema.specs.Groups.{Kind, free, scalar, kind_nesting}
use Rattle.shred_schema.specs.Lawful.{EachIn, HasValue, IsWritten}
use Rattle.schema_parsing.specs.Canonical.{kind_text}
use Rattle.schema_parsing.specs.Grammar.{NameSyntax, bare, quoted, ArgumentSyntax, argument, scaled, worded, name_bytes, argument_bytes, number_of, prim_named, kind_named, IsWellName, IsWellArgument, IsDecimal}
use Rattle.schema_parsing.specs.Reading.{short_number, number_at, argument_at, is_decimal, scaled_at, word_at, opened, name_at}

pub same_bytes : (xs ys : List ℕ) → bytes_eq xs ys ≡ true → xs ≡ ys
same_bytes xs ys e = (bytes_eq-Decides xs ys).0 e

pub opened_sound : {A : Type 0} (Q : List ℕ → Type 0) (P : A × List ℕ → Type 0) (inside : Parse A) (o : Option (List ℕ)) (other : Option (A × List ℕ)) → Holds Q o → ((xs : List ℕ) → Q xs → Holds P (inside xs)) → Holds P other → Holds P (opened inside o other)
opened_sound Q P inside None other h k l = l
opened_sound Q P inside (Some xs) other h k l = k xs (h.here xs refl)

-- Gaps.

pub spaces_pass : (gap : List ℕ) → AreSpaces gap → Passes is_space gap
spaces_pass [] h = tt
spaces_pass (x ∷ gap) h = (rw h.0 refl, spaces_pass gap h.1)

pub passes_spaces : (gap : List ℕ) → Passes is_space gap → AreSpaces gap
passes_spaces [] h = tt
passes_spaces (x ∷ gap) h = (by x h.0, passes_spaces gap h.1)
  where
    by : (x : ℕ) → is_space x ≡ true → x ≡ 32
    by x e = grind (arith, nat_tests)

-- spaces end what no space is part of
gap_stops : (p : ℕ → Bool) (gap rest : List ℕ) → p 32 ≡ false → AreSpaces gap → Stops p rest → Stops p (gap ++ rest)
gap_stops p [] rest e h s = s
gap_stops p (x ∷ gap) rest e h s = rw h.0 e

-- The words for kinds.

pub record IsWordFor (kind : Kind) (word : List ℕ) : Type 0 where
  pub text : kind_text kind ≡ word
  pub plain : list_all is_name_byte word ≡ true
  pub starts : starts_name word ≡ true
  pub other : bytes_eq word (codes "decimal") ≡ false
  pub flat : kind_nesting kind ≡ 0
  pub written : EachIn HasValue IsWritten kind

prim_word : (word : List ℕ) → Holds (λ prim. IsWordFor (scalar prim) word) (prim_named word)
unfolding prim_named
prim_word word =
    holds_if _ (bytes_eq word (codes "boolean")) _ _ (of Boolean (codes "boolean") (record { text = refl; plain = refl; starts = refl; other = refl; flat = refl; written = tt }))
    (λ _. holds_if _ (bytes_eq word (codes "int8")) _ _ (of Int8 (codes "int8") (record { text = refl; plain = refl; starts = refl; other = refl; flat = refl; written = tt }))
    (λ _. holds_if _ (bytes_eq word (codes "int16")) _ _ (of Int16 (codes "int16") (record { text = refl; plain = refl; starts = refl; other = refl; flat = refl; written = tt }))
    (λ _. holds_if _ (bytes_eq word (codes "int32")) _ _ (of Int32 (codes "int32") (record { text = refl; plain = refl; starts = refl; other = refl; flat = refl; written = tt }))
    (λ _. holds_if _ (bytes_eq word (codes "int64")) _ _ (of Int64 (codes "int64") (record { text = refl; plain = refl; starts = refl; other = refl; flat = refl; written = tt }))
    (λ _. holds_if _ (bytes_eq word (codes "string")) _ _ (of Text (codes "string") (record { text = refl; plain = refl; starts = refl; other = refl; flat = refl; written = tt }))
    (λ _. holds_none _))))))
  where
    of : (prim : PrimKind) (text : List ℕ) → IsWordFor (scalar prim) text → bytes_eq word text ≡ true → Holds (λ prim. IsWordFor (scalar prim) word) (Some prim)
    of prim text h e = holds_some (λ prim. IsWordFor (scalar prim) word) prim (subst (λ ys. IsWordFor (scalar prim) ys) (sym (same_bytes word text e)) h)

pub word_for : (word : List ℕ) → Holds (λ kind. IsWordFor kind word) (kind_named word)
unfolding kind_named
word_for word =
    holds_if (λ kind. IsWordFor kind word) (bytes_eq word (codes "variant")) _ _
    (λ e. holds_some (λ kind. IsWordFor kind word) free (subst (λ ys. IsWordFor free ys) (sym (same_bytes word (codes "variant") e)) (record { text = refl; plain = refl; starts = refl; other = refl; flat = refl; written = tt })))
    (λ _. holds_map _ (λ kind. IsWordFor kind word) _ _ (prim_word word) (λ prim h. h))

pub kind_read : (word : List ℕ) (kind : Kind) (after : List ℕ) → kind_named word ≡ Some kind → EndsName after → word_at (word ++ after) ≡ Some (worded word kind, after)
unfolding word_at
kind_read word kind after e ends =
    let w = (word_for word).here kind e in
    let passes = pass_all is_name_byte word w.plain in
    rw (front_run is_name_byte word after passes (name_stops after ends), back_run is_name_byte word after passes (name_stops after ends), w.other, e) refl

-- What begins with a letter or `_` begins with no space, quote, brace or bracket.

pub record BeginsWord (xs : List ℕ) : Type 0 where
  pub no_space : Stops is_space xs
  pub no_quote : past 34 xs ≡ None
  pub no_brace : past 123 xs ≡ None
  pub no_bracket : past 91 xs ≡ None

other_byte : (x b : ℕ) → is_name_start x ≡ true → is_name_start b ≡ false → (x == b) ≡ false
other_byte x b e f = by (x == b) refl
  where
    by : (t : Bool) → (x == b) ≡ t → t ≡ false
    by true g = let same : x ≡ b = grind (arith, nat_tests) in let one : is_name_start x ≡ false = ap is_name_start same ∙ f in cc
    by false g = refl

pub begins_word : (word after : List ℕ) → starts_name word ≡ true → BeginsWord (word ++ after)
begins_word [] after e = cc
begins_word (x ∷ xs) after e = record {
  no_space = other_byte x 32 e refl;
  no_quote = rw (other_byte x 34 e refl) refl;
  no_brace = rw (other_byte x 123 e refl) refl;
  no_bracket = rw (other_byte x 91 e refl) refl;
}

-- Numbers of one digit and two.

one_digit : (d : ℕ) → IsDigit d → d ∷ [] ≡ decimal (d - 48)
one_digit d h =
    let low = h.0 in
    let high = h.1 in
    let same : 48 + (d - 48) ≡ d = omega arith in
    sym (decimal_digit (d - 48) (omega arith) ∙ ap (λ x. x ∷ []) same)

two_digits : (d e : ℕ) → IsDigit d → IsDigit e → (d == 48) ≡ false → d ∷ (e ∷ []) ≡ decimal ((d - 48) * 10 + (e - 48))
two_digits d e h k f =
    let low = h.0 in
    let high = h.1 in
    let least = k.0 in
    let most = k.1 in
    let some : 49 ≤ d = grind (arith, nat_tests) in
    let tens : ((d - 48) * 10 + (e - 48)) / 10 ≡ d - 48 = omega arith in
    let ones : 48 + ((d - 48) * 10 + (e - 48)) % 10 ≡ e = omega arith in
    sym (decimal_step ((d - 48) * 10 + (e - 48)) (omega arith) (omega arith) ∙ ap (λ n. decimal n ++ ((48 + ((d - 48) * 10 + (e - 48)) % 10) ∷ [])) tens ∙ ap (λ x. decimal (d - 48) ++ (x ∷ [])) ones ∙ ap (λ ds. ds ++ (e ∷ [])) (sym (one_digit d h)))

short_sound : (ds : List ℕ) → Passes is_digit ds → Holds (λ n. ds ≡ decimal n) (short_number ds)
short_sound [] h = holds_none _
short_sound (d ∷ []) h = holds_some _ _ (one_digit d (digit_is d h.0))
short_sound (d ∷ (e ∷ [])) h = holds_if _ (d == 48) _ _ (λ _. holds_none _) (λ f. holds_some _ _ (two_digits d e (digit_is d h.0) (digit_is e h.1.0) f))
short_sound (d ∷ (e ∷ (f ∷ ds))) h = holds_none _

number_sound : (xs : List ℕ) → Holds (λ read. xs ≡ decimal read.0 ++ read.1) (number_at xs)
number_sound xs =
    holds_map _ _ _ _ (short_sound (front is_digit xs) (front_passes is_digit xs)) (λ n e. split_run is_digit xs ∙ ap (λ ds. ds ++ back is_digit xs) e)

-- how a number is written
record IsShort (n : ℕ) (ds : List ℕ) : Type 0 where
  digits : Passes is_digit ds
  read : short_number ds ≡ Some n
  begins : (after : List ℕ) → Stops is_space (ds ++ after)

digit_passes : (n : ℕ) → n < 10 → is_digit (48 + n) ≡ true
digit_passes n h = grind (arith, nat_tests)

digit_begins : (n : ℕ) → n < 10 → is_space (48 + n) ≡ false
digit_begins n h = grind (arith, nat_tests)

not_zero : (n : ℕ) → 0 < n → ((48 + n) == 48) ≡ false
not_zero n h = grind (arith, nat_tests)

short_one : (n : ℕ) → n < 10 → IsShort n ((48 + n) ∷ [])
short_one n h = record {
  digits = (digit_passes n h, tt);
  read = let same : (48 + n) - 48 ≡ n = omega arith in ap (λ m. Some m) same;
  begins = λ after. digit_begins n h;
}

short_two : (m n : ℕ) → 0 < m → m < 10 → n < 10 → IsShort (m * 10 + n) ((48 + m) ∷ ((48 + n) ∷ []))
short_two m n some h k = record {
  digits = (digit_passes m h, (digit_passes n k, tt));
  read = let same : ((48 + m) - 48) * 10 + ((48 + n) - 48) ≡ m * 10 + n = omega arith in rw (not_zero m some) (ap (λ i. Some i) same);
  begins = λ after. digit_begins m h;
}

is_short : (n : ℕ) → n < 100 → IsShort n (decimal n)
is_short n h = by (nat_lt n 10) refl
  where
    by : (b : Bool) → nat_lt n 10 ≡ b → IsShort n (decimal n)
    by true e =
        let few : n < 10 = grind (arith, nat_tests) in
        subst (λ ds. IsShort n ds) (sym (decimal_digit n few)) (short_one n few)
    by false e =
        let many : 10 ≤ n = grind (arith, nat_tests) in
        let value : (n / 10) * 10 + n % 10 ≡ n = omega arith in
        let digits : decimal n ≡ (48 + n / 10) ∷ ((48 + n % 10) ∷ []) = decimal_step n many (omega arith) ∙ ap (λ ds. ds ++ ((48 + n % 10) ∷ [])) (decimal_digit (n / 10) (omega arith)) in
        subst (λ ds. IsShort n ds) (sym digits) (subst (λ m. IsShort m ((48 + n / 10) ∷ ((48 + n % 10) ∷ []))) value (short_two (n / 10) (n % 10) (omega arith) (omega arith) (omega arith)))

number_read : (n : ℕ) (after : List ℕ) → n < 100 → Stops is_digit after → number_at (decimal n ++ after) ≡ Some (n, after)
number_read n after h s =
    let w = is_short n h in
    rw (front_run is_digit (decimal n) after w.digits s, back_run is_digit (decimal n) after w.digits s, w.read) refl

-- Decimals.

pub argument_sound : (opening : ℕ) (xs : List ℕ) → Holds (λ read. (xs ≡ argument_bytes opening read.0 read.1) × IsWellArgument read.0) (argument_at opening xs)
unfolding argument_at
argument_sound opening xs =
    holds_then _ _ _ _ (holds_past opening (past_gap xs)) (λ ys e.
    holds_map _ _ _ _ (number_sound (past_gap ys)) (λ n f. (
      gap_split xs _ (e ∙ ap (λ zs. opening ∷ zs) (gap_split ys _ f)),
      (gap_front xs, gap_front ys),
    )))

same_byte : (x : ℕ) → nat_eq x x ≡ true
same_byte x = grind (arith, nat_tests)

argument_read : (opening : ℕ) (a : ArgumentSyntax) (after : List ℕ) → is_space opening ≡ false → IsWellArgument a → number_of a < 100 → Stops is_digit after → argument_at opening (argument_bytes opening a after) ≡ Some (a, after)
unfolding argument_at
argument_read opening (argument before gap n) after o h few s =
    let digits = (is_short n few).begins after in
    rw (
      past_gap_is before (opening ∷ (gap ++ (decimal n ++ after))) h.0 o,
      gap_is before (opening ∷ (gap ++ (decimal n ++ after))) h.0 o,
      same_byte opening,
      past_gap_is gap (decimal n ++ after) h.1 digits,
      gap_is gap (decimal n ++ after) h.1 digits,
      number_read n after few s,
    ) refl

argument_stops : (p : ℕ → Bool) (opening : ℕ) (a : ArgumentSyntax) (after : List ℕ) → p 32 ≡ false → p opening ≡ false → IsWellArgument a → Stops p (argument_bytes opening a after)
argument_stops p opening (argument before gap n) after e f h = gap_stops p before (opening ∷ (gap ++ (decimal n ++ after))) e h.0 f

pub decimal_is : (p s : ℕ) → is_decimal p s ≡ true → IsDecimal p s
decimal_is p s h = (grind (arith, nat_tests), grind (arith, nat_tests), grind (arith, nat_tests))

is_decimal_true : (p s : ℕ) → IsDecimal p s → is_decimal p s ≡ true
is_decimal_true p s h = let some = h.0 in let few = h.1 in let less = h.2 in grind (arith, nat_tests)

scaled_read : (p s : ArgumentSyntax) (gap after : List ℕ) → IsWellArgument p → IsWellArgument s → AreSpaces gap → IsDecimal (number_of p) (number_of s) → scaled_at (argument_bytes 40 p (argument_bytes 44 s (gap ++ 41 ∷ after))) ≡ Some (scaled p s gap, after)
unfolding scaled_at
scaled_read p s gap after h k g d =
    let rest : List ℕ = gap ++ 41 ∷ after in
    let most = d.1 in
    let less = d.2 in
    rw (
      argument_read 40 p (argument_bytes 44 s rest) refl h (omega arith) (argument_stops is_digit 44 s rest refl refl k),
      argument_read 44 s rest refl k (omega arith) (gap_stops is_digit gap (41 ∷ after) refl g refl),
      past_gap_is gap (41 ∷ after) g refl,
      gap_is gap (41 ∷ after) g refl,
      is_decimal_true (number_of p) (number_of s) d,
    ) refl

decimal_word : (word rest : List ℕ) → bytes_eq word (codes "decimal") ≡ true → list_all is_name_byte word ≡ true → Stops is_name_byte rest → word_at (word ++ rest) ≡ scaled_at rest
unfolding word_at
decimal_word word rest e h s =
    let passes = pass_all is_name_byte word h in
    rw (front_run is_name_byte word rest passes s, back_run is_name_byte word rest passes s, e) refl

pub decimal_read : (p s : ArgumentSyntax) (gap after : List ℕ) → IsWellArgument p → IsWellArgument s → AreSpaces gap → IsDecimal (number_of p) (number_of s) → word_at (codes "decimal" ++ argument_bytes 40 p (argument_bytes 44 s (gap ++ 41 ∷ after))) ≡ Some (scaled p s gap, after)
decimal_read p s gap after h k g d =
    let rest : List ℕ = argument_bytes 44 s (gap ++ 41 ∷ after) in
    decimal_word (codes "decimal") (argument_bytes 40 p rest) refl refl (argument_stops is_name_byte 40 p rest refl refl h) ∙ scaled_read p s gap after h k g d

-- Names.

pub name_sound : (xs : List ℕ) → Holds (λ read. (xs ≡ name_bytes read.0 read.1) × IsWellName read.0) (name_at xs)
unfolding name_at
name_sound xs =
    opened_sound _ _ _ _ _ (holds_past 34 xs)
    (λ ys e. holds_map _ _ _ _ (paired_sound ys) (λ read p. (e ∙ ap (λ zs. 34 ∷ zs) p.0, (p.1, p.2))))
    (holds_if _ (is_name (front is_name_byte xs)) _ _ (λ e. holds_some _ (bare (front is_name_byte xs), back is_name_byte xs) (split_run is_name_byte xs, e)) (λ _. holds_none _))

name_starts : (name : List ℕ) → is_name name ≡ true → starts_name name ≡ true
name_starts [] e = cc
name_starts (x ∷ xs) e = (and_parts (is_name_start x) (list_all is_name_byte xs) e).0

pub name_begins : (name : NameSyntax) (after : List ℕ) → IsWellName name → Stops is_space (name_bytes name after)
name_begins (bare name) after h = (begins_word name after (name_starts name h)).no_space
name_begins (quoted ps) after h = refl

pub name_read : (name : NameSyntax) (after : List ℕ) → IsWellName name → EndsName after → name_at (name_bytes name after) ≡ Some (name, after)
unfolding name_at
name_read (bare name) after h ends =
    let passes = name_passes name h in
    rw ((begins_word name after (name_starts name h)).no_quote, front_run is_name_byte name after passes (name_stops after ends), back_run is_name_byte name after passes (name_stops after ends), h) refl
name_read (quoted ps) after h ends = rw (string_complete ps after h.0, h.1) refl
