-- What is spelled of a schema is read.
use Rattle.std.proofs.Common.{◌≡◌, ◌∙◌, refl, ℕ, zero, suc, ◌-◌, ◌≤◌, List, [], ◌∷◌, ◌++◌, false, Some, None, length, length-append, decimal, arith, le_refl}
use Rattle.vs_bytes.specs.Names.{repeats}
use Rattle.byte_parsing.specs.Lists.{more_at}
use Rattle.byte_parsing.specs.Parse.{Parse, Stops, past}
use Rattle.byte_parsing.specs.Words.{EndsName, is_space, AreSpaces}
use Rattle.byte_parsing.proofs.ListReading.{some_complete, more_complete}
use Rattle.byte_parsing.proofs.Words.{gap_is, past_gap_is}
use Rattle.path_parsing.proofs.Lengths.{pieces_length}
use Rattle.shred_schema.specs.Groups.{nesting, groups_nesting, groups_from}
use Rattle.schema_parsing.specs.Grammar.{NameSyntax, bare, quoted, ArgumentSyntax, argument, SchemaSyntax, worded, scaled, braced, bracketed, FieldSyntax, entry, FieldsSyntax, first_field, MoreFieldsSyntax, end_fields, next_field, name_bytes, argument_bytes, schema_bytes, field_bytes, fields_bytes, more_bytes, schema_of, field_in, fields_in, more_in, names_of, IsWellName, IsWell, IsWellField, AreWellFields, AreWellMore}
use Rattle.schema_parsing.specs.Reading.{word_at, field_at, fields_at, schema_at}
use Rattle.schema_parsing.proofs.Tokens.{spaces_pass, word_for, kind_read, begins_word, decimal_read, name_begins, name_read}

-- The bytes after a part stay after it.

name_longer : (name : NameSyntax) (after : List ℕ) → length after ≤ length (name_bytes name after)
name_longer (bare name) after = omega (arith, length-append name after)
name_longer (quoted ps) after = omega (arith, pieces_length ps after)

argument_longer : (opening : ℕ) (a : ArgumentSyntax) (after : List ℕ) → length after ≤ length (argument_bytes opening a after)
argument_longer opening (argument before gap n) after =
    omega (arith, length-append (decimal n) after, length-append gap (decimal n ++ after), length-append before (opening ∷ (gap ++ (decimal n ++ after))))

mutual
  longer : (w : SchemaSyntax) (after : List ℕ) → length after ≤ length (schema_bytes w after)
  longer (worded word kind) after = omega (arith, length-append word after)
  longer (scaled p s gap) after =
      omega (arith, length-append gap (41 ∷ after), argument_longer 44 s (gap ++ 41 ∷ after), argument_longer 40 p (argument_bytes 44 s (gap ++ 41 ∷ after)))
  longer (braced gap fs) after = omega (arith, length-append gap (fields_bytes fs after), fields_longer fs after)
  longer (bracketed before w gap) after =
      omega (arith, length-append gap (93 ∷ after), longer w (gap ++ 93 ∷ after), length-append before (schema_bytes w (gap ++ 93 ∷ after)))

  field_longer : (f : FieldSyntax) (after : List ℕ) → length after ≤ length (field_bytes f after)
  field_longer (entry name before gap w) after =
      omega (arith, longer w after, length-append gap (schema_bytes w after), length-append before (58 ∷ (gap ++ schema_bytes w after)), name_longer name (before ++ 58 ∷ (gap ++ schema_bytes w after)))

  fields_longer : (fs : FieldsSyntax) (after : List ℕ) → length after ≤ length (fields_bytes fs after)
  fields_longer (first_field f gap fs) after =
      omega (arith, more_longer fs after, length-append gap (more_bytes fs after), field_longer f (gap ++ more_bytes fs after))

  more_longer : (fs : MoreFieldsSyntax) (after : List ℕ) → length after ≤ length (more_bytes fs after)
  more_longer end_fields after = omega arith
  more_longer (next_field before f gap fs) after =
      omega (arith, more_longer fs after, length-append gap (more_bytes fs after), field_longer f (gap ++ more_bytes fs after), length-append before (field_bytes f (gap ++ more_bytes fs after)))

-- No part begins with a space.

begins : (w : SchemaSyntax) (after : List ℕ) → IsWell w after → Stops is_space (schema_bytes w after)
begins (worded word kind) after h = (begins_word word after ((word_for word).here kind h.0).starts).no_space
begins (scaled p s gap) after h = refl
begins (braced gap fs) after h = refl
begins (bracketed before w gap) after h = refl

field_begins : (f : FieldSyntax) (after : List ℕ) → IsWellField f after → Stops is_space (field_bytes f after)
field_begins (entry name before gap w) after h = name_begins name (before ++ 58 ∷ (gap ++ schema_bytes w after)) h.0

fields_begin : (fs : FieldsSyntax) (after : List ℕ) → AreWellFields fs after → Stops is_space (fields_bytes fs after)
fields_begin (first_field f gap fs) after h = field_begins f (gap ++ more_bytes fs after) h.0

more_begin : (fs : MoreFieldsSyntax) (after : List ℕ) → Stops is_space (more_bytes fs after)
more_begin end_fields after = refl
more_begin (next_field before f gap fs) after = refl

-- spaces end a name
gap_ends : (gap rest : List ℕ) → AreSpaces gap → EndsName rest → EndsName (gap ++ rest)
gap_ends [] rest h s = s
gap_ends (x ∷ gap) rest h s = rw h.0 refl

-- One part of a schema, from those within it.

word_read : (d : ℕ) (xs : List ℕ) → past 123 xs ≡ None → past 91 xs ≡ None → schema_at d xs ≡ word_at xs
unfolding schema_at
word_read zero xs e f = rw (e, f) refl
word_read (suc d) xs e f = rw (e, f) refl

braced_read : (d less : ℕ) (gap ys : List ℕ) (fs : FieldsSyntax) (after : List ℕ) → d ≡ suc less → AreSpaces gap → Stops is_space ys → fields_at (λ xs. schema_at less xs) ys ≡ Some (fs, after) → repeats (names_of (fields_in fs)) ≡ false → schema_at d (123 ∷ (gap ++ ys)) ≡ Some (braced gap fs, after)
unfolding schema_at
braced_read d less gap ys fs after n h s e r = rw (n, gap_is gap ys h s, past_gap_is gap ys h s, e, r) refl

bracketed_read : (d less : ℕ) (before ys : List ℕ) (w : SchemaSyntax) (gap after : List ℕ) → d ≡ suc less → AreSpaces before → Stops is_space ys → schema_at less ys ≡ Some (w, gap ++ 93 ∷ after) → AreSpaces gap → schema_at d (91 ∷ (before ++ ys)) ≡ Some (bracketed before w gap, after)
unfolding schema_at
bracketed_read d less before ys w gap after n h s e g =
    rw (n, gap_is before ys h s, past_gap_is before ys h s, e, gap_is gap (93 ∷ after) g refl, past_gap_is gap (93 ∷ after) g refl) refl

field_read : (schema : Parse SchemaSyntax) (name : NameSyntax) (before gap ys : List ℕ) (w : SchemaSyntax) (after : List ℕ) → IsWellName name → AreSpaces before → AreSpaces gap → Stops is_space ys → schema ys ≡ Some (w, after) → field_at schema (name_bytes name (before ++ 58 ∷ (gap ++ ys))) ≡ Some (entry name before gap w, after)
field_read schema name before gap ys w after h b g s e =
    rw (name_read name (before ++ 58 ∷ (gap ++ ys)) h (gap_ends before (58 ∷ (gap ++ ys)) b refl), gap_is before (58 ∷ (gap ++ ys)) b refl, past_gap_is before (58 ∷ (gap ++ ys)) b refl, gap_is gap ys g s, past_gap_is gap ys g s, e) refl

abbrev more_fields_at : ℕ → ℕ → Parse MoreFieldsSyntax
more_fields_at d count xs = more_at is_space 125 end_fields next_field (λ ys. field_at (λ zs. schema_at d zs) ys) count xs

-- A schema, with depth to spare.

mutual
  pub complete : (w : SchemaSyntax) (d : ℕ) (after : List ℕ) → IsWell w after → nesting (schema_of w) ≤ d → schema_at d (schema_bytes w after) ≡ Some (w, after)
  complete (worded word kind) d after h n =
      let starts = begins_word word after ((word_for word).here kind h.0).starts in
      word_read d (word ++ after) starts.no_brace starts.no_bracket ∙ kind_read word kind after h.0 h.1
  complete (scaled p s gap) d after h n =
      word_read d (schema_bytes (scaled p s gap) after) refl refl ∙ decimal_read p s gap after h.0 h.1 h.2 h.3
  complete (braced gap fs) d after h n =
      braced_read d (d - 1) gap (fields_bytes fs after) fs after (omega arith) h.0 (fields_begin fs after h.1) (fields_complete fs (d - 1) after h.1 (omega arith)) h.2
  complete (bracketed before w gap) d after h n =
      bracketed_read d (d - 1) before (schema_bytes w (gap ++ 93 ∷ after)) w gap after (omega arith) h.0 (begins w (gap ++ 93 ∷ after) h.1) (complete w (d - 1) (gap ++ 93 ∷ after) h.1 (omega arith)) h.2

  field_complete : (f : FieldSyntax) (d : ℕ) (after : List ℕ) → IsWellField f after → nesting (field_in f).1 ≤ d → field_at (λ xs. schema_at d xs) (field_bytes f after) ≡ Some (f, after)
  field_complete (entry name before gap w) d after h n =
      field_read (λ xs. schema_at d xs) name before gap (schema_bytes w after) w after h.0 h.1 h.2 (begins w after h.3) (complete w d after h.3 n)

  fields_complete : (fs : FieldsSyntax) (d : ℕ) (after : List ℕ) → AreWellFields fs after → groups_nesting (groups_from (fields_in fs)) ≤ d → fields_at (λ xs. schema_at d xs) (fields_bytes fs after) ≡ Some (fs, after)
  fields_complete (first_field f gap fs) d after h n =
      let ys : List ℕ = more_bytes fs after in
      some_complete is_space 125 first_field end_fields next_field (λ xs. field_at (λ zs. schema_at d zs) xs) (field_bytes f (gap ++ ys)) f gap ys fs after
      (field_complete f d (gap ++ ys) h.0 (omega arith)) (spaces_pass gap h.1) (more_begin fs after) (more_complete_fields fs d (length ys) after h.2 (omega arith) (le_refl _))

  more_complete_fields : (fs : MoreFieldsSyntax) (d count : ℕ) (after : List ℕ) → AreWellMore fs after → groups_nesting (groups_from (more_in fs)) ≤ d → length (more_bytes fs after) ≤ count → more_fields_at d count (more_bytes fs after) ≡ Some (fs, after)
  more_complete_fields end_fields d count after h n c = let some : count ≡ suc (count - 1) = omega arith in rw some refl
  more_complete_fields (next_field before f gap fs) d count after h n c =
      let ys : List ℕ = more_bytes fs after in
      let lengths = field_longer f (gap ++ ys) in
      more_complete is_space 125 end_fields next_field (λ xs. field_at (λ zs. schema_at d zs) xs) count (count - 1) before (field_bytes f (gap ++ ys)) f gap ys fs after
      (omega arith) refl (spaces_pass before h.0) (field_begins f (gap ++ ys) h.1) (field_complete f d (gap ++ ys) h.1 (omega arith)) (spaces_pass gap h.2) (more_begin fs after)
      (more_complete_fields fs d (count - 1) after h.3 (omega arith) (omega (arith, lengths, length-append gap ys, length-append before (field_bytes f (gap ++ ys)))))
