-- What is read of a schema is spelled so.
use Rattle.std.proofs.Common.{◌≡◌, ◌∙◌, refl, ap, ℕ, zero, suc, ◌≤◌, List, ◌∷◌, ◌++◌, Some, None, arith, zero-le}
use Rattle.std.specs.Prelude.{codes}
use Rattle.std.specs.Str.{bytes_eq}
use Rattle.vs_bytes.specs.Names.{repeats}
use Rattle.byte_parsing.specs.Parse.{Parse, front, back}
use Rattle.byte_parsing.specs.Words.{is_name_byte, is_space, gap_of, past_gap}
use Rattle.byte_parsing.proofs.Holds.{Holds, holds_none, holds_some, holds_then, holds_as, holds_map, holds_if, holds_past}
use Rattle.byte_parsing.proofs.ListReading.{IsRead as Spells, Laws, some_sound}
use Rattle.byte_parsing.proofs.Runs.{split_run}
use Rattle.byte_parsing.proofs.Words.{gap_front, gap_split, back_ends}
use Rattle.shred_schema.specs.Groups.{Kind, nesting, kind_nesting, groups_nesting, groups_from}
use Rattle.schema_parsing.specs.Grammar.{SchemaSyntax, scaled, braced, FieldSyntax, FieldsSyntax, first_field, MoreFieldsSyntax, end_fields, next_field, name_bytes, argument_bytes, schema_bytes, field_bytes, fields_bytes, more_bytes, number_of, kind_named, schema_of, field_in, fields_in, more_in, names_of, IsWell, IsWellField, AreWellFields, AreWellMore}
use Rattle.schema_parsing.specs.Reading.{is_decimal, scaled_at, word_at, field_at, fields_at, braced_at, bracketed_at, schema_by, schema_at}
use Rattle.schema_parsing.proofs.Tokens.{same_bytes, opened_sound, passes_spaces, word_for, argument_sound, decimal_is, name_sound}

-- what is known of a part that is read
pub record IsRead (Well : Type 0) (nested depth : ℕ) : Type 0 where
  pub well : Well
  pub within : nested ≤ depth

abbrev pub Good : ℕ → SchemaSyntax → List ℕ → Type 0
Good d w after = IsRead (IsWell w after) (nesting (schema_of w)) d

abbrev GoodField : ℕ → FieldSyntax → List ℕ → Type 0
GoodField d f after = IsRead (IsWellField f after) (nesting (field_in f).1) d

abbrev GoodFields : ℕ → FieldsSyntax → List ℕ → Type 0
GoodFields d fs after = IsRead (AreWellFields fs after) (groups_nesting (groups_from (fields_in fs))) d

abbrev GoodMore : ℕ → MoreFieldsSyntax → List ℕ → Type 0
GoodMore d fs after = IsRead (AreWellMore fs after) (groups_nesting (groups_from (more_in fs))) d

abbrev IsPart : ℕ → List ℕ → SchemaSyntax × List ℕ → Type 0
IsPart d xs read = (xs ≡ schema_bytes read.0 read.1) × Good d read.0 read.1

-- Words.

scaled_sound : (d : ℕ) (xs : List ℕ) → Holds (IsPart d (codes "decimal" ++ xs)) (scaled_at xs)
unfolding scaled_at
scaled_sound d xs =
    holds_then _ _ _ _ (argument_sound 40 xs) (λ p h.
    holds_then _ _ _ _ (argument_sound 44 p.1) (λ s k.
    holds_then _ _ _ _ (holds_past 41 (past_gap s.1)) (λ rest e.
    holds_if _ (is_decimal (number_of p.0) (number_of s.0)) _ _ (λ t. holds_some (IsPart d (codes "decimal" ++ xs)) (scaled p.0 s.0 (gap_of s.1), rest) (
      ap (λ ys. codes "decimal" ++ ys) (h.0 ∙ ap (λ ys. argument_bytes 40 p.0 ys) (k.0 ∙ ap (λ ys. argument_bytes 44 s.0 ys) (gap_split s.1 _ e))),
      record { well = (h.1, k.1, gap_front s.1, decimal_is (number_of p.0) (number_of s.0) t); within = zero-le },
    ))
    (λ _. holds_none _))))

-- a word, and a kind that it stands for
record IsNamed (word : List ℕ) (d : ℕ) (kind : Kind) : Type 0 where
  is : kind_named word ≡ Some kind
  within : kind_nesting kind ≤ d

is_named : (word : List ℕ) (d : ℕ) → Holds (IsNamed word d) (kind_named word)
is_named word d = record { here = λ kind e. record { is = e; within = omega (arith, ((word_for word).here kind e).flat) } }

word_sound : (d : ℕ) (xs : List ℕ) → Holds (IsPart d xs) (word_at xs)
unfolding word_at
word_sound d xs =
    let word : List ℕ = front is_name_byte xs in
    let rest : List ℕ = back is_name_byte xs in
    let split : xs ≡ word ++ rest = split_run is_name_byte xs in
    holds_if (IsPart d xs) (bytes_eq word (codes "decimal")) _ _
    (λ e. holds_as _ _ _ (scaled_sound d rest) (λ read p. (split ∙ ap (λ ys. ys ++ rest) (same_bytes word (codes "decimal") e) ∙ p.0, p.1)))
    (λ _. holds_map _ _ _ _ (is_named word d) (λ kind n. (split, record { well = (n.is, back_ends xs); within = n.within })))

-- Fields.

field_sound : (d : ℕ) (schema : Parse SchemaSyntax) → Spells schema_bytes (Good d) schema → Spells field_bytes (GoodField d) (λ xs. field_at schema xs)
field_sound d schema h xs =
    holds_then _ _ _ _ (name_sound xs) (λ name p.
    holds_then _ _ _ _ (holds_past 58 (past_gap name.1)) (λ ys e.
    holds_map _ _ _ _ (h (past_gap ys)) (λ w q. (
      p.0 ∙ ap (λ zs. name_bytes name.0 zs) (gap_split name.1 _ (e ∙ ap (λ zs. 58 ∷ zs) (gap_split ys _ q.0))),
      record { well = (p.1, gap_front name.1, gap_front ys, q.1.well); within = q.1.within },
    ))))

field_laws : (d : ℕ) → Laws is_space field_bytes (GoodField d) more_bytes (GoodMore d) fields_bytes (GoodFields d) 125 first_field end_fields next_field
field_laws d = record {
  first_spelled = λ a gap m after. refl;
  end_spelled = λ after. refl;
  next_spelled = λ before a gap m after. refl;
  first_good = λ a gap m after p g q. record { well = (p.well, passes_spaces gap g, q.well); within = omega (arith, p.within, q.within) };
  end_good = λ after. record { well = tt; within = zero-le };
  next_good = λ before a gap m after b p g q. record { well = (passes_spaces before b, p.well, passes_spaces gap g, q.well); within = omega (arith, p.within, q.within) };
}

fields_sound : (d : ℕ) (schema : Parse SchemaSyntax) → Spells schema_bytes (Good d) schema → Spells fields_bytes (GoodFields d) (λ xs. fields_at schema xs)
fields_sound d schema h = some_sound _ _ _ _ _ _ _ 125 _ _ _ (field_laws d) (λ xs. field_at schema xs) (field_sound d schema h)

-- Schemas.

braced_sound : (d : ℕ) (schema : Parse SchemaSyntax) → Spells schema_bytes (Good d) schema → (xs : List ℕ) → Holds (IsPart (suc d) (123 ∷ xs)) (braced_at schema xs)
braced_sound d schema h xs =
    holds_then _ _ _ _ (fields_sound d schema h (past_gap xs)) (λ fs p.
    holds_if _ (repeats (names_of (fields_in fs.0))) _ _ (λ _. holds_none _) (λ e. holds_some (IsPart (suc d) (123 ∷ xs)) (braced (gap_of xs) fs.0, fs.1) (
      ap (λ ys. 123 ∷ ys) (gap_split xs _ p.0),
      record { well = (gap_front xs, p.1.well, e); within = omega (arith, p.1.within) },
    )))

bracketed_sound : (d : ℕ) (schema : Parse SchemaSyntax) → Spells schema_bytes (Good d) schema → (xs : List ℕ) → Holds (IsPart (suc d) (91 ∷ xs)) (bracketed_at schema xs)
bracketed_sound d schema h xs =
    holds_then _ _ _ _ (h (past_gap xs)) (λ w p.
    holds_map _ _ _ _ (holds_past 93 (past_gap w.1)) (λ rest e.
    let split : w.1 ≡ gap_of w.1 ++ 93 ∷ rest = gap_split w.1 _ e in (
      ap (λ ys. 91 ∷ ys) (gap_split xs _ (p.0 ∙ ap (λ ys. schema_bytes w.0 ys) split)),
      record { well = (gap_front xs, rw split at p.1.well, gap_front w.1); within = omega (arith, p.1.within) },
    )))

opening_sound : (d : ℕ) (brace bracket : Parse SchemaSyntax) → ((xs : List ℕ) → Holds (IsPart d (123 ∷ xs)) (brace xs)) → ((xs : List ℕ) → Holds (IsPart d (91 ∷ xs)) (bracket xs)) → Spells schema_bytes (Good d) (λ xs. schema_by brace bracket xs)
opening_sound d brace bracket h k xs =
    opened_sound _ (IsPart d xs) _ _ _ (holds_past 123 xs) (λ ys e. holds_as _ _ _ (h ys) (λ read p. (e ∙ p.0, p.1)))
    (opened_sound _ (IsPart d xs) _ _ _ (holds_past 91 xs) (λ ys e. holds_as _ _ _ (k ys) (λ read p. (e ∙ p.0, p.1)))
    (word_sound d xs))

pub sound : (d : ℕ) → Spells schema_bytes (Good d) (λ xs. schema_at d xs)
unfolding schema_at
sound zero = opening_sound zero (λ ys. None) (λ ys. None) (λ ys. holds_none _) (λ ys. holds_none _)
sound (suc d) =
    opening_sound (suc d) (λ ys. braced_at (λ zs. schema_at d zs) ys) (λ ys. bracketed_at (λ zs. schema_at d zs) ys)
    (λ ys. braced_sound d (λ zs. schema_at d zs) (sound d) ys) (λ ys. bracketed_sound d (λ zs. schema_at d zs) (sound d) ys)
