-- The canonical text of a schema is a schema again: it is written with no spaces, means the same, and is no
-- longer.
use Rattle.std.proofs.Common.{◌≡◌, ◌∙◌, refl, sym, ap, ap₂, ℕ, ◌+◌, ◌≤◌, List, [], ◌∷◌, ◌++◌, Bool, true, false, cond, length, length-append, append_assoc, append-nil, decimal, arith}
use Rattle.std.specs.Prelude.{codes}
use Rattle.std.specs.Str.{is_utf8}
use Rattle.std.proofs.lemmas.Str.{IsUtf8-from_ascii, is_utf8-from_IsUtf8}
use Rattle.byte_parsing.specs.Words.{is_name, EndsName}
use Rattle.byte_parsing.proofs.Words.{name_passes, names_ascii}
use Rattle.json_strings.specs.Pieces.{pieces_spelled}
use Rattle.json_strings.specs.Meaning.{text_of}
use Rattle.json_tree.specs.Text as texts
use Rattle.json_tree.proofs.QuotedStrings.{pieces_of, string_spells, string_means, string_paired, string_well}
use Rattle.path_parsing.proofs.QuotedLengths.{string_fits}
use Rattle.shred_schema.specs.Groups.{Group, group, free, scalar, object_of, list_of, groups_from}
use Rattle.schema_parsing.specs.Canonical.{name_text, schema_text, fields_text, more_text}
use Rattle.schema_parsing.specs.Grammar.{NameSyntax, bare, quoted, ArgumentSyntax, argument, SchemaSyntax, worded, scaled, braced, bracketed, FieldSyntax, entry, FieldsSyntax, first_field, MoreFieldsSyntax, end_fields, next_field, name_bytes, argument_bytes, schema_bytes, field_bytes, fields_bytes, more_bytes, name_of, number_of, schema_of, field_in, fields_in, more_in, IsWellName, IsWellArgument, IsWell, IsWellField, AreWellFields, AreWellMore, at_top, IsSchema}
use Rattle.schema_parsing.proofs.Tokens.{word_for}

-- The canonical derivation of what a derivation means.

abbrev name_for : List ℕ → NameSyntax
name_for name = cond (is_name name) (bare name) (quoted (pieces_of name))

abbrev plain_argument : ArgumentSyntax → ArgumentSyntax
plain_argument (argument before gap n) = argument [] [] n

abbrev mutual
  plain : SchemaSyntax → SchemaSyntax
  plain (worded word kind) = worded word kind
  plain (scaled p s gap) = scaled (plain_argument p) (plain_argument s) []
  plain (braced gap fs) = braced [] (plain_fields fs)
  plain (bracketed before w gap) = bracketed [] (plain w) []

  plain_field : FieldSyntax → FieldSyntax
  plain_field (entry name before gap w) = entry (name_for (name_of name)) [] [] (plain w)

  plain_fields : FieldsSyntax → FieldsSyntax
  plain_fields (first_field f gap fs) = first_field (plain_field f) [] (plain_more fs)

  plain_more : MoreFieldsSyntax → MoreFieldsSyntax
  plain_more end_fields = end_fields
  plain_more (next_field before f gap fs) = next_field [] (plain_field f) [] (plain_more fs)

-- Names.

record IsNameFor (name : List ℕ) (w : NameSyntax) (text : List ℕ) : Type 0 where
  means : name_of w ≡ name
  spells : (after : List ℕ) → name_bytes w after ≡ text ++ after
  well : IsWellName w

name_by : (name : List ℕ) (b : Bool) → is_name name ≡ b → is_utf8 name ≡ true → IsNameFor name (cond b (bare name) (quoted (pieces_of name))) (cond b name (texts.quoted name))
name_by name true e h = record { means = refl; spells = λ after. refl; well = e }
name_by name false e h = record { means = string_means name; spells = λ after. string_spells name after; well = (string_well name h, string_paired name) }

name_utf8 : (name : NameSyntax) → IsWellName name → is_utf8 (name_of name) ≡ true
name_utf8 (bare name) h = is_utf8-from_IsUtf8 name (IsUtf8-from_ascii name (names_ascii name (name_passes name h)))
name_utf8 (quoted ps) h = h.0.1

name_is : (name : NameSyntax) → IsWellName name → IsNameFor (name_of name) (name_for (name_of name)) (name_text (name_of name))
name_is name h = name_by (name_of name) (is_name (name_of name)) refl (name_utf8 name h)

-- It means the same.

argument_means : (a : ArgumentSyntax) → number_of (plain_argument a) ≡ number_of a
argument_means (argument before gap n) = refl

mutual
  means : (w : SchemaSyntax) (after : List ℕ) → IsWell w after → schema_of (plain w) ≡ schema_of w
  means (worded word kind) after h = refl
  means (scaled p s gap) after h = rw (argument_means p, argument_means s) refl
  means (braced gap fs) after h = rw (fields_mean fs after h.1) refl
  means (bracketed before w gap) after h = rw (means w (gap ++ 93 ∷ after) h.1) refl

  field_means : (f : FieldSyntax) (after : List ℕ) → IsWellField f after → field_in (plain_field f) ≡ field_in f
  field_means (entry name before gap w) after h = ap₂ (λ n g. (n, g)) (name_is name h.0).means (means w after h.3)

  fields_mean : (fs : FieldsSyntax) (after : List ℕ) → AreWellFields fs after → fields_in (plain_fields fs) ≡ fields_in fs
  fields_mean (first_field f gap fs) after h = ap₂ (λ x xs. x ∷ xs) (field_means f (gap ++ more_bytes fs after) h.0) (more_mean fs after h.2)

  more_mean : (fs : MoreFieldsSyntax) (after : List ℕ) → AreWellMore fs after → more_in (plain_more fs) ≡ more_in fs
  more_mean end_fields after h = refl
  more_mean (next_field before f gap fs) after h = ap₂ (λ x xs. x ∷ xs) (field_means f (gap ++ more_bytes fs after) h.1) (more_mean fs after h.3)

-- It is well-formed.

more_ends : (fs : MoreFieldsSyntax) (rest : List ℕ) → EndsName (more_bytes (plain_more fs) rest)
more_ends end_fields rest = refl
more_ends (next_field before f gap fs) rest = refl

argument_well : (a : ArgumentSyntax) → IsWellArgument (plain_argument a)
argument_well (argument before gap n) = (tt, tt)

mutual
  well : (w : SchemaSyntax) (after rest : List ℕ) → IsWell w after → EndsName rest → IsWell (plain w) rest
  well (worded word kind) after rest h ends = (h.0, ends)
  well (scaled p s gap) after rest h ends = (argument_well p, argument_well s, tt, rw (argument_means p, argument_means s) h.3)
  well (braced gap fs) after rest h ends = (tt, fields_well fs after rest h.1, rw (fields_mean fs after h.1) h.2)
  well (bracketed before w gap) after rest h ends = (tt, well w (gap ++ 93 ∷ after) (93 ∷ rest) h.1 refl, tt)

  field_well : (f : FieldSyntax) (after rest : List ℕ) → IsWellField f after → EndsName rest → IsWellField (plain_field f) rest
  field_well (entry name before gap w) after rest h ends = ((name_is name h.0).well, tt, tt, well w after rest h.3 ends)

  fields_well : (fs : FieldsSyntax) (after rest : List ℕ) → AreWellFields fs after → AreWellFields (plain_fields fs) rest
  fields_well (first_field f gap fs) after rest h = (field_well f (gap ++ more_bytes fs after) (more_bytes (plain_more fs) rest) h.0 (more_ends fs rest), tt, more_well fs after rest h.2)

  more_well : (fs : MoreFieldsSyntax) (after rest : List ℕ) → AreWellMore fs after → AreWellMore (plain_more fs) rest
  more_well end_fields after rest h = tt
  more_well (next_field before f gap fs) after rest h = (tt, field_well f (gap ++ more_bytes fs after) (more_bytes (plain_more fs) rest) h.1 (more_ends fs rest), tt, more_well fs after rest h.3)

-- Its bytes are the canonical text.

-- a field and the fields after it
joined : (name schema more rest all : List ℕ) → all ≡ more ++ rest → name ++ 58 ∷ (schema ++ all) ≡ (name ++ 58 ∷ (schema ++ more)) ++ rest
joined name schema more rest all e = rw (e, append_assoc, append_assoc) refl

decimal_spells : (p s rest : List ℕ) → codes "decimal" ++ 40 ∷ (p ++ 44 ∷ (s ++ 41 ∷ rest)) ≡ (codes "decimal" ++ 40 ∷ (p ++ 44 ∷ (s ++ 41 ∷ []))) ++ rest
decimal_spells p s rest =
    ap (λ ys. codes "decimal" ++ 40 ∷ ys) (ap (λ ys. p ++ 44 ∷ ys) (sym (append_assoc s (41 ∷ []) rest)) ∙ sym (append_assoc p (44 ∷ (s ++ 41 ∷ [])) rest))

mutual
  spells : (w : SchemaSyntax) (after rest : List ℕ) → IsWell w after → schema_bytes (plain w) rest ≡ schema_text (schema_of w) ++ rest
  spells (worded word kind) after rest h = ap (λ ys. ys ++ rest) (sym ((word_for word).here kind h.0).text)
  spells (scaled (argument before gap p) (argument behind more s) end) after rest h = decimal_spells (decimal p) (decimal s) rest
  spells (braced gap fs) after rest h = ap (λ ys. 123 ∷ ys) (fields_spell fs after rest h.1 ∙ sym (append_assoc (fields_text (groups_from (fields_in fs))) (125 ∷ []) rest))
  spells (bracketed before w gap) after rest h =
      ap (λ ys. 91 ∷ ys) (spells w (gap ++ 93 ∷ after) (93 ∷ rest) h.1 ∙ sym (append_assoc (schema_text (schema_of w)) (93 ∷ []) rest))

  field_spells : (f : FieldSyntax) (after rest : List ℕ) → IsWellField f after → field_bytes (plain_field f) rest ≡ name_text (field_in f).0 ++ 58 ∷ (schema_text (field_in f).1 ++ rest)
  field_spells (entry name before gap w) after rest h =
      (name_is name h.0).spells (58 ∷ schema_bytes (plain w) rest) ∙ ap (λ ys. name_text (name_of name) ++ 58 ∷ ys) (spells w after rest h.3)

  fields_spell : (fs : FieldsSyntax) (after rest : List ℕ) → AreWellFields fs after → fields_bytes (plain_fields fs) rest ≡ fields_text (groups_from (fields_in fs)) ++ 125 ∷ rest
  fields_spell (first_field f gap fs) after rest h =
      field_spells f (gap ++ more_bytes fs after) (more_bytes (plain_more fs) rest) h.0 ∙ joined (name_text (field_in f).0) (schema_text (field_in f).1) _ _ _ (more_spell fs after rest h.2)

  more_spell : (fs : MoreFieldsSyntax) (after rest : List ℕ) → AreWellMore fs after → more_bytes (plain_more fs) rest ≡ more_text (groups_from (more_in fs)) ++ 125 ∷ rest
  more_spell end_fields after rest h = refl
  more_spell (next_field before f gap fs) after rest h =
      ap (λ ys. 44 ∷ ys) (field_spells f (gap ++ more_bytes fs after) (more_bytes (plain_more fs) rest) h.1 ∙ joined (name_text (field_in f).0) (schema_text (field_in f).1) _ _ _ (more_spell fs after rest h.3))

-- It is no longer.

name_fits : (name : NameSyntax) (after : List ℕ) → IsWellName name → length (name_text (name_of name)) + length after ≤ length (name_bytes name after)
name_fits (bare name) after h = rw h (omega (arith, length-append name after))
name_fits (quoted ps) after h = by (is_name (text_of ps))
  where
    by : (b : Bool) → length (cond b (text_of ps) (texts.quoted (text_of ps))) + length after ≤ length (34 ∷ pieces_spelled ps after)
    by true = omega (arith, (string_fits ps after h.0).text)
    by false = omega (arith, (string_fits ps after h.0).quoted)

argument_fits : (opening : ℕ) (a : ArgumentSyntax) (after : List ℕ) → length (decimal (number_of a)) + length after + 1 ≤ length (argument_bytes opening a after)
argument_fits opening (argument before gap n) after =
    omega (arith, length-append (decimal n) after, length-append gap (decimal n ++ after), length-append before (opening ∷ (gap ++ (decimal n ++ after))))

decimal_length : (p s : List ℕ) → length (codes "decimal" ++ 40 ∷ (p ++ 44 ∷ (s ++ 41 ∷ []))) ≡ length p + length s + 10
decimal_length p s = omega (arith, length-append s (41 ∷ []), length-append p (44 ∷ (s ++ 41 ∷ [])))

field_length : (name schema more : List ℕ) → length (name ++ 58 ∷ (schema ++ more)) ≡ length name + length schema + length more + 1
field_length name schema more = omega (arith, length-append schema more, length-append name (58 ∷ (schema ++ more)))

mutual
  fits : (w : SchemaSyntax) (after : List ℕ) → IsWell w after → length (schema_text (schema_of w)) + length after ≤ length (schema_bytes w after)
  fits (worded word kind) after h = rw ((word_for word).here kind h.0).text (omega (arith, length-append word after))
  fits (scaled p s gap) after h =
      omega (arith, decimal_length (decimal (number_of p)) (decimal (number_of s)), length-append gap (41 ∷ after), argument_fits 44 s (gap ++ 41 ∷ after), argument_fits 40 p (argument_bytes 44 s (gap ++ 41 ∷ after)))
  fits (braced gap fs) after h =
      omega (arith, length-append (fields_text (groups_from (fields_in fs))) (125 ∷ []), length-append gap (fields_bytes fs after), fields_fit fs after h.1)
  fits (bracketed before w gap) after h =
      omega (arith, length-append (schema_text (schema_of w)) (93 ∷ []), length-append gap (93 ∷ after), fits w (gap ++ 93 ∷ after) h.1, length-append before (schema_bytes w (gap ++ 93 ∷ after)))

  field_fits : (f : FieldSyntax) (after : List ℕ) → IsWellField f after → length (name_text (field_in f).0) + length (schema_text (field_in f).1) + length after + 1 ≤ length (field_bytes f after)
  field_fits (entry name before gap w) after h =
      omega (arith, fits w after h.3, length-append gap (schema_bytes w after), length-append before (58 ∷ (gap ++ schema_bytes w after)), name_fits name (before ++ 58 ∷ (gap ++ schema_bytes w after)) h.0)

  fields_fit : (fs : FieldsSyntax) (after : List ℕ) → AreWellFields fs after → length (fields_text (groups_from (fields_in fs))) + length after + 1 ≤ length (fields_bytes fs after)
  fields_fit (first_field f gap fs) after h =
      omega (arith, field_length (name_text (field_in f).0) (schema_text (field_in f).1) (more_text (groups_from (more_in fs))), more_fit fs after h.2, length-append gap (more_bytes fs after), field_fits f (gap ++ more_bytes fs after) h.0)

  more_fit : (fs : MoreFieldsSyntax) (after : List ℕ) → AreWellMore fs after → length (more_text (groups_from (more_in fs))) + length after + 1 ≤ length (more_bytes fs after)
  more_fit end_fields after h = omega arith
  more_fit (next_field before f gap fs) after h =
      omega (arith, field_length (name_text (field_in f).0) (schema_text (field_in f).1) (more_text (groups_from (more_in fs))), more_fit fs after h.3, length-append gap (more_bytes fs after), field_fits f (gap ++ more_bytes fs after) h.1, length-append before (field_bytes f (gap ++ more_bytes fs after)))

-- Whole texts.

top_text : (schema : Group) → schema_text (at_top schema) ≡ schema_text schema
top_text (group slot free) = refl
top_text (group slot (scalar prim)) = refl
top_text (group slot (object_of fields)) = refl
top_text (group slot (list_of item)) = refl

pub canonical_is_schema : (text : List ℕ) (schema : Group) → IsSchema text schema → IsSchema (schema_text schema) schema
canonical_is_schema text schema h =
    let w = h.written in
    let same : schema_text schema ≡ schema_text (schema_of w) = ap schema_text h.means ∙ top_text (schema_of w) in
    let spelled : schema_bytes (plain w) [] ≡ schema_text (schema_of w) = spells w [] [] h.well ∙ append-nil (schema_text (schema_of w)) in
    let shorter : length (schema_text (schema_of w)) ≤ length (schema_bytes w []) = omega (arith, fits w [] h.well) in
    let first : length (schema_text schema) ≡ length (schema_text (schema_of w)) = ap (λ ys. length ys) same in
    let last : length text ≡ length (schema_bytes w []) = ap (λ ys. length ys) h.bytes in
    record {
      written = plain w;
      bytes = same ∙ sym spelled;
      well = well w [] [] h.well tt;
      means = h.means ∙ ap at_top (sym (means w [] h.well));
      short = omega (arith, h.short);
      shallow = h.shallow;
      few = h.few;
    }
