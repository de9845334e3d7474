-- The nodes of a schema are nodes of columns that are written.
use Rattle.std.proofs.Common.{◌≡◌, ◌∙◌, refl, sym, ap, subst, ℕ, List, [], ◌∷◌, ◌++◌}
use Rattle.vs_bytes.specs.Names.{repeats}
use Rattle.shred_schema.specs.Groups.{Group, group, free, scalar, object_of, list_of, groups_from, field_names}
use Rattle.shred_schema.specs.Lawful.{HasField, EachField, HasValue, IsWritten, AllWritten}
use Rattle.schema_parsing.specs.Grammar.{SchemaSyntax, worded, scaled, braced, bracketed, FieldSyntax, entry, FieldsSyntax, first_field, MoreFieldsSyntax, end_fields, next_field, more_bytes, schema_of, field_in, fields_in, more_in, names_of, IsWell, IsWellField, AreWellFields, AreWellMore, at_top, IsSchema}
use Rattle.schema_parsing.proofs.Tokens.{word_for}

names_same : (fields : List (List ℕ × Group)) → field_names (groups_from fields) ≡ names_of fields
names_same [] = refl
names_same (f ∷ fields) = ap (λ names. f.0 ∷ names) (names_same fields)

has_field : (fs : FieldsSyntax) → HasField (groups_from (fields_in fs))
has_field (first_field f gap fs) = tt

mutual
  written : (w : SchemaSyntax) (after : List ℕ) → IsWell w after → AllWritten (schema_of w)
  written (worded word kind) after h = (tt, ((word_for word).here kind h.0).written)
  written (scaled p s gap) after h = (tt, record { some = h.3.0; most = h.3.1; places = h.3.2 })
  written (braced gap fs) after h =
      (tt, (record { some = has_field fs; differ = ap repeats (names_same (fields_in fs)) ∙ h.2 }, fields_written fs after h.1))
  written (bracketed before w gap) after h = (tt, written w (gap ++ 93 ∷ after) h.1)

  field_written : (f : FieldSyntax) (after : List ℕ) → IsWellField f after → AllWritten (field_in f).1
  field_written (entry name before gap w) after h = written w after h.3

  fields_written : (fs : FieldsSyntax) (after : List ℕ) → AreWellFields fs after → EachField HasValue IsWritten (groups_from (fields_in fs))
  fields_written (first_field f gap fs) after h = (field_written f (gap ++ more_bytes fs after) h.0, more_written fs after h.2)

  more_written : (fs : MoreFieldsSyntax) (after : List ℕ) → AreWellMore fs after → EachField HasValue IsWritten (groups_from (more_in fs))
  more_written end_fields after h = tt
  more_written (next_field before f gap fs) after h = (field_written f (gap ++ more_bytes fs after) h.1, more_written fs after h.3)

top_written : (schema : Group) → AllWritten schema → AllWritten (at_top schema)
top_written (group slot free) h = (tt, tt)
top_written (group slot (scalar prim)) h = h
top_written (group slot (object_of fields)) h = h
top_written (group slot (list_of item)) h = h

pub schema_written : (text : List ℕ) (schema : Group) → IsSchema text schema → AllWritten schema
schema_written text schema h = subst AllWritten (sym h.means) (top_written (schema_of h.written) (written h.written [] h.well))
