-- Each value of a column that a schema describes is optional, apart from that of a column that is a value alone.
use Rattle.std.proofs.Common.{◌≡◌, refl, sym, subst, ℕ, List, [], ◌∷◌, ◌++◌, arith}
use Rattle.json_tree.specs.Json.{Json}
use Rattle.json_tree.specs.Valid.{IsValid}
use Rattle.shred_schema.specs.Groups.{Group, group, Kind, free, scalar, object_of, list_of, groups_from, kind_nesting}
use Rattle.shred_schema.specs.Lawful.{HasValue, IsWritten, AllWritten, EachIn, EachField}
use Rattle.shred_schema.specs.Shapes.{IsOf}
use Rattle.schema_parsing.specs.Grammar.{SchemaSyntax, worded, scaled, braced, bracketed, FieldSyntax, entry, FieldsSyntax, first_field, MoreFieldsSyntax, end_fields, next_field, more_bytes, schema_of, field_in, fields_in, more_in, IsWell, IsWellField, AreWellFields, AreWellMore, at_top, IsSchema}
use Rattle.schema_parsing.proofs.Tokens.{word_for}
use Rattle.schema_parsing.proofs.WrittenNodes.{schema_written}
use Rattle.shredder.specs.Shredded.{shredded}
use Rattle.shredding_laws.specs.Slots.{IsOptional, AllOptional}
use Rattle.shredding_laws.proofs.Standing.{optional_are}

abbrev inside : Group → Kind
inside (group s t) = t

within : (n : Group) → AllWritten n → EachIn HasValue IsWritten (inside n)
within (group s t) h = h.1

below_top : (n : Group) → EachIn HasValue IsWritten (inside (at_top n)) → EachIn HasValue IsWritten (inside n)
below_top (group s free) h = tt
below_top (group s (scalar q)) h = h
below_top (group s (object_of gs)) h = h
below_top (group s (list_of n)) h = h

-- a kind that a word names holds no other nodes
flat_kind : (t : Kind) → kind_nesting t ≡ 0 → EachIn HasValue IsWritten t → EachIn IsOptional IsWritten t
flat_kind free flat h = tt
flat_kind (scalar q) flat h = h
flat_kind (object_of gs) flat h = absurd (omega (arith, flat))
flat_kind (list_of n) flat h = absurd (omega (arith, flat))

mutual
  nodes_optional : (w : SchemaSyntax) (after : List ℕ) → IsWell w after → EachIn HasValue IsWritten (inside (schema_of w)) → AllOptional (schema_of w)
  nodes_optional (worded word kind) after h is = (refl, flat_kind kind ((word_for word).here kind h.0).flat is)
  nodes_optional (scaled p s gap) after h is = (refl, is)
  nodes_optional (braced gap fs) after h is = (refl, (is.0, fields_optional fs after h.1 is.1))
  nodes_optional (bracketed before w gap) after h is = (refl, nodes_optional w (gap ++ 93 ∷ after) h.1 (within (schema_of w) is))

  field_optional : (f : FieldSyntax) (after : List ℕ) → IsWellField f after → AllWritten (field_in f).1 → AllOptional (field_in f).1
  field_optional (entry name before gap w) after h is = nodes_optional w after h.3 (within (schema_of w) is)

  fields_optional : (fs : FieldsSyntax) (after : List ℕ) → AreWellFields fs after → EachField HasValue IsWritten (groups_from (fields_in fs)) → EachField IsOptional IsWritten (groups_from (fields_in fs))
  fields_optional (first_field f gap fs) after h is = (field_optional f (gap ++ more_bytes fs after) h.0 is.0, more_optional fs after h.2 is.1)

  more_optional : (fs : MoreFieldsSyntax) (after : List ℕ) → AreWellMore fs after → EachField HasValue IsWritten (groups_from (more_in fs)) → EachField IsOptional IsWritten (groups_from (more_in fs))
  more_optional end_fields after h is = tt
  more_optional (next_field before f gap fs) after h is = (field_optional f (gap ++ more_bytes fs after) h.1 is.0, more_optional fs after h.3 is.1)

top_is_of : (code : Json → List ℕ) (n : Group) (j : Json) → AllOptional n → IsValid j → IsOf (at_top n) (shredded code (at_top n) j)
top_is_of code (group s free) j h valid = (tt, tt)
top_is_of code (group s (scalar q)) j h valid = optional_are code (group s (scalar q)) j h valid
top_is_of code (group s (object_of gs)) j h valid = optional_are code (group s (object_of gs)) j h valid
top_is_of code (group s (list_of n)) j h valid = optional_are code (group s (list_of n)) j h valid

pub schema_is_of : (code : Json → List ℕ) (text : List ℕ) (schema : Group) (j : Json) → IsSchema text schema → IsValid j → IsOf schema (shredded code schema j)
schema_is_of code text schema j is valid =
    let written : AllWritten (at_top (schema_of is.written)) = subst AllWritten is.means (schema_written text schema is) in
    let nodes = nodes_optional is.written [] is.well (below_top (schema_of is.written) (within (at_top (schema_of is.written)) written)) in
    subst (λ (n : Group). IsOf n (shredded code n j)) (sym is.means) (top_is_of code (schema_of is.written) j nodes valid)
