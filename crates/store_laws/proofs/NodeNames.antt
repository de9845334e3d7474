-- The names of a schema's fields are UTF-8, and short.
use Rattle.std.proofs.Common.{◌≡◌, sym, subst, ℕ, ◌^◌, ◌<◌, ◌≤◌, Bool, true, false, cond, List, [], ◌∷◌, ◌++◌, length, arith}
use Rattle.std.specs.Str.{is_utf8}
use Rattle.std.proofs.lemmas.List.{length-append}
use Rattle.std.proofs.lemmas.Str.{IsUtf8-from_ascii, is_utf8-from_IsUtf8}
use Rattle.byte_parsing.specs.Words.{is_name}
use Rattle.byte_parsing.proofs.Words.{name_passes, names_ascii}
use Rattle.json_tree.specs.Text as texts
use Rattle.variant_write.proofs.PrimitiveSizes.{quoted_len}
use Rattle.shred_schema.specs.Groups.{Group, group, Kind, free, scalar, object_of, list_of, Groups, no_groups, field, groups_from, kind_nesting}
use Rattle.schema_parsing.specs.Canonical.{name_text, schema_text, kind_text, fields_text, more_text}
use Rattle.schema_parsing.specs.Grammar.{NameSyntax, bare, quoted, SchemaSyntax, worded, scaled, braced, bracketed, FieldSyntax, entry, FieldsSyntax, first_field, MoreFieldsSyntax, end_fields, next_field, more_bytes, name_of, schema_of, field_in, fields_in, more_in, IsWellName, IsWell, IsWellField, AreWellFields, AreWellMore, at_top, IsSchema}
use Rattle.schema_parsing.specs.Limits.{most_bytes}
use Rattle.schema_parsing.proofs.Canonical.{canonical_is_schema}
use Rattle.schema_parsing.proofs.Tokens.{word_for}

-- what holds of each name below a node
abbrev mutual
  pub EachName : (List ℕ → Type 0) → Group → Type 0
  EachName P (group s t) = EachNameIn P t

  pub EachNameIn : (List ℕ → Type 0) → Kind → Type 0
  EachNameIn P free = Unit {0}
  EachNameIn P (scalar q) = Unit {0}
  EachNameIn P (object_of gs) = EachFieldName P gs
  EachNameIn P (list_of n) = EachName P n

  pub EachFieldName : (List ℕ → Type 0) → Groups → Type 0
  EachFieldName P no_groups = Unit {0}
  EachFieldName P (field name n gs) = P name × EachName P n × EachFieldName P gs

-- The names are no longer than the canonical text.

pub name_within : (name : List ℕ) → length name ≤ length (name_text name)
name_within name = by (is_name name)
  where
    by : (b : Bool) → length name ≤ length (cond b name (texts.quoted name))
    by true = omega arith
    by false = omega (arith, quoted_len name)

mutual
  names_within : (most : ℕ) (n : Group) → length (schema_text n) ≤ most → EachName (λ name. length name ≤ most) n
  names_within most (group s t) h = kind_within most t h

  kind_within : (most : ℕ) (t : Kind) → length (kind_text t) ≤ most → EachNameIn (λ name. length name ≤ most) t
  kind_within most free h = tt
  kind_within most (scalar q) h = tt
  kind_within most (object_of gs) h = fields_within most gs (omega (arith, h, length-append (fields_text gs) (125 ∷ [])))
  kind_within most (list_of n) h = names_within most n (omega (arith, h, length-append (schema_text n) (93 ∷ [])))

  fields_within : (most : ℕ) (gs : Groups) → length (fields_text gs) ≤ most → EachFieldName (λ name. length name ≤ most) gs
  fields_within most no_groups h = tt
  fields_within most (field name n gs) h =
      let sum = length-append (name_text name) (58 ∷ (schema_text n ++ more_text gs)) in
      let rest = length-append (schema_text n) (more_text gs) in
      (omega (arith, h, sum, name_within name), names_within most n (omega (arith, h, sum, rest)), more_within most gs (omega (arith, h, sum, rest)))

  more_within : (most : ℕ) (gs : Groups) → length (more_text gs) ≤ most → EachFieldName (λ name. length name ≤ most) gs
  more_within most no_groups h = tt
  more_within most (field name n gs) h =
      let sum = length-append (name_text name) (58 ∷ (schema_text n ++ more_text gs)) in
      let rest = length-append (schema_text n) (more_text gs) in
      (omega (arith, h, sum, name_within name), names_within most n (omega (arith, h, sum, rest)), more_within most gs (omega (arith, h, sum, rest)))

-- They are UTF-8.

name_utf8 : (name : NameSyntax) → IsWellName name → is_utf8 (name_of name) ≡ true
name_utf8 (bare name) h = is_utf8-from_IsUtf8 name (IsUtf8-from_ascii name (names_ascii name (name_passes name h)))
name_utf8 (quoted ps) h = h.0.1

abbrev IsText : List ℕ → Type 0
IsText name = is_utf8 name ≡ true

at_top_named : (n : Group) → EachName IsText n → EachName IsText (at_top n)
at_top_named (group s free) h = tt
at_top_named (group s (scalar q)) h = h
at_top_named (group s (object_of gs)) h = h
at_top_named (group s (list_of n)) h = h

-- a kind that a word names holds no names
flat_named : (t : Kind) → kind_nesting t ≡ 0 → EachNameIn IsText t
flat_named free flat = tt
flat_named (scalar q) flat = tt
flat_named (object_of gs) flat = absurd (omega (arith, flat))
flat_named (list_of n) flat = absurd (omega (arith, flat))

mutual
  names_text : (w : SchemaSyntax) (after : List ℕ) → IsWell w after → EachName IsText (schema_of w)
  names_text (worded word kind) after h = flat_named kind ((word_for word).here kind h.0).flat
  names_text (scaled p s gap) after h = tt
  names_text (braced gap fs) after h = fields_names fs after h.1
  names_text (bracketed before w gap) after h = names_text w (gap ++ 93 ∷ after) h.1

  fields_names : (fs : FieldsSyntax) (after : List ℕ) → AreWellFields fs after → EachFieldName IsText (groups_from (fields_in fs))
  fields_names (first_field f gap fs) after h = field_names f (gap ++ more_bytes fs after) (groups_from (more_in fs)) h.0 (more_names fs after h.2)

  field_names : (f : FieldSyntax) (after : List ℕ) (gs : Groups) → IsWellField f after → EachFieldName IsText gs → EachFieldName IsText (field (field_in f).0 (field_in f).1 gs)
  field_names (entry name before gap w) after gs h rest = (name_utf8 name h.0, names_text w after h.3, rest)

  more_names : (fs : MoreFieldsSyntax) (after : List ℕ) → AreWellMore fs after → EachFieldName IsText (groups_from (more_in fs))
  more_names end_fields after h = tt
  more_names (next_field before f gap fs) after h = field_names f (gap ++ more_bytes fs after) (groups_from (more_in fs)) h.1 (more_names fs after h.3)

-- Both together.

-- a name that a schema element can have
pub record IsNamed (name : List ℕ) : Type 0 where
  pub utf8 : is_utf8 name ≡ true
  pub short : length name < 2 ^ 32

pub plain_named : (name : List ℕ) → is_name name ≡ true → length name < 2 ^ 32 → IsNamed name
plain_named name is short = record { utf8 = is_utf8-from_IsUtf8 name (IsUtf8-from_ascii name (names_ascii name (name_passes name is))); short = short }

named : (most : ℕ) (name : List ℕ) → most < 2 ^ 32 → is_utf8 name ≡ true → length name ≤ most → IsNamed name
named most name low utf8 short = record { utf8 = utf8; short = omega (arith, low, short) }

module _ (most : ℕ) (low : most < 2 ^ 32) where
  mutual
    both_named : (n : Group) → EachName IsText n → EachName (λ name. length name ≤ most) n → EachName IsNamed n
    both_named (group s t) h k = kind_both t h k

    kind_both : (t : Kind) → EachNameIn IsText t → EachNameIn (λ name. length name ≤ most) t → EachNameIn IsNamed t
    kind_both free h k = tt
    kind_both (scalar q) h k = tt
    kind_both (object_of gs) h k = fields_both gs h k
    kind_both (list_of n) h k = both_named n h k

    fields_both : (gs : Groups) → EachFieldName IsText gs → EachFieldName (λ name. length name ≤ most) gs → EachFieldName IsNamed gs
    fields_both no_groups h k = tt
    fields_both (field name n gs) h k = (named most name low h.0 k.0, both_named n h.1 k.1, fields_both gs h.2 k.2)

pub schema_named : (text : List ℕ) (n : Group) → IsSchema text n → EachName IsNamed n
schema_named text n is =
    let canonical : IsSchema (schema_text n) n = canonical_is_schema text n is in
    both_named most_bytes (omega arith) n
    (subst (EachName IsText) (sym is.means) (at_top_named (schema_of is.written) (names_text is.written [] is.well)))
    (names_within most_bytes n canonical.short)
