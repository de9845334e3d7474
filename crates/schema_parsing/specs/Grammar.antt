-- How a schema is written, as derivation trees:
--
--     schema = word / "decimal" "(" number "," number ")" / "{" field *( "," field ) "}" / "[" schema "]"
--     field  = ( name / string ) ":" schema
--     word   = "variant" / "boolean" / "int8" / "int16" / "int32" / "int64" / "string"
--
-- Between two of these parts stand any number of spaces. A name is a letter or `_`, then letters, digits and
-- `_`. A string is a string of JSON in which no surrogate is without its partner. A number is 0, or digits of
-- which the first isn't 0: the precision of a decimal, which is 1 to 38, and its scale, which is no greater. A
-- word ends where no letter, digit or `_` comes directly after it. The fields of one group have different names.
use Rattle.std.specs.Prelude.{◌≡◌, ℕ, ◌+◌, ◌≤◌, List, [], ◌∷◌, ◌++◌, true, false, map, if◌then◌else◌, Option, Some, None, codes, decimal, length}
use Rattle.std.specs.Option.{option_map}
use Rattle.std.specs.Str.{bytes_eq}
use Rattle.vs_bytes.specs.Names.{repeats}
use Rattle.vs_bytes.specs.declared.leaf_columns.PrimKind.{PrimKind}
use Rattle.vs_bytes.specs.declared.leaf_columns.PrimKind.TheVariants.{Boolean, Int8, Int16, Int32, Int64, Decimal, Text}
use Rattle.byte_parsing.specs.Bytes.{quote, open_parenthesis, close_parenthesis, comma, colon, open_bracket, close_bracket, open_brace, close_brace}
use Rattle.byte_parsing.specs.Words.{is_name, EndsName, AreSpaces}
use Rattle.json_strings.specs.Pieces.{Piece, pieces_spelled}
use Rattle.json_strings.specs.Meaning.{IsString, text_of, lone_of}
use Rattle.shred_schema.specs.Groups.{Group, group, Kind, free, scalar, object_of, list_of, groups_from, width, nesting}
use Rattle.shred_schema.specs.declared.nodes.Slot.TheVariants.{Required, Optional}
use Rattle.schema_parsing.specs.Limits.{most_bytes, most_nesting, most_leaves, most_precision}

-- one way to write a name
pub data NameSyntax : Type 0 where
  -- name
  bare : List ℕ → NameSyntax
  -- string
  quoted : List Piece → NameSyntax

-- one way to write a number of a decimal, after the byte that opens it: spaces round that byte, and the number
pub data ArgumentSyntax : Type 0 where
  argument : List ℕ → List ℕ → ℕ → ArgumentSyntax

-- one way to write a schema
mutual
  pub data SchemaSyntax : Type 0 where
    -- schema = word, with the kind that it stands for
    worded : List ℕ → Kind → SchemaSyntax
    -- schema = "decimal" "(" number "," number ")", with spaces before the last part
    scaled : ArgumentSyntax → ArgumentSyntax → List ℕ → SchemaSyntax
    -- schema = "{" field *( "," field ) "}", with spaces after the brace
    braced : List ℕ → FieldsSyntax → SchemaSyntax
    -- schema = "[" schema "]", with spaces inside the brackets
    bracketed : List ℕ → SchemaSyntax → List ℕ → SchemaSyntax

  -- field = ( name / string ) ":" schema, with spaces round the colon
  pub data FieldSyntax : Type 0 where
    entry : NameSyntax → List ℕ → List ℕ → SchemaSyntax → FieldSyntax

  -- a field, spaces, and the fields after it
  pub data FieldsSyntax : Type 0 where
    first_field : FieldSyntax → List ℕ → MoreFieldsSyntax → FieldsSyntax

  -- fields that each come after a comma, up to the closing brace
  pub data MoreFieldsSyntax : Type 0 where
    end_fields : MoreFieldsSyntax
    next_field : List ℕ → FieldSyntax → List ℕ → MoreFieldsSyntax → MoreFieldsSyntax

-- The bytes, with `after` after them.

abbrev pub name_bytes : NameSyntax → List ℕ → List ℕ
name_bytes (bare name) after = name ++ after
name_bytes (quoted ps) after = quote ∷ pieces_spelled ps after

abbrev pub argument_bytes : ℕ → ArgumentSyntax → List ℕ → List ℕ
argument_bytes opening (argument before gap n) after = before ++ opening ∷ (gap ++ (decimal n ++ after))

abbrev mutual
  pub schema_bytes : SchemaSyntax → List ℕ → List ℕ
  schema_bytes (worded word kind) after = word ++ after
  schema_bytes (scaled p s gap) after = codes "decimal" ++ argument_bytes open_parenthesis p (argument_bytes comma s (gap ++ close_parenthesis ∷ after))
  schema_bytes (braced gap fs) after = open_brace ∷ (gap ++ fields_bytes fs after)
  schema_bytes (bracketed before w gap) after = open_bracket ∷ (before ++ schema_bytes w (gap ++ close_bracket ∷ after))

  pub field_bytes : FieldSyntax → List ℕ → List ℕ
  field_bytes (entry name before gap w) after = name_bytes name (before ++ colon ∷ (gap ++ schema_bytes w after))

  pub fields_bytes : FieldsSyntax → List ℕ → List ℕ
  fields_bytes (first_field f gap fs) after = field_bytes f (gap ++ more_bytes fs after)

  pub more_bytes : MoreFieldsSyntax → List ℕ → List ℕ
  more_bytes end_fields after = close_brace ∷ after
  more_bytes (next_field before f gap fs) after = comma ∷ (before ++ field_bytes f (gap ++ more_bytes fs after))

-- What it means.

abbrev pub name_of : NameSyntax → List ℕ
name_of (bare name) = name
name_of (quoted ps) = text_of ps

abbrev pub number_of : ArgumentSyntax → ℕ
number_of (argument before gap n) = n

-- what a word stands for

unfoldable pub prim_named : List ℕ → Option PrimKind
prim_named word =
    if bytes_eq word (codes "boolean") then Some Boolean
    else (if bytes_eq word (codes "int8") then Some Int8
    else (if bytes_eq word (codes "int16") then Some Int16
    else (if bytes_eq word (codes "int32") then Some Int32
    else (if bytes_eq word (codes "int64") then Some Int64
    else (if bytes_eq word (codes "string") then Some Text
    else None)))))

unfoldable pub kind_named : List ℕ → Option Kind
kind_named word = if bytes_eq word (codes "variant") then Some free else option_map (λ prim. scalar prim) (prim_named word)

abbrev mutual
  pub schema_of : SchemaSyntax → Group
  schema_of (worded word kind) = group Optional kind
  schema_of (scaled p s gap) = group Optional (scalar (Decimal (number_of p) (number_of s)))
  schema_of (braced gap fs) = group Optional (object_of (groups_from (fields_in fs)))
  schema_of (bracketed before w gap) = group Optional (list_of (schema_of w))

  -- a field's name and schema
  pub field_in : FieldSyntax → List ℕ × Group
  field_in (entry name before gap w) = (name_of name, schema_of w)

  pub fields_in : FieldsSyntax → List (List ℕ × Group)
  fields_in (first_field f gap fs) = field_in f ∷ more_in fs

  pub more_in : MoreFieldsSyntax → List (List ℕ × Group)
  more_in end_fields = []
  more_in (next_field before f gap fs) = field_in f ∷ more_in fs

abbrev pub names_of : List (List ℕ × Group) → List (List ℕ)
names_of fields = map (λ field. field.0) fields

-- What the grammar asks, with `after` after the bytes.

abbrev pub IsWellName : NameSyntax → Type 0
IsWellName (bare name) = is_name name ≡ true
IsWellName (quoted ps) = IsString ps × (lone_of ps ≡ false)

abbrev pub IsWellArgument : ArgumentSyntax → Type 0
IsWellArgument (argument before gap n) = AreSpaces before × AreSpaces gap

-- a precision and a scale
abbrev pub IsDecimal : ℕ → ℕ → Type 0
IsDecimal p s = (1 ≤ p) × (p ≤ most_precision) × (s ≤ p)

abbrev mutual
  pub IsWell : SchemaSyntax → List ℕ → Type 0
  IsWell (worded word kind) after = (kind_named word ≡ Some kind) × EndsName after
  IsWell (scaled p s gap) after = IsWellArgument p × IsWellArgument s × AreSpaces gap × IsDecimal (number_of p) (number_of s)
  IsWell (braced gap fs) after = AreSpaces gap × AreWellFields fs after × (repeats (names_of (fields_in fs)) ≡ false)
  IsWell (bracketed before w gap) after = AreSpaces before × IsWell w (gap ++ close_bracket ∷ after) × AreSpaces gap

  pub IsWellField : FieldSyntax → List ℕ → Type 0
  IsWellField (entry name before gap w) after = IsWellName name × AreSpaces before × AreSpaces gap × IsWell w after

  pub AreWellFields : FieldsSyntax → List ℕ → Type 0
  AreWellFields (first_field f gap fs) after = IsWellField f (gap ++ more_bytes fs after) × AreSpaces gap × AreWellMore fs after

  pub AreWellMore : MoreFieldsSyntax → List ℕ → Type 0
  AreWellMore end_fields after = Unit {0}
  AreWellMore (next_field before f gap fs) after = AreSpaces before × IsWellField f (gap ++ more_bytes fs after) × AreSpaces gap × AreWellMore fs after

-- the schema of a whole column: a value that nothing is taken out of is always there
abbrev pub at_top : Group → Group
at_top (group slot free) = group Required free
at_top (group slot (scalar prim)) = group slot (scalar prim)
at_top (group slot (object_of fields)) = group slot (object_of fields)
at_top (group slot (list_of item)) = group slot (list_of item)

-- a text is this schema, within the limits
pub record IsSchema (text : List ℕ) (schema : Group) : Type 0 where
  pub written : SchemaSyntax
  pub bytes : text ≡ schema_bytes written []
  pub well : IsWell written []
  pub means : schema ≡ at_top (schema_of written)
  pub short : length text ≤ most_bytes
  pub shallow : nesting schema ≤ most_nesting
  pub few : width schema + 1 ≤ most_leaves
