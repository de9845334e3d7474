-- The canonical text of a schema: no spaces, the fields in their order, and a name in quotes only where it
-- needs them.
use Rattle.std.specs.Prelude.{ℕ, List, [], ◌∷◌, ◌++◌, if◌then◌else◌, codes, decimal}
use Rattle.vs_bytes.specs.declared.leaf_columns.PrimKind.{PrimKind}
use Rattle.vs_bytes.specs.declared.leaf_columns.PrimKind.TheVariants.{Raw, Boolean, Int8, Int16, Int32, Int64, Decimal, Text, Refused}
use Rattle.byte_parsing.specs.Bytes.{open_parenthesis, close_parenthesis, comma, colon, open_bracket, close_bracket, open_brace, close_brace}
use Rattle.byte_parsing.specs.Words.{is_name}
use Rattle.json_tree.specs.Text.{quoted}
use Rattle.shred_schema.specs.Groups.{Group, group, Kind, free, scalar, object_of, list_of, Groups, no_groups, field}
use Rattle.schema_parsing.specs.Grammar.{IsSchema}

abbrev pub name_text : List ℕ → List ℕ
name_text name = if is_name name then name else quoted name

-- no schema has a column of raw bytes, nor one of a kind that isn't read
abbrev pub prim_text : PrimKind → List ℕ
prim_text Raw = []
prim_text Boolean = codes "boolean"
prim_text Int8 = codes "int8"
prim_text Int16 = codes "int16"
prim_text Int32 = codes "int32"
prim_text Int64 = codes "int64"
prim_text (Decimal p s) = codes "decimal" ++ open_parenthesis ∷ (decimal p ++ comma ∷ (decimal s ++ close_parenthesis ∷ []))
prim_text Text = codes "string"
prim_text (Refused rule) = []

abbrev mutual
  pub schema_text : Group → List ℕ
  schema_text (group slot kind) = kind_text kind

  pub kind_text : Kind → List ℕ
  kind_text free = codes "variant"
  kind_text (scalar prim) = prim_text prim
  kind_text (object_of fields) = open_brace ∷ (fields_text fields ++ close_brace ∷ [])
  kind_text (list_of item) = open_bracket ∷ (schema_text item ++ close_bracket ∷ [])

  -- fields with a comma between two of them
  pub fields_text : Groups → List ℕ
  fields_text no_groups = []
  fields_text (field name schema fields) = name_text name ++ colon ∷ (schema_text schema ++ more_text fields)

  pub more_text : Groups → List ℕ
  more_text no_groups = []
  more_text (field name schema fields) = comma ∷ (name_text name ++ colon ∷ (schema_text schema ++ more_text fields))

-- what a text of the grammar is the schema of
pub record HasText (schema : Group) : Type 0 where
  pub text : List ℕ
  pub is_schema : IsSchema text schema
