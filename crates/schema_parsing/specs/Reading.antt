-- The reading of a schema as functions on lists, call by call as the parser makes them. They give the
-- derivation tree and the bytes after it. The braces and brackets that may still be opened are the recursion's
-- measure.
use Rattle.std.specs.Prelude.{◌==◌, nat_le, ℕ, ◌+◌, ◌-◌, ◌*◌, suc, zero, List, [], ◌∷◌, Bool, ◌&&◌, if◌then◌else◌, Option, Some, None, codes, length}
use Rattle.std.specs.Option.{option_map}
use Rattle.std.specs.Str.{bytes_eq}
use Rattle.vs_bytes.specs.Names.{repeats}
use Rattle.byte_parsing.specs.Bytes.{quote, digit_zero, open_parenthesis, close_parenthesis, comma, colon, open_bracket, close_bracket, open_brace, close_brace}
use Rattle.byte_parsing.specs.Lists.{some_at}
use Rattle.byte_parsing.specs.Parse.{Parse, and_then, front, back, past}
use Rattle.byte_parsing.specs.Words.{is_digit, is_name, is_name_byte, is_space, gap_of, past_gap}
use Rattle.json_strings.specs.Reading.{paired_string_at}
use Rattle.shred_schema.specs.Groups.{width}
use Rattle.schema_parsing.specs.Grammar.{NameSyntax, bare, quoted, ArgumentSyntax, argument, SchemaSyntax, worded, scaled, braced, bracketed, FieldSyntax, entry, FieldsSyntax, first_field, end_fields, next_field, number_of, kind_named, schema_of, fields_in, names_of, at_top}
use Rattle.schema_parsing.specs.Limits.{most_bytes, most_nesting, most_leaves, most_precision}

-- Words.

-- the number of one digit or two, with no 0 in front
abbrev pub short_number : List ℕ → Option ℕ
short_number [] = None
short_number (d ∷ []) = Some (d - digit_zero)
short_number (d ∷ (e ∷ [])) = if d == digit_zero then None else Some ((d - digit_zero) * 10 + (e - digit_zero))
short_number (d ∷ (e ∷ (f ∷ ds))) = None

abbrev pub number_at : Parse ℕ
number_at xs = option_map (λ n. (n, back is_digit xs)) (short_number (front is_digit xs))

-- an opening byte and a number, with spaces before each
unfoldable pub argument_at : ℕ → Parse ArgumentSyntax
argument_at opening xs =
    and_then (past opening (past_gap xs)) (λ ys. option_map (λ n. (argument (gap_of xs) (gap_of ys) n.0, n.1)) (number_at (past_gap ys)))

-- whether these are a precision and a scale
abbrev pub is_decimal : ℕ → ℕ → Bool
is_decimal p s = nat_le 1 p && (nat_le p most_precision && nat_le s p)

-- after `decimal`
unfoldable pub scaled_at : Parse SchemaSyntax
scaled_at xs =
    and_then (argument_at open_parenthesis xs) (λ p.
    and_then (argument_at comma p.1) (λ s.
    and_then (past close_parenthesis (past_gap s.1)) (λ rest.
    if is_decimal (number_of p.0) (number_of s.0) then Some (scaled p.0 s.0 (gap_of s.1), rest) else None)))

-- a word, and the bytes after it
abbrev pub word_by : List ℕ → Parse SchemaSyntax
word_by word rest = if bytes_eq word (codes "decimal") then scaled_at rest else option_map (λ kind. (worded word kind, rest)) (kind_named word)

-- all letters, digits and `_` that stand first are one word
unfoldable pub word_at : Parse SchemaSyntax
word_at xs = word_by (front is_name_byte xs) (back is_name_byte xs)

-- Names.

abbrev pub bare_at : Parse NameSyntax
bare_at xs = if is_name (front is_name_byte xs) then Some (bare (front is_name_byte xs), back is_name_byte xs) else None

-- what is read after an opening byte, or else what `other` says
abbrev pub opened : {A : Type 0} → Parse A → Option (List ℕ) → Option (A × List ℕ) → Option (A × List ℕ)
opened inside None other = other
opened inside (Some xs) other = inside xs

-- after a quote
abbrev pub string_name : Parse NameSyntax
string_name xs = option_map (λ r. (quoted r.0, r.1)) (paired_string_at xs)

unfoldable pub name_at : Parse NameSyntax
name_at xs = opened string_name (past quote xs) (bare_at xs)

-- Schemas, by what may stand inside them.

abbrev pub field_at : Parse SchemaSyntax → Parse FieldSyntax
field_at schema xs =
    and_then (name_at xs) (λ name.
    and_then (past colon (past_gap name.1)) (λ ys.
    option_map (λ w. (entry name.0 (gap_of name.1) (gap_of ys) w.0, w.1)) (schema (past_gap ys))))

abbrev pub fields_at : Parse SchemaSyntax → Parse FieldsSyntax
fields_at schema xs = some_at is_space close_brace first_field end_fields next_field (field_at schema) xs

-- after an opening brace
abbrev pub braced_at : Parse SchemaSyntax → Parse SchemaSyntax
braced_at schema xs =
    and_then (fields_at schema (past_gap xs)) (λ fs. if repeats (names_of (fields_in fs.0)) then None else Some (braced (gap_of xs) fs.0, fs.1))

-- after an opening bracket
abbrev pub bracketed_at : Parse SchemaSyntax → Parse SchemaSyntax
bracketed_at schema xs =
    and_then (schema (past_gap xs)) (λ w. option_map (λ rest. (bracketed (gap_of xs) w.0 (gap_of w.1), rest)) (past close_bracket (past_gap w.1)))

abbrev pub schema_by : Parse SchemaSyntax → Parse SchemaSyntax → Parse SchemaSyntax
schema_by after_brace after_bracket xs = opened after_brace (past open_brace xs) (opened after_bracket (past open_bracket xs) (word_at xs))

unfoldable pub schema_at : ℕ → Parse SchemaSyntax
schema_at zero xs = schema_by (λ ys. None) (λ ys. None) xs
schema_at (suc depth) xs = schema_by (λ ys. braced_at (λ zs. schema_at depth zs) ys) (λ ys. bracketed_at (λ zs. schema_at depth zs) ys) xs

-- Whole texts.

abbrev pub whole : Option (SchemaSyntax × List ℕ) → Option SchemaSyntax
whole read = and_then read (λ r. ended_at r.0 r.1)
  where
    ended_at : SchemaSyntax → List ℕ → Option SchemaSyntax
    ended_at w [] = Some w
    ended_at w (x ∷ xs) = None

-- a schema that has no more leaves than one may have
abbrev pub if_few : SchemaSyntax → Option SchemaSyntax
if_few w = if nat_le (width (at_top (schema_of w)) + 1) most_leaves then Some w else None

-- a whole text, which has no more bytes than a schema may have
abbrev pub text_at : List ℕ → Option SchemaSyntax
text_at text = if nat_le (length text) most_bytes then and_then (whole (schema_at most_nesting text)) (λ w. if_few w) else None
