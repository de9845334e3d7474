-- Values of JSON as lists of tokens, from which they are made again: a value of a Model has a code.
use Rattle.std.specs.Prelude.{◌≡◌, ◌==◌, ℕ, ℤ, pos, List, [], ◌∷◌, true, false, cond}
use Rattle.std.proofs.Common.{refl, ◌∙◌, ap}
use Rattle.std.specs.Coded.{Coded, code_by, coded×, coded_ℕ, coded_ℤ, coded_list}
use Rattle.json_tree.specs.Json.{Json, null, boolean, number, text, array, object, Parts, no_parts, part, Fields, no_fields, field}

-- a kind, and the number and the bytes that it has
abbrev Token : Type 0
Token = ℕ × (ℤ × (ℕ × List ℕ))

abbrev token_code : Coded Token
token_code = coded× coded_ℕ (coded× coded_ℤ (coded× coded_ℕ (coded_list coded_ℕ)))

abbrev mark : ℕ → Token
mark kind = (kind, (pos 0, (0, [])))

-- in postfix order
abbrev mutual
  tokens : Json → List Token → List Token
  tokens null after = mark 0 ∷ after
  tokens (boolean b) after = cond b (mark 1) (mark 2) ∷ after
  tokens (number d) after = (3, (d.unscaled, (d.scale, []))) ∷ after
  tokens (text s) after = (4, (pos 0, (0, s))) ∷ after
  tokens (array ps) after = parts_tokens ps (mark 5 ∷ after)
  tokens (object fs) after = fields_tokens fs (mark 6 ∷ after)

  parts_tokens : Parts → List Token → List Token
  parts_tokens no_parts after = mark 7 ∷ after
  parts_tokens (part j ps) after = parts_tokens ps (tokens j (mark 8 ∷ after))

  fields_tokens : Fields → List Token → List Token
  fields_tokens no_fields after = mark 9 ∷ after
  fields_tokens (field name j fs) after = fields_tokens fs (tokens j ((10, (pos 0, (0, name))) ∷ after))

-- the values, items and members that are made so far
record Made : Type 0 where
  values : List Json
  parts : List Parts
  fields : List Fields

abbrev with_value : Json → Made → Made
with_value j m = record { values = j ∷ m.values; parts = m.parts; fields = m.fields }

abbrev with_parts : Parts → Made → Made
with_parts ps m = record { values = m.values; parts = ps ∷ m.parts; fields = m.fields }

abbrev with_fields : Fields → Made → Made
with_fields fs m = record { values = m.values; parts = m.parts; fields = fs ∷ m.fields }

abbrev first_value : List Json → Json
first_value [] = null
first_value (j ∷ js) = j

abbrev first_parts : List Parts → Parts
first_parts [] = no_parts
first_parts (ps ∷ qs) = ps

abbrev first_fields : List Fields → Fields
first_fields [] = no_fields
first_fields (fs ∷ gs) = fs

abbrev others : {A : Type 0} → List A → List A
others [] = []
others (x ∷ xs) = xs

abbrev step : Token → Made → Made
step (kind, (unscaled, (scale, bytes))) m =
    cond (kind == 0) (with_value null m)
    (cond (kind == 1) (with_value (boolean true) m)
    (cond (kind == 2) (with_value (boolean false) m)
    (cond (kind == 3) (with_value (number (record { unscaled = unscaled; scale = scale })) m)
    (cond (kind == 4) (with_value (text bytes) m)
    (cond (kind == 5) (record { values = array (first_parts m.parts) ∷ m.values; parts = others m.parts; fields = m.fields })
    (cond (kind == 6) (record { values = object (first_fields m.fields) ∷ m.values; parts = m.parts; fields = others m.fields })
    (cond (kind == 7) (with_parts no_parts m)
    (cond (kind == 8) (record { values = others m.values; parts = part (first_value m.values) (first_parts m.parts) ∷ others m.parts; fields = m.fields })
    (cond (kind == 9) (with_fields no_fields m)
    (record { values = others m.values; parts = m.parts; fields = field bytes (first_value m.values) (first_fields m.fields) ∷ others m.fields }))))))))))

abbrev made : List Token → Made → Made
made [] m = m
made (t ∷ ts) m = made ts (step t m)

mutual
  value_made : (j : Json) (after : List Token) (m : Made) → made (tokens j after) m ≡ made after (with_value j m)
  value_made null after m = refl
  value_made (boolean true) after m = refl
  value_made (boolean false) after m = refl
  value_made (number d) after m = refl
  value_made (text s) after m = refl
  value_made (array ps) after m = parts_made ps (mark 5 ∷ after) m
  value_made (object fs) after m = fields_made fs (mark 6 ∷ after) m

  parts_made : (ps : Parts) (after : List Token) (m : Made) → made (parts_tokens ps after) m ≡ made after (with_parts ps m)
  parts_made no_parts after m = refl
  parts_made (part j ps) after m = parts_made ps (tokens j (mark 8 ∷ after)) m ∙ value_made j (mark 8 ∷ after) (with_parts ps m)

  fields_made : (fs : Fields) (after : List Token) (m : Made) → made (fields_tokens fs after) m ≡ made after (with_fields fs m)
  fields_made no_fields after m = refl
  fields_made (field name j fs) after m = fields_made fs (tokens j ((10, (pos 0, (0, name))) ∷ after)) m ∙ value_made j ((10, (pos 0, (0, name))) ∷ after) (with_fields fs m)

abbrev nothing : Made
nothing = record { values = []; parts = []; fields = [] }

abbrev parts_in : List Token → Parts
parts_in ts = first_parts (made ts nothing).parts

abbrev fields_in : List Token → Fields
fields_in ts = first_fields (made ts nothing).fields

pub parts_back : (ps : Parts) → parts_in (parts_tokens ps []) ≡ ps
parts_back ps = ap (λ (m : Made). first_parts m.parts) (parts_made ps [] nothing)

pub fields_back : (fs : Fields) → fields_in (fields_tokens fs []) ≡ fs
fields_back fs = ap (λ (m : Made). first_fields m.fields) (fields_made fs [] nothing)

abbrev pub parts_code : Coded Parts
parts_code = code_by (List Token) (coded_list token_code) (λ ps. parts_tokens ps []) parts_in parts_back

abbrev pub fields_code : Coded Fields
fields_code = code_by (List Token) (coded_list token_code) (λ fs. fields_tokens fs []) fields_in fields_back
